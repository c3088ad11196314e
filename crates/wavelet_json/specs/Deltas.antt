-- Deltas of a history, by their bytes.
--     at_version v o      the delta, where it was applied at this version
--     delta_of d          the delta whose bytes stand in base64 in the member `delta`, and which was applied at the version in
--                         `version`, where the hash is that in `hash`
--     delta_text b        what is written for the bytes
use Rattle.std.specs.Prelude.{ℕ, ◌==◌, if◌then◌else◌, List, Option, Some, None, option_and_then, codes}
use Rattle.serde_json.specs.Data.{Data}
use Rattle.wavelet_op.specs.Deltas.{DeltaOf}
use Rattle.wavelet_codec.specs.Reading.{delta_at}
use Rattle.json_fields.specs.Read.{in_member, bytes_of, version_of}

abbrev pub at_version : ℕ → Option DeltaOf → Option DeltaOf
at_version v o = option_and_then (λ delta. if delta.from.version == v then Some delta else None) o

abbrev pub delta_of : Data → Option DeltaOf
delta_of d = option_and_then (λ from. option_and_then (λ bytes. at_version from.version (delta_at from.hash bytes))
    (in_member bytes_of (codes "delta") d)) (version_of d)
