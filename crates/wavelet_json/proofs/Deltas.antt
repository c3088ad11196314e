-- Deltas by their bytes.
use Rattle.std.proofs.Common.{◌≡◌, ◌≤◌, ◌<◌, ℕ, List, Option, None, Some, Result, Ok, Err, refl, ap, ◌∙◌}
use Rattle.op_codec.proofs.Fields.{IsBytes}
use Rattle.op_codec.specs.Reading.{Gives}
use Rattle.op_codec.specs.declared.fault.CodecFault.{CodecFault}
use Rattle.op_codec.specs.declared.fault.CodecFault.TheVariants.{BadBytes, Memory}
use Rattle.wavelet_op.specs.Deltas.{DeltaOf}
use Rattle.wavelet_codec.specs.Spelling.{delta_bytes, IsDelta, IsDeltaBytes}
use Rattle.wavelet_codec.specs.Reading.{delta_at}
use Rattle.wavelet_codec.proofs.Deltas.{is_delta, has_bytes, read_again}

no_memory : BadBytes ≡ Memory → ⊥
no_memory e = cc

-- what bytes are read as, for a delta that has them
again_from : (hash bytes : List ℕ) → IsBytes bytes → (d : DeltaOf) → IsDelta d → d.from.hash ≡ hash → bytes ≡ delta_bytes d → (o : Option DeltaOf) → delta_at hash bytes ≡ o → delta_at hash bytes ≡ Some d
again_from hash bytes fits d h at is None e = absurd (no_memory (read_again hash bytes fits d h at is (Err BadBytes) e))
again_from hash bytes fits d h at is (Some x) e = e ∙ ap Some (read_again hash bytes fits d h at is (Ok x) e)

pub is_read : (hash bytes : List ℕ) → IsBytes bytes → (d : DeltaOf) → IsDelta d → d.from.hash ≡ hash → bytes ≡ delta_bytes d → delta_at hash bytes ≡ Some d
is_read hash bytes fits d h at is = again_from hash bytes fits d h at is (delta_at hash bytes) refl

none_from : (hash bytes : List ℕ) → IsBytes bytes → ¬ (IsDeltaBytes bytes) → (o : Option DeltaOf) → delta_at hash bytes ≡ o → delta_at hash bytes ≡ None
none_from hash bytes fits h None e = e
none_from hash bytes fits h (Some d) e = absurd (h (d, is_delta hash bytes fits (Ok d) e, has_bytes hash bytes fits (Ok d) e))

pub is_none : (hash bytes : List ℕ) → IsBytes bytes → ¬ (IsDeltaBytes bytes) → delta_at hash bytes ≡ None
is_none hash bytes fits h = none_from hash bytes fits h (delta_at hash bytes) refl
