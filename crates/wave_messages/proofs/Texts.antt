-- Bytes as a JSON text.
use Rattle.std.proofs.Common.{◌≡◌, ℕ, List, Bool, true, false, if◌then◌else◌, None, refl, ap, ◌∙◌}
use Rattle.std.specs.Str.{is_utf8, IsUtf8}
use Rattle.std.proofs.lemmas.Str.{IsUtf8-from_is_utf8, is_utf8-from_IsUtf8}
use Rattle.serde_json.specs.Read.{read}
use Rattle.wave_messages.specs.Read.{data_of}

pub is_data : (b : List ℕ) → IsUtf8 b → data_of b ≡ read b
is_data b h = ap (λ t. if t then read b else None) (is_utf8-from_IsUtf8 b h)

none_from : (b : List ℕ) (t : Bool) → is_utf8 b ≡ t → (IsUtf8 b → read b ≡ None) → data_of b ≡ None
none_from b true e h = is_data b (IsUtf8-from_is_utf8 b e) ∙ h (IsUtf8-from_is_utf8 b e)
none_from b false e h = ap (λ t. if t then read b else None) e

pub no_data : (b : List ℕ) → (IsUtf8 b → read b ≡ None) → data_of b ≡ None
no_data b h = none_from b (is_utf8 b) refl h
