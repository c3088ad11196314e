-- What the kit's test of UTF-8 says, as the test in a definition.
use Rattle.std.proofs.Common.{◌≡◌, ℕ, Bool, true, false, List, refl}
use Rattle.std.specs.Str.{is_utf8, IsUtf8}
use Rattle.std.proofs.lemmas.Str.{IsUtf8-from_is_utf8, is_utf8-from_IsUtf8}

pub is_text : (bs : List ℕ) → IsUtf8 bs → is_utf8 bs ≡ true
is_text bs h = is_utf8-from_IsUtf8 bs h

never : (b : Bool) → ¬ (b ≡ true) → b ≡ false
never true h = absurd (h refl)
never false h = refl

pub no_text : (bs : List ℕ) → ¬ (IsUtf8 bs) → is_utf8 bs ≡ false
no_text bs h = never (is_utf8 bs) (λ e. h (IsUtf8-from_is_utf8 bs e))
