-- Lines that aren't UTF-8.
use Rattle.std.proofs.Common.{◌≡◌, ℕ, Bool, true, false, List, refl}
use Rattle.std.specs.Str.{IsUtf8, is_utf8}
use Rattle.std.proofs.lemmas.Str.{IsUtf8-from_is_utf8}

pub not_utf8 : (bs : List ℕ) → (¬ (IsUtf8 bs)) → is_utf8 bs ≡ false
not_utf8 bs n = go (is_utf8 bs) refl
  where
    go : (b : Bool) → is_utf8 bs ≡ b → b ≡ false
    go true e = absurd (n (IsUtf8-from_is_utf8 bs e))
    go false e = refl
