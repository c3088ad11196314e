-- A text of one ASCII character.
use Rattle.std.proofs.Common.{◌≡◌, ℕ, ◌<◌, ◌-◌, [], ◌∷◌, true, cond, nat_lt, ap, arith}
use Rattle.std.specs.Str.{chars, chars_after}
use Rattle.std.proofs.lemmas.Bool.Decides.{nat_tests}

lt_true : (a b : ℕ) → a < b → nat_lt a b ≡ true
lt_true a b h = grind (arith, nat_tests)

pub one_character : (b : ℕ) → b < 128 → chars (b ∷ []) ≡ b ∷ []
unfolding chars
one_character b h = ap (λ t. chars_after (cond t 0 (cond (nat_lt b 224) 1 (cond (nat_lt b 240) 2 3))) (cond t b (cond (nat_lt b 224) (b - 192) (cond (nat_lt b 240) (b - 224) (b - 240)))) []) (lt_true b 128 h)
