-- Numbers in the words of commands.
--     is_digit c          a byte is a decimal digit
--     digits n cs         the number that goes on with these digits; None where one of them is none, and above 64 bits
--     number cs           decimal digits without a leading zero
use Rattle.std.specs.Prelude.{ℕ, ◌+◌, ◌-◌, ◌*◌, ◌^◌, ◌==◌, ◌&&◌, nat_le, nat_lt, Bool, cond, List, [], ◌∷◌, Option, Some, None}

abbrev pub is_digit : ℕ → Bool
is_digit c = nat_le 48 c && nat_le c 57

abbrev pub digits : ℕ → List ℕ → Option ℕ
digits n [] = Some n
digits n (c ∷ cs) = cond (is_digit c && nat_lt (n * 10 + (c - 48)) (2 ^ 64)) (digits (n * 10 + (c - 48)) cs) None

abbrev pub number : List ℕ → Option ℕ
number [] = None
number (c ∷ []) = digits 0 (c ∷ [])
number (c ∷ d ∷ cs) = cond (c == 48) None (digits 0 (c ∷ d ∷ cs))
