-- Bytes of lines, one more.
--     read_none                       none
--     read_more, read_line            one more, and one that ends the line
--     read_front, read_ended          the lines begin those of the input; they are those that have ended
--     read_whole, read_last           at the end of the input, with no byte of a line open, and with some
use Rattle.std.proofs.Common.{◌≡◌, refl, sym, ap, ◌∙◌, ℕ, ◌==◌, true, false, cond, List, [], ◌∷◌, ◌++◌, append_assoc, append-nil}
use mathlib.Core.List.{IsPrefix}
use Rattle.client_terminal.specs.Inputs.{ended_by, open_by, last_of, input_lines, IsRead}

pub read_none : IsRead [] [] []
read_none = record { ended = λ rest. refl; begun = λ rest. refl }

module _ (read : List ℕ) (ls : List (List ℕ)) (line : List ℕ) (h : IsRead read ls line) where
  pub read_more : (b : ℕ) → (b == 10) ≡ false → IsRead (read ++ b ∷ []) ls (line ++ b ∷ [])
  read_more b other = record {
    ended = λ rest. ap (ended_by []) (append_assoc read (b ∷ []) rest) ∙ h.ended (b ∷ rest) ∙ ap (λ c. ls ++ cond c (line ∷ ended_by [] rest) (ended_by (line ++ b ∷ []) rest)) other;
    begun = λ rest. ap (open_by []) (append_assoc read (b ∷ []) rest) ∙ h.begun (b ∷ rest) ∙ ap (λ c. cond c (open_by [] rest) (open_by (line ++ b ∷ []) rest)) other;
  }

  pub read_line : (b : ℕ) → (b == 10) ≡ true → IsRead (read ++ b ∷ []) (ls ++ line ∷ []) []
  read_line b feed = record {
    ended = λ rest. ap (ended_by []) (append_assoc read (b ∷ []) rest) ∙ h.ended (b ∷ rest) ∙ ap (λ c. ls ++ cond c (line ∷ ended_by [] rest) (ended_by (line ++ b ∷ []) rest)) feed ∙ sym (append_assoc ls (line ∷ []) (ended_by [] rest));
    begun = λ rest. ap (open_by []) (append_assoc read (b ∷ []) rest) ∙ h.begun (b ∷ rest) ∙ ap (λ c. cond c (open_by [] rest) (open_by (line ++ b ∷ []) rest)) feed;
  }

  pub read_front : (rest : List ℕ) → IsPrefix ls (input_lines (read ++ rest))
  read_front rest = (
    ended_by line rest ++ last_of (open_by [] (read ++ rest)),
    sym (append_assoc ls (ended_by line rest) (last_of (open_by [] (read ++ rest)))) ∙ ap (λ v. v ++ last_of (open_by [] (read ++ rest))) (sym (h.ended rest)),
  )

  pub read_ended : ended_by [] read ≡ ls
  read_ended = ap (ended_by []) (sym (append-nil read)) ∙ h.ended [] ∙ append-nil ls

  whole : input_lines read ≡ ls ++ last_of line
  whole = ap (λ v. v ++ last_of (open_by [] read)) read_ended ∙ ap (λ v. ls ++ last_of v) (ap (open_by []) (sym (append-nil read)) ∙ h.begun [])

pub read_whole : (read : List ℕ) (ls : List (List ℕ)) → IsRead read ls [] → input_lines read ≡ ls
read_whole read ls h = whole read ls [] h ∙ append-nil ls

pub read_last : (read : List ℕ) (ls : List (List ℕ)) (b : ℕ) (line : List ℕ) → IsRead read ls (b ∷ line) → input_lines read ≡ ls ++ (b ∷ line) ∷ []
read_last read ls b line h = whole read ls (b ∷ line) h
