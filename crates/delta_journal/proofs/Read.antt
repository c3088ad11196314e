-- Records that are read one after the other.
use Rattle.std.proofs.Common.{◌≡◌, ℕ, ◌+◌, List, [], ◌∷◌, ◌++◌, length, refl, sym, ◌∙◌, ap, arith, append_assoc, length-append}
use Rattle.delta_journal.specs.File.{framed, blocks}
use Rattle.delta_journal.specs.Stored.{bytes_of, StandFrom}
use Rattle.delta_journal.specs.declared.stored.Stored.{Stored}
use Rattle.delta_journal.proofs.Stages.{blocks-push}

pub read_more : (all : List ℕ) (done : List (List ℕ)) (rest behind bytes next : List ℕ) → all ≡ blocks done ++ rest → rest ≡ 1 ∷ behind → behind ≡ framed bytes ++ next → all ≡ blocks (done ++ bytes ∷ []) ++ next
read_more all done rest behind bytes next read is_open split =
    read ∙ ap (λ (l : List ℕ). blocks done ++ l) (is_open ∙ ap (λ (l : List ℕ). 1 ∷ l) split) ∙ sym (append_assoc (blocks done) (1 ∷ framed bytes) next)
    ∙ ap (λ (l : List ℕ). l ++ next) (sym (blocks-push done bytes))

pub length-blocks-push : (done : List (List ℕ)) (bytes : List ℕ) → length (blocks (done ++ bytes ∷ [])) ≡ length (blocks done) + (9 + length bytes)
length-blocks-push done bytes =
    let more : List ℕ = 1 ∷ framed bytes in
    let size : length more ≡ 9 + length bytes = omega arith in
    let e : length (blocks (done ++ bytes ∷ [])) ≡ length (blocks done ++ more) = ap length (blocks-push done bytes) in
    omega (arith, length-append (blocks done) more)

pub bytes_of-push : (records : List Stored) (one : Stored) → bytes_of (records ++ one ∷ []) ≡ bytes_of records ++ one.bytes ∷ []
bytes_of-push [] one = refl
bytes_of-push (first ∷ records) one = ap (λ (l : List (List ℕ)). first.bytes ∷ l) (bytes_of-push records one)

pub stand_more : (place : ℕ) (records : List Stored) (one : Stored) → StandFrom place records → one.offset ≡ place + length (blocks (bytes_of records)) → StandFrom place (records ++ one ∷ [])
stand_more place [] one stand at = (omega (arith, at), tt)
stand_more place (first ∷ records) one stand at =
    let more : List ℕ = 1 ∷ framed first.bytes in
    let later : one.offset ≡ (place + length more) + length (blocks (bytes_of records)) = omega (arith, at, length-append more (blocks (bytes_of records))) in
    (stand.0, stand_more (place + length more) records one stand.1 later)
