use Rattle.std.proofs.Common.{◌≡◌, List, ℕ, [], ◌∷◌, length, take, ap, ◌∙◌, refl, sym, subst, true, false}
use Rattle.std.proofs.lemmas.List.{take_at}
use Rattle.std.proofs.lemmas.Bool.{eq-eqb}
use mathlib.Core.Bool.{not}
use lib.Pointwise.{pointwise}
use lib.Dec.{eqb}
use Rattle.delta_journal.proofs.reading.after_header.Goals as goal

same_bytes : (l : List ℕ) → pointwise eqb l l ≡ true
same_bytes [] = refl
same_bytes (x ∷ xs) = rw (eq-eqb x x refl) (same_bytes xs)

pub returns-then-ne : goal.returns-then-ne
returns-then-ne c whole =
    let front : take (length c.args.header.now) c.args.rest.now ≡ c.args.header.now =
    ap (λ (l : List ℕ). take (length c.args.header.now) l) whole.2 ∙ take_at c.args.header.now (whole.0 ∷ whole.1) (length c.args.header.now) refl in
    let same : c.split_at.result.0.now ≡ c.args.header.now = c.split_at.ensures.front ∙ front in
    let test : pointwise eqb c.split_at.result.0.now c.args.header.now ≡ true = subst (λ (l : List ℕ). pointwise eqb l c.args.header.now ≡ true) (sym same) (same_bytes c.args.header.now) in
    let no : true ≡ false = c.if-ne.ensures ∙ ap not test in
    cc no
