use Rattle.std.proofs.Common.{◌≡◌, List, ℕ, ◌+◌, ◌∷◌, ◌++◌, length, inr, ap, ◌∙◌, subst, arith}
use Rattle.delta_journal.specs.File.{IsTornFrom, header}
use Rattle.delta_journal.proofs.reading.parse.Goals as goal

pub returns-in-Err-clause-damaged : goal.returns-in-Err-clause-damaged
returns-in-Err-clause-damaged c offset is =
    let rest = c.in-Some-after_header.rest.now in
    let torn = c.in-Err.ensures.damaged offset is in
    let place : 1 + length c.args.spelled.now ≡ length (1 ∷ header c.args.name.now) = omega (arith, ap length c.requires.known) in
    inr (
      rest,
      c.in-Some.ensures ∙ ap (λ (l : List ℕ). 1 ∷ l) c.in-Some-after_header.ensures.0 ∙ ap (λ (l : List ℕ). (1 ∷ l) ++ rest) c.requires.known,
      subst (λ (n : ℕ). IsTornFrom n offset rest) place torn,
    )
