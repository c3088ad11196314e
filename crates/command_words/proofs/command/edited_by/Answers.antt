use Rattle.std.proofs.Common.{◌≡◌, List, ℕ, Option, Some, None, IfOk, option_and_then, refl, ◌∙◌, subst, codes}
use Rattle.clap.specs.Walk.{Row, Text, first_of}
use Rattle.clap.specs.Words.{subcommand_rows_of}
use Rattle.command_words.specs.Commands.{edited, edited_by}
use Rattle.command_words.specs.Shown.{shown}
use Rattle.command_words.proofs.command.edited_by.Goals as goal

abbrev among : List ℕ → Option (Text × List Row) → Option (List ℕ)
among name o = option_and_then (λ p. first_of name p.1) o

-- what is read in the rows of the one that was entered
in_rows : (o : Option (Text × List Row)) → edited (among (codes "connect") o) (among (codes "user") o) (among (codes "client") o) ≡ option_and_then (λ p. edited_by p.1) o
in_rows None = refl
in_rows (Some p) = refl

pub returns-clause-ok : goal.returns-clause-ok
returns-clause-ok c =
    subst (λ x. IfOk c.edited.result (λ d. x ≡ Some (shown d)))
    ((λ i. edited (c.value_of-connect.ensures i) (c.value_of-user.ensures i) (c.value_of.ensures i)) ∙ in_rows (subcommand_rows_of c.args.matches.now))
    c.edited.ensures.ok
