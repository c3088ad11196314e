use Rattle.std.proofs.Common.{◌≡◌, List, ℕ, Option, Some, None, IfOk, IfErr, option_and_then, refl, ◌∙◌, subst, codes}
use Rattle.clap.specs.Walk.{Row, Text, first_of}
use Rattle.clap.specs.Words.{subcommand_rows_of}
use Rattle.command_words.specs.Commands.{flag, served, served_by}
use Rattle.command_words.specs.Shown.{shown}
use Rattle.command_words.specs.declared.command.WordsFault.TheVariants.{Usage}
use Rattle.command_words.proofs.command.served_by.Goals as goal

abbrev among : List ℕ → Option (Text × List Row) → Option (List ℕ)
among name o = option_and_then (λ p. first_of name p.1) o

-- what is read in the rows of the one that was entered
in_rows : (o : Option (Text × List Row)) → served (among (codes "listen") o) (among (codes "domain") o) (among (codes "peer") o) (among (codes "sessions") o) (among (codes "store") o) (flag (among (codes "echo") o)) ≡ option_and_then (λ p. served_by p.1) o
in_rows None = refl
in_rows (Some p) = refl

pub returns-clause-ok : goal.returns-clause-ok
returns-clause-ok c =
    subst (λ x. IfOk c.served.result (λ d. x ≡ Some (shown d)))
    ((λ i. served (c.value_of-listen.ensures i) (c.value_of-domain.ensures i) (c.value_of-peers.ensures i) (c.value_of-count.ensures i) (c.value_of-store.ensures i) (c.is_flagged.ensures i)) ∙ in_rows (subcommand_rows_of c.args.matches.now))
    c.served.ensures.ok

pub returns-clause-refused : goal.returns-clause-refused
returns-clause-refused c =
    subst (λ x. IfErr c.served.result (λ e. e ≡ Usage → x ≡ None))
    ((λ i. served (c.value_of-listen.ensures i) (c.value_of-domain.ensures i) (c.value_of-peers.ensures i) (c.value_of-count.ensures i) (c.value_of-store.ensures i) (c.is_flagged.ensures i)) ∙ in_rows (subcommand_rows_of c.args.matches.now))
    c.served.ensures.refused
