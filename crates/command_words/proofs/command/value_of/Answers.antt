use Rattle.std.proofs.Common.{rules, ◌≡◌, ◌∙◌, List, Option, Some, None, option_map, option_and_then}
use Rattle.clap.specs.Walk.{Row, Text, first_of, rows_of}
use Rattle.clap.specs.Words.{found_of, subcommand_rows_of}
use Rattle.clap.proofs.WalkLemmas.{first_value-rows}
use Rattle.command_words.proofs.command.value_of.Goals as goal

-- what is read in the rows of the one that was entered
in_rows : (id : Text) (o : Option (Text × List Row)) (r : List Row) → Some r ≡ option_map (λ p. p.1) o
    → first_of id r ≡ option_and_then (λ p. first_of id p.1) o
in_rows id None r is = search rules
in_rows id (Some p) r is = search rules

pub returns : goal.returns
returns c = c.get_str.ensures ∙ first_value-rows (found_of c.in_ok-_command.inner.now) c.args.name.now
    ∙ in_rows c.args.name.now (subcommand_rows_of c.args.matches.now) (rows_of (found_of c.in_ok-_command.inner.now)) (search rules)
