use Rattle.std.proofs.Common.{sym, ap, ◌∙◌}
use Rattle.std.specs.Option.{option_copied}
use Rattle.op_build.proofs.Ranges.{first_in_range}
use Rattle.op_build.proofs.place.first_of.Goals as goal

pub returns : goal.returns
returns g c = first_in_range (g.D.Items.items c.args.document.now) c.args.from c.args.count c.in-Some.item.now c.requires.some (sym c.item.ensures ∙ ap option_copied c.in-Some.is)
