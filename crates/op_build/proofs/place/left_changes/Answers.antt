use Rattle.std.proofs.Common.{sym, ap, ◌∙◌}
use Rattle.std.specs.Option.{option_copied}
use Rattle.op_build.proofs.Insertions.{nothing_left, none_left}
use Rattle.op_build.proofs.place.left_changes.Goals as goal

pub returns-then-place-eq0 : goal.returns-then-place-eq0
returns-then-place-eq0 g c = nothing_left _ _ _ c.empty.ensures c.if-place-eq0.true

pub returns-in-None : goal.returns-in-None
returns-in-None g c = none_left (g.D.Items.items c.args.document.now) c.args.place _ c.empty-in-None.ensures c.if-place-eq0.false (sym c.item.ensures ∙ ap option_copied c.in-None.is)
