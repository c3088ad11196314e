use Rattle.std.proofs.Common.{ap, ◌∙◌}
use Rattle.change_view.specs.declared.rule.Rule.TheVariants.{Starting}
use Rattle.change_view.specs.Sets.{joined}
use Rattle.change_view.proofs.Sets.{starting_at}
use Rattle.change_view.proofs.view.ChangeView.start_at.Goals as goal

pub returns : goal.returns
returns c = c.in_ok-started.ensures ∙ ap (joined Starting c.args.self.now) c.in_ok-values.ensures ∙ starting_at c.args.self.now c.args.map.now
