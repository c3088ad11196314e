use Rattle.std.proofs.Common.{ap, sym, ◌∙◌}
use Rattle.doc_items.proofs.Views.{get-strings}
use Rattle.doc_op.specs.Running.{is_on, on_at}
use Rattle.doc_op.proofs.running.RunningKeys.runs.Goals as goal

pub returns-in-Some : goal.returns-in-Some
returns-in-Some c = ap is_on (c.in-Some.ensures.value ∙ sym (get-strings c.self.inside.switches c.args.key.now)) ∙ ap (λ m. on_at m c.args.key.now) c.self.view_is

pub returns-in-None : goal.returns-in-None
returns-in-None c = ap is_on (c.in-None.ensures.value ∙ sym (get-strings c.self.inside.switches c.args.key.now)) ∙ ap (λ m. on_at m c.args.key.now) c.self.view_is
