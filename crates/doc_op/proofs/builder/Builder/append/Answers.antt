use Rattle.std.proofs.Common.{◌≡◌, ap, sym, subst, ◌∙◌, arith}
use Rattle.std.proofs.lemmas.Grind.{common_steps}
use Rattle.doc_items.specs.Changes.{ChangeSet}
use Rattle.doc_op.specs.Actions.{running, running_after}
use Rattle.doc_op.specs.Running.{Follows}
use Rattle.doc_op.proofs.Lengths.{running-add}
use Rattle.doc_op.proofs.Switches.{follows-same}
use Rattle.doc_op.proofs.builder.Builder.append.Goals as goal

pub invariant_of-self-2 : goal.invariant_of-self-2
invariant_of-self-2 c =
    let last : c.in-Some.last.now ≡ c.args.component = grind (arith, common_steps) in
    let now : running c.push.new.self ≡ running_after (running c.self.inside.op) c.in-Some.last.now =
    ap running c.in_ok-push.ensures.ok ∙ running-add c.self.inside.op c.args.component ∙ ap (running_after (running c.self.inside.op)) (sym last) in
    subst (λ (u : ChangeSet). Follows u c.pass.new.self) (sym now) (c.pass.ensures (running c.self.inside.op) (follows-same (running c.self.inside.op) c.self.inside.keys c.reserve_for.new.self c.in_ok-reserve_for.ensures.same c.self.invariant))
