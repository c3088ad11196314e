use Rattle.std.proofs.Common.{IfSome, refl, sym, ap, subst, ◌∙◌}
use Rattle.delta_history.specs.Histories.{HistoryOf}
use Rattle.delta_history.specs.Points.{Point}
use Rattle.delta_history.specs.Pushes.{PreparedOf, IsReady}
use Rattle.delta_history.specs.Twins.{IsTwin}
use Rattle.delta_history.proofs.Pushes.{grown_end, before_last}
use Rattle.delta_history.proofs.history.History.commit.Goals as goal

pub invariant_of-self : goal.invariant_of-self
invariant_of-self c =
    let here = subst (λ (h : HistoryOf). IsReady h c.args.prepared.delta c.args.prepared.after) (sym c.self.view_is) c.requires.ready in
    let ready = subst (λ (p : PreparedOf). IsReady c.self.inside.log p.delta p.after) (sym c.prepared.view_is) here in
    let end : Point = record { at = c.prepared.inside.written.step.to; state = c.prepared.inside.state; count = c.prepared.inside.written.step.inserted } in
    let log = c.self.inside.log in
    let head = grown_end log log c.push.new.self c.prepared.inside.delta end (record { name = refl; deltas = refl }) c.push.ensures ready.leads in
    let before = before_last log c.push.new.self c.prepared.inside.delta end c.replace-before.result ready c.push.ensures (c.self.invariant.state ∙ sym c.replace-before.ensures.value) in
    record {
      state = ap (λ (p : Point). p.state) head ∙ sym c.replace-before.ensures.after;
      twin = subst (λ o. IfSome o (IsTwin c.push.new.self.name c.push.new.self.deltas)) (sym c.keep.ensures) before;
    }
