use Rattle.std.proofs.Common.{◌≡◌, ◌∷◌, List, length, sym, subst}
use Rattle.std.proofs.lemmas.Result.{err_from_is_err_and}
use Rattle.std.specs.Vec.Iter.{into_iter_items}
use Rattle.wavelet_op.specs.Passing.{act_held, acts_held}
use Rattle.wavelet_op.specs.declared.held.Held.{Held}
use Rattle.wavelet_op.proofs.Passes.{IsPassing, passing_step, passing_refused}
use Rattle.wavelet_op.proofs.pass.pass.Goals as goal

pub loop-op-preserved : goal.loop-op-preserved
loop-op-preserved c =
    let steps : into_iter_items c.loop-op.op-iterator ≡ c.in-Some.op ∷ into_iter_items c.next.new.self = c.in-Some.ensures.steps.0 in
    let here = subst (λ (r : List Held). IsPassing (act_held c.args.later) (acts_held c.args.earlier.items) (length c.args.earlier.items) c.loop-op.later c.loop-op.passed.items r) steps c.loop-op.invariant in
    subst (λ (p : List Held). IsPassing (act_held c.args.later) (acts_held c.args.earlier.items) (length c.args.earlier.items) c.in_ok-mine.mine p (into_iter_items c.next.new.self)) (sym c.in_ok-put.ensures)
    (passing_step _ _ _ c.loop-op.later c.in-Some.op c.in_ok-mine.mine c.in_ok-mine.theirs c.loop-op.passed.items (into_iter_items c.next.new.self) here c.in_ok-mine.ensures)

pub returns-in_err-mine : goal.returns-in_err-mine
returns-in_err-mine c =
    let p = err_from_is_err_and c.from_residual-in_err-mine.result c.from_residual-in_err-mine.ensures.1 in
    let steps : into_iter_items c.loop-op.op-iterator ≡ c.in-Some.op ∷ into_iter_items c.next.new.self = c.in-Some.ensures.steps.0 in
    let here = subst (λ (r : List Held). IsPassing (act_held c.args.later) (acts_held c.args.earlier.items) (length c.args.earlier.items) c.loop-op.later c.loop-op.passed.items r) steps c.loop-op.invariant in
    rw (p.1, p.2) (passing_refused _ _ _ c.args.index c.loop-op.later c.in-Some.op c.loop-op.passed.items (into_iter_items c.next.new.self) _ here c.in_err-mine.ensures)
