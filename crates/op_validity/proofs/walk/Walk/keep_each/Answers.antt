use Rattle.std.proofs.Common.{◌≡◌, ◌+◌, ◌-◌, ◌++◌, replicate, arith}
use Rattle.std.proofs.lemmas.Result.{err_from_is_err_and}
use Rattle.doc_items.specs.Changes.{change_set}
use Rattle.doc_op.specs.Actions.{keep}
use Rattle.op_validity.proofs.Walks.{run_more, run_stops, replicate_next}
use Rattle.op_validity.proofs.walk.Walk.keep_each.Goals as goal

pub returns-in_err-take-clause-step : goal.returns-in_err-take-clause-step
returns-in_err-take-clause-step c =
    let p = err_from_is_err_and c.from_residual.result c.from_residual.ensures.1 in
    let a = keep (change_set c.args.running.now) in
    let e : c.loop-left.left - 1 + 1 ≡ c.loop-left.left = omega (arith, c.loop-left-test.true) in
    rw (p.1, p.2) (λ more. run_stops _ _ _ _ _ _ _ (replicate (c.loop-left.left - 1) a ++ more) a (replicate_next c.loop-left.left (c.loop-left.left - 1) a more e) (c.loop-left.invariant.same more)
    (c.in_err-take.ensures.step (replicate (c.loop-left.left - 1) a ++ more)))

pub loop-left-preserved : goal.loop-left-preserved
loop-left-preserved c =
    let a = keep (change_set c.args.running.now) in
    let e : c.loop-left.left - 1 + 1 ≡ c.loop-left.left = omega (arith, c.loop-left-test.true) in
    record {
      same = λ more. run_more _ _ _ _ _ _ _ _ (replicate (c.loop-left.left - 1) a ++ more) a (replicate_next c.loop-left.left (c.loop-left.left - 1) a more e) (c.loop-left.invariant.same more)
          (c.in_ok-take.ensures.step (replicate (c.loop-left.left - 1) a ++ more));
      bound = c.take.ensures.bound;
    }
