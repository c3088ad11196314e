use Rattle.std.proofs.Common.{ℕ, ◌+◌, ◌++◌, map, drop}
use Rattle.std.proofs.lemmas.Result.{err_from_is_err_and}
use Rattle.doc_items.specs.Changes.{change_set}
use Rattle.doc_items.specs.declared.item.Content.TheVariants.{Character}
use Rattle.doc_op.specs.Actions.{Action, deletion}
use Rattle.op_validity.proofs.Walks.{run_more, run_stops, mapped_next}
use Rattle.op_validity.proofs.walk.Walk.delete_each.Goals as goal

pub returns-in_err-take-clause-step : goal.returns-in_err-take-clause-step
returns-in_err-take-clause-step c =
    let p = err_from_is_err_and c.from_residual.result c.from_residual.ensures.1 in
    let f : ℕ → Action = λ x. deletion (change_set c.args.running.now) (Character x) in
    rw (p.1, p.2) (λ more. run_stops _ _ _ _ _ _ _ (map f (drop (c.loop-c.c-index + 1) c.args.chars.now) ++ more) (f c.c-item.result)
    (mapped_next f c.args.chars.now c.loop-c.c-index c.c-item.result more c.loop-c-test.true c.c-item.is) (c.loop-c.invariant.same more)
    (c.in_err-take.ensures.step (map f (drop (c.loop-c.c-index + 1) c.args.chars.now) ++ more)))

pub loop-c-preserved : goal.loop-c-preserved
loop-c-preserved c =
    let f : ℕ → Action = λ x. deletion (change_set c.args.running.now) (Character x) in
    record {
      same = λ more. run_more _ _ _ _ _ _ _ _ (map f (drop (c.loop-c.c-index + 1) c.args.chars.now) ++ more) (f c.c-item.result)
          (mapped_next f c.args.chars.now c.loop-c.c-index c.c-item.result more c.loop-c-test.true c.c-item.is) (c.loop-c.invariant.same more)
          (c.in_ok-take.ensures.step (map f (drop (c.loop-c.c-index + 1) c.args.chars.now) ++ more));
      bound = c.take.ensures.bound;
    }
