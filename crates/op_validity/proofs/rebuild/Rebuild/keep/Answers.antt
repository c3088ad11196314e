use Rattle.std.proofs.Common.{◌≡◌, ℕ, ◌+◌, ◌-◌, ◌++◌, replicate, subst, arith}
use Rattle.doc_items.specs.Changes.{change_set}
use Rattle.doc_op.specs.Actions.{keep}
use Rattle.op_validity.specs.Sources.{ahead}
use Rattle.op_validity.specs.Walks.{Gives}
use Rattle.op_validity.proofs.Gives.{gives_more}
use Rattle.op_validity.proofs.Walks.{replicate_next}
use Rattle.op_validity.proofs.rebuild.Rebuild.keep.Goals as goal

pub loop-left-preserved : goal.loop-left-preserved
loop-left-preserved c =
    let a = keep (change_set c.args.running.now) in
    let e : c.loop-left.left - 1 + 1 ≡ c.loop-left.left = omega (arith, c.loop-left-test.true) in
    record {
      gives = λ more. gives_more _ _ _ _ _ _ _ _ (replicate (c.loop-left.left - 1) a ++ more) a (replicate_next c.loop-left.left (c.loop-left.left - 1) a more e) (c.loop-left.invariant.gives more)
          (c.in_ok-give.ensures.gives (replicate (c.loop-left.left - 1) a ++ more));
      noted = c.give.ensures.noted;
    }

pub returns : goal.returns
returns c =
    let a = keep (change_set c.args.running.now) in
    let none : c.loop-left.left ≡ 0 = omega (arith, c.loop-left-test.false) in
    λ more. subst (λ (n : ℕ). Gives (ahead c.args.self.now.rest) c.args.self.now.items.items (replicate c.args.count a ++ more) (ahead c.loop-left.self.rest) c.loop-left.self.items.items (replicate n a ++ more)) none (c.loop-left.invariant.gives more)
