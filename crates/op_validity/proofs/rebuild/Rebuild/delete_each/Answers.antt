use Rattle.std.proofs.Common.{◌≡◌, ℕ, ◌+◌, List, [], ◌++◌, map, drop, subst}
use Rattle.std.proofs.lemmas.List.{drop_all}
use Rattle.op_validity.specs.Sources.{ahead}
use Rattle.op_validity.specs.Walks.{Gives}
use Rattle.doc_items.specs.Changes.{change_set}
use Rattle.doc_items.specs.declared.item.Content.TheVariants.{Character}
use Rattle.doc_op.specs.Actions.{Action, deletion}
use Rattle.op_validity.proofs.Gives.{gives_more}
use Rattle.op_validity.proofs.Walks.{mapped_next}
use Rattle.op_validity.proofs.rebuild.Rebuild.delete_each.Goals as goal

pub loop-c-preserved : goal.loop-c-preserved
loop-c-preserved c =
    let f : ℕ → Action = λ x. deletion (change_set c.args.running.now) (Character x) in
    λ more. gives_more _ _ _ _ _ _ _ _ (map f (drop (c.loop-c.c-index + 1) c.args.chars.now) ++ more) (f c.c-item.result)
    (mapped_next f c.args.chars.now c.loop-c.c-index c.c-item.result more c.loop-c-test.true c.c-item.is) (c.loop-c.invariant more)
    (c.in_ok-give.ensures.gives (map f (drop (c.loop-c.c-index + 1) c.args.chars.now) ++ more))

pub returns : goal.returns
returns c =
    let f : ℕ → Action = λ x. deletion (change_set c.args.running.now) (Character x) in
    let none : drop c.loop-c.c-index c.args.chars.now ≡ [] = drop_all c.loop-c.c-index c.args.chars.now c.loop-c-test.false in
    λ more. subst (λ (cs : List ℕ). Gives (ahead c.args.self.now.rest) c.args.self.now.items.items (map f c.args.chars.now ++ more) (ahead c.loop-c.self.rest) c.loop-c.self.items.items (map f cs ++ more)) none (c.loop-c.invariant more)
