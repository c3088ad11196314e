use Rattle.std.proofs.Common.{◌≡◌, drop, ap, ◌∙◌}
use Rattle.doc_items.specs.Changes.{change_set}
use Rattle.op_validity.specs.Sources.{ahead}
use Rattle.op_validity.specs.Walks.{demand_action, left_by, with_left}
use Rattle.op_validity.proofs.Gives.{given}
use Rattle.op_validity.proofs.Walks.{demand-takes}
use Rattle.op_validity.proofs.rebuild.Rebuild.give.Goals as goal

pub returns-clause-gives : goal.returns-clause-gives
returns-clause-gives c =
    let act = demand_action (change_set c.args.running.now) c.args.demand in
    let rest : ahead c.push.new.self.rest ≡ ahead c.args.self.now.rest = c.push.ensures.rest in
    let made : c.push.new.self.items.items ≡ with_left c.args.self.now.items.items (left_by act c.in-Some.item.now) = c.in_ok-push.ensures.items ∙ ap (with_left c.args.self.now.items.items) c.in_ok-left.ensures.left in
    λ more. rw (c.skip.ensures, rest, c.in-Some.ensures.some, made) (given act c.in-Some.item.now (drop 1 (ahead c.args.self.now.rest)) c.args.self.now.items.items more (demand-takes (change_set c.args.running.now) c.args.demand))
