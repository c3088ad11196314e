use Rattle.std.proofs.Common.{ap, ◌∙◌, ◌+◌, arith}
use Rattle.doc_items.specs.Maps.{matches}
use Rattle.change_view.specs.Rules.{same_old}
use Rattle.doc_op.specs.Runs.{contents}
use Rattle.op_transform.proofs.Arms.{both_deleted, both_unlike, names_unlike}
use Rattle.op_transform.proofs.Rooms.{levels_less}
use Rattle.op_transform.proofs.walk.Walk.delete_both.Goals as goal

pub returns-then-not-passes-clause-passed : goal.returns-then-not-passes-clause-passed
returns-then-not-passes-clause-passed c = names_unlike _ _ _ _ _ _ _ _ _ _ c.requires.some c.requires.same (c.passes.ensures ∙ (λ i. matches same_old (c.in_ok-u.ensures i) (c.in_ok-w.ensures i))) c.if-not-passes.true

pub returns-then-same-count-clause-passed : goal.returns-then-same-count-clause-passed
returns-then-same-count-clause-passed c = both_unlike _ _ _ _ _ _ _ _ _ _ _ _ c.requires.same c.len-count.ensures c.common-same.ensures c.if-same-count.true (c.passes.ensures ∙ (λ i. matches same_old (c.in_ok-u.ensures i) (c.in_ok-w.ensures i))) c.if-not-passes.false

pub returns-clause-passed : goal.returns-clause-passed
returns-clause-passed c = both_deleted _ _ _ _ _ _ _ _ _ _ _ _ _ _ c.requires.same c.len-count.ensures c.common-same.ensures (λ h. absurd (omega (arith, h, c.if-same-count.false))) (c.passes.ensures ∙ (λ i. matches same_old (c.in_ok-u.ensures i) (c.in_ok-w.ensures i))) c.if-not-passes.false c.level-self.ensures c.level-self-2.ensures

pub returns-clause-room : goal.returns-clause-room
returns-clause-room c =
    let room = c.requires.room.0 in
    let n = c.len-count.ensures in
    let l = c.level-self.ensures in
    let e = c.level-self-2.ensures in
    let l_less = levels_less (contents c.args.run) c.args.self.now.later.depth in
    let e_less = levels_less (contents c.args.other) c.args.self.now.earlier.depth in
    let same = c.requires.same in
    (((omega (arith, room.0.0), omega (arith, room.0.1), omega (arith, room.0.2, n, l, l_less)), (omega (arith, room.1.0), omega (arith, room.1.1), omega (arith, room.1.2, n, e, e_less, same)), omega (arith, room.2)), ap (λ x. c.args.self.now.length + x) n)
