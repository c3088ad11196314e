use Rattle.std.proofs.Common.{ap, ◌∙◌, arith}
use Rattle.doc_op.specs.Actions.{actions}
use Rattle.doc_op.specs.Cursors.{left}
use Rattle.doc_op.specs.Normal.{normal_form}
use Rattle.op_invert.specs.Walks.{items_of}
use Rattle.op_invert.proofs.Steps.{walk_starts, walk_goes, walk_ends, room_first, fewer}
use Rattle.op_invert.proofs.inversion.undo_over.Goals as goal

pub walk-init : goal.walk-init
walk-init c = walk_starts (items_of c.args.items) (actions c.args.op.now) (left c.in_ok-cursor.cursor) c.new-done.result c.new-done.ensures.out c.new-done.ensures.place c.in_ok-cursor.ensures c.requires
    (omega (arith, c.input_len-input.ensures.value, c.input_len-input.ensures.bound)) (omega (arith, c.output_len-output.ensures.value, c.output_len-output.ensures.bound))

pub undo-requires-clause-room : goal.undo-requires-clause-room
undo-requires-clause-room c = room_first (items_of c.args.items) c.walk.done c.walk.cursor.front c.walk.cursor.behind c.walk.invariant.room

pub undo-requires-clause-bound : goal.undo-requires-clause-bound
undo-requires-clause-bound c = omega (arith, c.requires, c.input_len-input.ensures.value, c.input_len-input.ensures.bound)

pub returns-then-count-eq0-clause-is : goal.returns-then-count-eq0-clause-is
returns-then-count-eq0-clause-is c = c.in_ok-undo.ensures.is
    ∙ walk_ends (items_of c.args.items) (actions c.args.op.now) c.walk.cursor.front c.walk.cursor.behind c.walk.done c.undo.new.self c.walk.invariant c.in_ok-count.ensures.undone (c.in_ok-count.ensures.end c.if-count-eq0.true)

pub returns-then-count-eq0-clause-normal : goal.returns-then-count-eq0-clause-normal
returns-then-count-eq0-clause-normal c = c.in_ok-undo.ensures.normal
    ∙ ap normal_form (walk_ends (items_of c.args.items) (actions c.args.op.now) c.walk.cursor.front c.walk.cursor.behind c.walk.done c.undo.new.self c.walk.invariant c.in_ok-count.ensures.undone (c.in_ok-count.ensures.end c.if-count-eq0.true))

pub walk-preserved : goal.walk-preserved
walk-preserved c = walk_goes (items_of c.args.items) (actions c.args.op.now) c.walk.cursor.front c.walk.cursor.behind (left c.skip.new.self) c.walk.done c.undo.new.self c.in_ok-count.count c.walk.invariant c.in_ok-count.ensures.undone c.in_ok-count.ensures.count c.in_ok-skip.ensures.left

pub walk-smaller : goal.walk-smaller
walk-smaller c = fewer c.walk.cursor.front c.walk.cursor.behind (left c.skip.new.self) c.in_ok-count.count c.in_ok-count.ensures.count (omega (arith, c.if-count-eq0.false)) c.in_ok-skip.ensures.left
