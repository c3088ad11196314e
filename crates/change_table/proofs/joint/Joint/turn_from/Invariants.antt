use Rattle.std.proofs.Common.{take}
use Rattle.doc_items.specs.Maps.{merge}
use Rattle.change_view.specs.Rules.{one_under, one_unlike}
use Rattle.change_table.specs.Turns.{HasAmong}
use Rattle.change_table.specs.Joints.{together}
use Rattle.change_table.proofs.joint.Joint.turn_from.Given as goal

abbrev pub invariant-loop-key : goal.invariant-loop-key
invariant-loop-key l = HasAmong (take l.key-index l.keys) (merge one_under l.written (together l.self)) l.turn.ended
    × HasAmong (take l.key-index l.keys) (merge one_unlike (together l.self) l.written) l.turn.changed
