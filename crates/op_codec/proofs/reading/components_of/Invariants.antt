use Rattle.std.proofs.Common.{◌≡◌, []}
use Rattle.op_codec.specs.Reading.{components_of}
use Rattle.op_codec.proofs.reading.components_of.Given as goal

abbrev pub invariant-loop-left : goal.invariant-loop-left
invariant-loop-left l = components_of [] l.count l.bytes ≡ components_of l.builder l.left l.rest

abbrev pub decreases-loop-left : goal.decreases-loop-left
decreases-loop-left l = l.left
