use Rattle.std.proofs.Common.{◌≡◌, None}
use Rattle.std.specs.Option.{option_copied}
use Rattle.std.specs.FinMap.{empty}
use Rattle.op_codec.specs.Reading.{attributes_of}
use Rattle.op_codec.proofs.parts.attributes_of.Given as goal

abbrev pub invariant-loop-left : goal.invariant-loop-left
invariant-loop-left l = attributes_of empty None l.count l.bytes ≡ attributes_of l.attributes (option_copied l.last) l.left l.rest

abbrev pub decreases-loop-left : goal.decreases-loop-left
decreases-loop-left l = l.left
