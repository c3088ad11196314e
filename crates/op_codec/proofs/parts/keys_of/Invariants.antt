use Rattle.std.proofs.Common.{◌≡◌, []}
use Rattle.op_codec.specs.Reading.{list_of, text_at}
use Rattle.op_codec.proofs.parts.keys_of.Given as goal

abbrev pub invariant-loop-left : goal.invariant-loop-left
invariant-loop-left l = list_of text_at [] l.count l.bytes ≡ list_of text_at l.keys.items l.left l.rest

abbrev pub decreases-loop-left : goal.decreases-loop-left
decreases-loop-left l = l.left
