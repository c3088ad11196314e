use Rattle.session_hub.specs.Entries.{AreLoaded}
use Rattle.session_hub.proofs.founding.shards_of.Given as goal

abbrev pub invariant-loop-part : goal.invariant-loop-part
invariant-loop-part g l = AreLoaded l.fn.domain 0 l.yielded l.shards.items
