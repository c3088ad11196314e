use Rattle.std.proofs.Common.{◌≡◌, drop}
use Rattle.session_core.specs.Answers.{is_waiting}
use Rattle.session_core.proofs.answers.is_waiting.Given as goal

abbrev pub invariant-loop-waiting : goal.invariant-loop-waiting
invariant-loop-waiting l = is_waiting l.list l.name l.id ≡ is_waiting (drop l.waiting-index l.list) l.name l.id
