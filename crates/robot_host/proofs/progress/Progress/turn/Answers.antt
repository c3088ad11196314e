use Rattle.std.proofs.Common.{ap}
use Rattle.robot_host.proofs.HostTurns.{always_err, none_turned_yet}
use Rattle.robot_host.proofs.progress.Progress.turn.Goals as goal

pub returns-in_err-count-clause-kept : goal.returns-in_err-count-clause-kept
returns-in_err-count-clause-kept g c = always_err _ (none_turned_yet _ _ _ _ _ _ _ c.count.ensures.numbers (ap (λ v. v.items) c.count.ensures.edits))
