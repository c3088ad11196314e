use Rattle.std.proofs.Common.{◌≡◌, ◌<◌, ℕ, slice_get, Some}
use Rattle.robot_host.specs.declared.edit.RobotEdit.{RobotEdit}
use Rattle.robot_host.specs.Hosts.{host_by, AreFewer}
use Rattle.wavelet_shelf.specs.FileNames.{shard_of}
use Rattle.shard_marks.specs.Outcomes.{HasOutcome}
use Rattle.shard_marks.specs.Passes.{HaveTurned, marks_of}
use Rattle.session_hub.specs.Hubs.{AreOfHub}
use Rattle.wave_server.proofs.robots.submit_edits.Given as goal

abbrev pub invariant-loop-edit : goal.invariant-loop-edit
invariant-loop-edit g l =
    AreOfHub l.hub l.passes
    × HaveTurned (shard_of l.name) l.fn.passes l.passes
    × AreFewer (host_by (λ b. (goal.Robot-dyn g (b.vtable, b.value)).calls b.value) l.fn.robots) (host_by (λ b. (goal.Robot-dyn g (b.vtable, b.value)).calls b.value) l.robots)
    × ((j : ℕ) (e : RobotEdit) → j < l.edit-index → slice_get l.edits j ≡ Some e → HasOutcome l.hub.domain (shard_of l.name) (marks_of l.fn.passes (shard_of l.name)) (marks_of l.passes (shard_of l.name)) l.name e.submission)
