use Rattle.std.proofs.Common.{◌≡◌}
use Rattle.wavelet_shelf.specs.FileNames.{shard_of}
use Rattle.shard_marks.specs.Passes.{marks_of}
use Rattle.shard_marks.proofs.Deciding.{outcome_of}
use Rattle.session_hub.specs.Hubs.{server_of}
use Rattle.robot_host.specs.Hosts.{host_by}
use Rattle.robot_host.proofs.RoundSteps.{fewer_self, without_fewer}
use Rattle.wave_server.proofs.robots.submit_edit.Goals as goal

pub returns-in_err-placed-clause-fewer : goal.returns-in_err-placed-clause-fewer
returns-in_err-placed-clause-fewer g c = fewer_self (host_by (λ b. (goal.Robot-dyn g (b.vtable, b.value)).calls b.value) c.args.robots.now)

pub returns-then-not-is_invalid-clause-fewer : goal.returns-then-not-is_invalid-clause-fewer
returns-then-not-is_invalid-clause-fewer g c = fewer_self (host_by (λ b. (goal.Robot-dyn g (b.vtable, b.value)).calls b.value) c.args.robots.now)

pub returns-then-not-is_invalid-clause-outcome : goal.returns-then-not-is_invalid-clause-outcome
returns-then-not-is_invalid-clause-outcome g c =
    let k = shard_of c.args.name.now in
    let a = c.in_ok-placed.ensures.answer in
    outcome_of (server_of c.args.hub.now) k (marks_of c.args.passes.now k) (marks_of c.submit.new.passes k) c.args.name.now c.args.edit.now.submission c.time-time.result a.gained c.in_ok-placed.placed.answer c.requires.hosted c.submit.ensures.turned.later a.answer

pub returns-clause-fewer : goal.returns-clause-fewer
returns-clause-fewer g c = without_fewer (host_by (λ b. (goal.Robot-dyn g (b.vtable, b.value)).calls b.value) c.args.robots.now) (host_by (λ b. (goal.Robot-dyn g (b.vtable, b.value)).calls b.value) c.refused.new.self) c.args.edit.now.robot c.refused.ensures

pub returns-clause-outcome : goal.returns-clause-outcome
returns-clause-outcome g c =
    let k = shard_of c.args.name.now in
    let a = c.in_ok-placed.ensures.answer in
    outcome_of (server_of c.args.hub.now) k (marks_of c.args.passes.now k) (marks_of c.submit.new.passes k) c.args.name.now c.args.edit.now.submission c.time-time.result a.gained c.in_ok-placed.placed.answer c.requires.hosted c.submit.ensures.turned.later a.answer
