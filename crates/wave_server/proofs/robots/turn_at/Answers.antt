use Rattle.std.proofs.Common.{◌≡◌, ℕ, true, sym, subst}
use Rattle.std.specs.List.{AllByRecursion}
use Rattle.robot_host.specs.Hosts.{host_by}
use Rattle.wavelet_shelf.specs.FileNames.{shard_of}
use Rattle.shard_marks.specs.Marks.{is_of}
use Rattle.shard_marks.specs.Outcomes.{HasOutcome}
use Rattle.shard_marks.specs.Passes.{marks_of}
use Rattle.wave_server.proofs.Attending.{begins_turned, named_there, shard_there, after_none, after_edits}
use Rattle.wave_server.proofs.Ending.{begins_on}
use Rattle.wave_server.proofs.robots.turn_at.Goals as goal

pub robot_turn-turned-requires-clause-may : goal.robot_turn-turned-requires-clause-may
robot_turn-turned-requires-clause-may g c = λ n own. (c.requires.ready c.args.shard c.requires.shard n own).may

pub returns-in_err-work-clause-later : goal.returns-in_err-work-clause-later
returns-in_err-work-clause-later g c = begins_turned c.args.passes.now c.robot_turn-turned.new.passes c.args.shard c.robot_turn-turned.ensures.turned.later c.robot_turn-turned.ensures.turned.others

pub submit_edits-requires-clause-hosted : goal.submit_edits-requires-clause-hosted
submit_edits-requires-clause-hosted g c =
    let d = c.args.hub.now.domain in
    let k = c.args.shard in
    let ps = c.args.passes.now in
    let qs = c.robot_turn-turned.new.passes in
    let turned = c.robot_turn-turned.ensures.turned in
    let before = host_by (λ b. (goal.Robot-dyn g (b.vtable, b.value)).calls b.value) c.args.robots.now in
    let between = host_by (λ b. (goal.Robot-dyn g (b.vtable, b.value)).calls b.value) c.robot_turn-turned.new.host in
    let work = c.in_ok-work.work in
    let round = c.in_ok-work.ensures.round in
    let own = named_there d k (marks_of qs k) before between work.name c.in-Some.name work.edits.items round c.in-Some.is in
    subst (λ (z : ℕ). is_of d z c.in-Some.name ≡ true) (sym (shard_there d k c.in-Some.name own)) own

pub returns-in_err-submit_edits-in-Some-clause-later : goal.returns-in_err-submit_edits-in-Some-clause-later
returns-in_err-submit_edits-in-Some-clause-later g c =
    let qs = c.robot_turn-turned.new.passes in
    begins_on c.args.passes.now qs c.submit_edits.new.passes (begins_turned c.args.passes.now qs c.args.shard c.robot_turn-turned.ensures.turned.later c.robot_turn-turned.ensures.turned.others)
    (begins_turned qs c.submit_edits.new.passes (shard_of c.in-Some.name) c.submit_edits.ensures.turned.later c.submit_edits.ensures.turned.others)

-- edits were given, and submitted
pub returns-in-Some-clause-later : goal.returns-in-Some-clause-later
returns-in-Some-clause-later g c =
    let d = c.args.hub.now.domain in
    let k = c.args.shard in
    let ps = c.args.passes.now in
    let qs = c.robot_turn-turned.new.passes in
    let turned = c.robot_turn-turned.ensures.turned in
    let before = host_by (λ b. (goal.Robot-dyn g (b.vtable, b.value)).calls b.value) c.args.robots.now in
    let between = host_by (λ b. (goal.Robot-dyn g (b.vtable, b.value)).calls b.value) c.robot_turn-turned.new.host in
    let work = c.in_ok-work.work in
    let round = c.in_ok-work.ensures.round in
    let after = host_by (λ b. (goal.Robot-dyn g (b.vtable, b.value)).calls b.value) c.submit_edits.new.robots in
    let n = c.in-Some.name in
    let outcomes = subst (AllByRecursion (λ e. HasOutcome d (shard_of n) (marks_of qs (shard_of n)) (marks_of c.submit_edits.new.passes (shard_of n)) n e.submission)) c.deref.ensures.value c.in_ok-submit_edits-in-Some.ensures.outcomes in
    let is = after_edits d k ps qs turned before between work.name work.edits.items round c.submit_edits.new.passes after n c.in-Some.is c.submit_edits.ensures.turned c.submit_edits.ensures.fewer outcomes in
    is.later

pub returns-in-Some-clause-ready : goal.returns-in-Some-clause-ready
returns-in-Some-clause-ready g c =
    let d = c.args.hub.now.domain in
    let k = c.args.shard in
    let ps = c.args.passes.now in
    let qs = c.robot_turn-turned.new.passes in
    let turned = c.robot_turn-turned.ensures.turned in
    let before = host_by (λ b. (goal.Robot-dyn g (b.vtable, b.value)).calls b.value) c.args.robots.now in
    let between = host_by (λ b. (goal.Robot-dyn g (b.vtable, b.value)).calls b.value) c.robot_turn-turned.new.host in
    let work = c.in_ok-work.work in
    let round = c.in_ok-work.ensures.round in
    let after = host_by (λ b. (goal.Robot-dyn g (b.vtable, b.value)).calls b.value) c.submit_edits.new.robots in
    let n = c.in-Some.name in
    let outcomes = subst (AllByRecursion (λ e. HasOutcome d (shard_of n) (marks_of qs (shard_of n)) (marks_of c.submit_edits.new.passes (shard_of n)) n e.submission)) c.deref.ensures.value c.in_ok-submit_edits-in-Some.ensures.outcomes in
    let is = after_edits d k ps qs turned before between work.name work.edits.items round c.submit_edits.new.passes after n c.in-Some.is c.submit_edits.ensures.turned c.submit_edits.ensures.fewer outcomes in
    is.ready c.requires.ready

pub returns-in-Some-clause-settled : goal.returns-in-Some-clause-settled
returns-in-Some-clause-settled g c =
    let d = c.args.hub.now.domain in
    let k = c.args.shard in
    let ps = c.args.passes.now in
    let qs = c.robot_turn-turned.new.passes in
    let turned = c.robot_turn-turned.ensures.turned in
    let before = host_by (λ b. (goal.Robot-dyn g (b.vtable, b.value)).calls b.value) c.args.robots.now in
    let between = host_by (λ b. (goal.Robot-dyn g (b.vtable, b.value)).calls b.value) c.robot_turn-turned.new.host in
    let work = c.in_ok-work.work in
    let round = c.in_ok-work.ensures.round in
    let after = host_by (λ b. (goal.Robot-dyn g (b.vtable, b.value)).calls b.value) c.submit_edits.new.robots in
    let n = c.in-Some.name in
    let outcomes = subst (AllByRecursion (λ e. HasOutcome d (shard_of n) (marks_of qs (shard_of n)) (marks_of c.submit_edits.new.passes (shard_of n)) n e.submission)) c.deref.ensures.value c.in_ok-submit_edits-in-Some.ensures.outcomes in
    let is = after_edits d k ps qs turned before between work.name work.edits.items round c.submit_edits.new.passes after n c.in-Some.is c.submit_edits.ensures.turned c.submit_edits.ensures.fewer outcomes in
    is.settled

-- none were given
pub returns-clause-later : goal.returns-clause-later
returns-clause-later g c =
    let d = c.args.hub.now.domain in
    let k = c.args.shard in
    let ps = c.args.passes.now in
    let qs = c.robot_turn-turned.new.passes in
    let turned = c.robot_turn-turned.ensures.turned in
    let before = host_by (λ b. (goal.Robot-dyn g (b.vtable, b.value)).calls b.value) c.args.robots.now in
    let between = host_by (λ b. (goal.Robot-dyn g (b.vtable, b.value)).calls b.value) c.robot_turn-turned.new.host in
    let work = c.in_ok-work.work in
    let round = c.in_ok-work.ensures.round in
    let is = after_none d k ps qs turned before between work.name work.edits.items round c.in-None.is in
    is.later

pub returns-clause-ready : goal.returns-clause-ready
returns-clause-ready g c =
    let d = c.args.hub.now.domain in
    let k = c.args.shard in
    let ps = c.args.passes.now in
    let qs = c.robot_turn-turned.new.passes in
    let turned = c.robot_turn-turned.ensures.turned in
    let before = host_by (λ b. (goal.Robot-dyn g (b.vtable, b.value)).calls b.value) c.args.robots.now in
    let between = host_by (λ b. (goal.Robot-dyn g (b.vtable, b.value)).calls b.value) c.robot_turn-turned.new.host in
    let work = c.in_ok-work.work in
    let round = c.in_ok-work.ensures.round in
    let is = after_none d k ps qs turned before between work.name work.edits.items round c.in-None.is in
    is.ready c.requires.ready

pub returns-clause-settled : goal.returns-clause-settled
returns-clause-settled g c =
    let d = c.args.hub.now.domain in
    let k = c.args.shard in
    let ps = c.args.passes.now in
    let qs = c.robot_turn-turned.new.passes in
    let turned = c.robot_turn-turned.ensures.turned in
    let before = host_by (λ b. (goal.Robot-dyn g (b.vtable, b.value)).calls b.value) c.args.robots.now in
    let between = host_by (λ b. (goal.Robot-dyn g (b.vtable, b.value)).calls b.value) c.robot_turn-turned.new.host in
    let work = c.in_ok-work.work in
    let round = c.in_ok-work.ensures.round in
    let is = after_none d k ps qs turned before between work.name work.edits.items round c.in-None.is in
    is.settled
