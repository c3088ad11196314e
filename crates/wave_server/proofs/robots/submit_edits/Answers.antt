use Rattle.std.proofs.Common.{arith, ◌≡◌}
use Rattle.turn_cells.proofs.Places.{at_there}
use Rattle.robot_host.specs.Hosts.{host_by}
use Rattle.robot_host.proofs.RoundSteps.{fewer_self, fewer_on}
use Rattle.wavelet_shelf.specs.FileNames.{shard_of}
use Rattle.shard_marks.specs.Passes.{marks_of}
use Rattle.wave_server.proofs.Attending.{turned_self, turned_on, sent_none, sent_more, sent_all}
use Rattle.wave_server.proofs.robots.submit_edits.Goals as goal

pub loop-edit-init : goal.loop-edit-init
loop-edit-init g c = (
  c.requires.own,
  turned_self c.args.passes.now (shard_of c.args.name.now),
  fewer_self (host_by (λ b. (goal.Robot-dyn g (b.vtable, b.value)).calls b.value) c.args.robots.now),
  sent_none c.args.hub.now.domain (shard_of c.args.name.now) (marks_of c.args.passes.now (shard_of c.args.name.now)) c.args.name.now c.args.edits.now (marks_of c.args.passes.now (shard_of c.args.name.now)),
)

pub returns-in_err-submit_edit-clause-turned : goal.returns-in_err-submit_edit-clause-turned
returns-in_err-submit_edit-clause-turned g c = turned_on c.args.passes.now c.loop-edit.passes c.submit_edit.new.passes (shard_of c.args.name.now) c.loop-edit.invariant.1 c.submit_edit.ensures.turned

pub returns-in_err-submit_edit-clause-fewer : goal.returns-in_err-submit_edit-clause-fewer
returns-in_err-submit_edit-clause-fewer g c = fewer_on (host_by (λ b. (goal.Robot-dyn g (b.vtable, b.value)).calls b.value) c.args.robots.now) (host_by (λ b. (goal.Robot-dyn g (b.vtable, b.value)).calls b.value) c.loop-edit.robots) (host_by (λ b. (goal.Robot-dyn g (b.vtable, b.value)).calls b.value) c.submit_edit.new.robots) c.loop-edit.invariant.2 c.submit_edit.ensures.fewer

pub loop-edit-preserved : goal.loop-edit-preserved
loop-edit-preserved g c =
    let k = shard_of c.args.name.now in (
      c.submit_edit.ensures.own,
      turned_on c.args.passes.now c.loop-edit.passes c.submit_edit.new.passes k c.loop-edit.invariant.1 c.submit_edit.ensures.turned,
      fewer_on (host_by (λ b. (goal.Robot-dyn g (b.vtable, b.value)).calls b.value) c.args.robots.now) (host_by (λ b. (goal.Robot-dyn g (b.vtable, b.value)).calls b.value) c.loop-edit.robots) (host_by (λ b. (goal.Robot-dyn g (b.vtable, b.value)).calls b.value) c.submit_edit.new.robots) c.loop-edit.invariant.2 c.submit_edit.ensures.fewer,
      sent_more c.args.hub.now.domain k (marks_of c.args.passes.now k) c.args.name.now c.args.edits.now c.loop-edit.edit-index (marks_of c.loop-edit.passes k) (marks_of c.submit_edit.new.passes k) c.edit-item.result
          c.loop-edit.invariant.1.later c.submit_edit.ensures.turned.later c.loop-edit.invariant.3 (at_there c.args.edits.now c.loop-edit.edit-index c.edit-item.result c.loop-edit-test.true c.edit-item.is) c.in_ok-submit_edit.ensures.outcome,
    )

pub returns-clause-outcomes : goal.returns-clause-outcomes
returns-clause-outcomes g c =
    let k = shard_of c.args.name.now in
    sent_all c.args.hub.now.domain k (marks_of c.args.passes.now k) (marks_of c.loop-edit.passes k) c.args.name.now c.args.edits.now c.loop-edit.edit-index (let past = c.loop-edit-test.false in omega (arith, past)) c.loop-edit.invariant.3
