use Rattle.std.proofs.Common.{rules, ◌≡◌, refl, ◌∙◌, length, ap, sym}
use Rattle.session_hub.specs.Entries.{entries_of}
use Rattle.robot_host.specs.Hosts.{host_by}
use Rattle.turn_lock.specs.Passes.{seen}
use Rattle.session_hub.proofs.RobotMoments.{from_moment, round_moment, cut_moment}
use Rattle.session_hub.proofs.RobotTurns.{none_at}
use Rattle.session_hub.proofs.Turning.{later_of, on_err}
use Rattle.session_hub.proofs.turns.robot_turn.Goals as goal

pub returns-in_err-guard-clause-cut : goal.returns-in_err-guard-clause-cut
returns-in_err-guard-clause-cut g c = on_err c.from_residual.result (λ d k own. none_at d k (seen c.enter.follows.lender-at-none) (host_by (λ b. (goal.Robot-dyn g (b.vtable, b.value)).calls b.value) c.args.host.now) (host_by (λ b. (goal.Robot-dyn g (b.vtable, b.value)).calls b.value) c.args.host.now) refl)

pub robot_turn-round-requires : goal.robot_turn-round-requires
robot_turn-round-requires g c = from_moment (seen c.args.pass.now) c.in_ok-guard.guard.value c.value-shard.result.now (host_by (λ b. (goal.Robot-dyn g (b.vtable, b.value)).calls b.value) c.args.host.now) c.requires.may c.in_ok-guard.ensures.value c.value-shard.ensures.value

pub returns-in_err-round-clause-later : goal.returns-in_err-round-clause-later
returns-in_err-round-clause-later g c = later_of _ _ _ c.in_ok-guard.ensures.value (search rules)

pub returns-clause-later : goal.returns-clause-later
returns-clause-later g c = later_of _ _ _ c.in_ok-guard.ensures.value (search rules)

pub returns-clause-round : goal.returns-clause-round
returns-clause-round g c = λ d k own.
    round_moment (seen c.args.pass.now) (seen c.pass-2-1.given.0) c.in_ok-guard.guard.value c.value-shard.result.now d k own c.in_ok-guard.ensures.value c.value-shard.ensures.value (search rules)
    (host_by (λ b. (goal.Robot-dyn g (b.vtable, b.value)).calls b.value) c.args.host.now) (host_by (λ b. (goal.Robot-dyn g (b.vtable, b.value)).calls b.value) c.robot_turn-round.new.host) c.in_ok-round.field-0.name c.in_ok-round.field-0.edits.items c.in_ok-round.ensures.round

pub returns-in_err-round-clause-cut : goal.returns-in_err-round-clause-cut
returns-in_err-round-clause-cut g c = on_err c.from_residual-in_err-round.result (λ d k own.
    cut_moment (seen c.args.pass.now) (seen c.pass-2-1.given.0) c.in_ok-guard.guard.value c.value-shard.result.now d k own c.in_ok-guard.ensures.value c.value-shard.ensures.value (search rules)
    (host_by (λ b. (goal.Robot-dyn g (b.vtable, b.value)).calls b.value) c.args.host.now) (host_by (λ b. (goal.Robot-dyn g (b.vtable, b.value)).calls b.value) c.robot_turn-round.new.host) c.in_err-round.ensures.cut)

pub returns-clause-length : goal.returns-clause-length
returns-clause-length g c =
    let last : seen c.pass-2-1.given.0 ≡ entries_of c.in_ok-guard.guard.value = search rules in
    c.length-length.ensures ∙ ap length (ap entries_of c.value-shard.ensures.value ∙ sym last)
