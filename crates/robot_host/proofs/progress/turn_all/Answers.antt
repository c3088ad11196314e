use Rattle.std.proofs.Common.{◌∙◌, refl, sym, ap, arith, Some}
use Rattle.std.proofs.lemmas.List.{length-map}
use Rattle.state_cache.specs.States.{state_after}
use Rattle.robot_host.specs.Robots.{robot_by}
use Rattle.robot_host.proofs.AllTurns.{none_below, next_turn, last_turn, all_through, same_addresses, same_lengths}
use Rattle.robot_host.proofs.progress.turn_all.Goals as goal

pub loop-robot-init : goal.loop-robot-init
loop-robot-init g c = record {
  turns = none_below _ _ _ _ _;
  addresses = refl;
  seats = refl;
  counts = refl;
  reached = ap (state_after c.args.history.now.deltas) c.new-walk.ensures.place ∙ sym (ap Some c.new-walk.ensures.state);
}

pub returns-in_err-turn_robot-clause-turns : goal.returns-in_err-turn_robot-clause-turns
returns-in_err-turn_robot-clause-turns g c = last_turn c.loop-robot.invariant.turns c.loop-robot.invariant.addresses (let a = c.loop-robot-test.true in let b = c.requires.counted in let d = c.loop-robot.invariant.counts in omega (arith, a, b, d)) c.in_err-turn_robot.ensures.turn

pub loop-robot-preserved : goal.loop-robot-preserved
loop-robot-preserved g c = record {
  turns = next_turn c.loop-robot.invariant.turns c.loop-robot.invariant.addresses (let a = c.loop-robot-test.true in let b = c.requires.counted in let d = c.loop-robot.invariant.counts in omega (arith, a, b, d)) c.in_ok-turn_robot.ensures.turn c.in_ok-turn_robot.ensures.through;
  addresses = same_addresses _ _ _ _ _ _ _ _ _ c.in_ok-turn_robot.ensures.turn ∙ c.loop-robot.invariant.addresses;
  seats = sym (length-map _ _) ∙ (same_lengths c.in_ok-turn_robot.ensures.turn).0 ∙ length-map _ _ ∙ c.loop-robot.invariant.seats;
  counts = (same_lengths c.in_ok-turn_robot.ensures.turn).1 ∙ c.loop-robot.invariant.counts;
  reached = c.in_ok-turn_robot.ensures.reached;
}

pub returns-clause-through : goal.returns-clause-through
returns-clause-through g c = all_through c.loop-robot.invariant.turns (let a = c.loop-robot-test.false in let b = length-map c.args.seats.now (robot_by (λ b. (goal.Robot-dyn g (b.vtable, b.value)).calls b.value)) in omega (arith, a, b))
