use Rattle.std.proofs.Common.{inr, Some, refl, ap, ◌∙◌}
use Rattle.robot_host.specs.Hosts.{host_by}
use Rattle.robot_host.proofs.RoundSteps.{settled_idle, round_one}
use Rattle.session_hub.proofs.rounds.turn_over.Goals as goal

pub returns-then-is_settled-clause-round : goal.returns-then-is_settled-clause-round
returns-then-is_settled-clause-round g c =
    let host = host_by (λ b. (goal.Robot-dyn g (b.vtable, b.value)).calls b.value) c.args.host.now in
    inr (host, settled_idle host c.args.history.now c.requires (c.is_settled.ensures c.if-is_settled.true), (refl, c.none.ensures.name, c.none.ensures.edits))

pub returns-clause-round : goal.returns-clause-round
returns-clause-round g c =
    round_one (host_by (λ b. (goal.Robot-dyn g (b.vtable, b.value)).calls b.value) c.args.host.now) c.args.history.now (host_by (λ b. (goal.Robot-dyn g (b.vtable, b.value)).calls b.value) c.turn.new.self) c.of.result.name c.in_ok-edits.edits.items c.of.result.edits.items
    (record {
      turned = c.in_ok-edits.ensures.given;
      settled = record { through = c.in_ok-edits.ensures.through; none_kept = c.in_ok-edits.ensures.none_kept };
      may = c.turn.ensures.shown;
      others = c.turn.ensures.others;
    })
    c.of.ensures.edits c.of.ensures.none (λ ne. c.of.ensures.some ne ∙ ap Some (c.in_ok-name.ensures ∙ c.name.ensures))
