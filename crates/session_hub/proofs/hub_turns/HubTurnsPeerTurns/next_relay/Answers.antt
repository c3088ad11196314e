use Rattle.std.proofs.Common.{◌∙◌, sym}
use Rattle.shard_marks.specs.Passes.{marks_of}
use Rattle.session_hub.proofs.Sought.{relay_is, no_relay}
use Rattle.session_hub.proofs.hub_turns.HubTurnsPeerTurns.next_relay.Goals as goal

pub returns-in-Some-clause-relay : goal.returns-in-Some-clause-relay
returns-in-Some-clause-relay g c =
    let item = sym c.in-Some.is ∙ c.in_ok-item.ensures.item in
    c.into_relay.ensures ∙ relay_is c.args.self.now.hub.now.domain c.args.domain.now (marks_of c.seek.new.self.passes) c.args.place c.in-Some.item item

pub returns-in-None-clause-relay : goal.returns-in-None-clause-relay
returns-in-None-clause-relay g c = no_relay c.args.self.now.hub.now.domain c.args.domain.now (marks_of c.seek.new.self.passes) c.args.place (sym c.in-None.is ∙ c.in_ok-item.ensures.item)
