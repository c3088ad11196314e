use Rattle.std.proofs.Common.{◌∙◌, sym}
use Rattle.shard_marks.specs.Passes.{marks_of}
use Rattle.session_hub.proofs.Sought.{reach_is, no_reach}
use Rattle.session_hub.proofs.hub_turns.HubTurnsPeerTurns.next_copy.Goals as goal

pub returns-in-Some-clause-reach : goal.returns-in-Some-clause-reach
returns-in-Some-clause-reach g c =
    let item = sym c.in-Some.is ∙ c.in_ok-item.ensures.item in
    c.into_reach.ensures ∙ reach_is c.args.self.now.hub.now.domain c.args.domain.now (marks_of c.seek.new.self.passes) c.args.place c.in-Some.item item

pub returns-in-None-clause-reach : goal.returns-in-None-clause-reach
returns-in-None-clause-reach g c = no_reach c.args.self.now.hub.now.domain c.args.domain.now (marks_of c.seek.new.self.passes) c.args.place (sym c.in-None.is ∙ c.in_ok-item.ensures.item)
