use Rattle.std.proofs.Common.{sym, ap, subst, ◌∙◌, ◌∷◌, ◌++◌, append-nil}
use Rattle.peer_turns.specs.Calls.{fault_refused}
use Rattle.peer_rounds.specs.Turns.{HaveTurned}
use Rattle.peer_rounds.proofs.Standing.{prefix_then}
use Rattle.peer_rounds.proofs.each.+turn_each.Goals as goal

pub returns-in-Ok-turn_each-clause-turned : goal.returns-in-Ok-turn_each-clause-turned
returns-in-Ok-turn_each-clause-turned g t c =
    subst (λ z. HaveTurned g.T.PeerTurns g.N.Net z (c.turn.new.self ∷ c.turn_each.new.peers) c.args.turns.now c.turn_each.new.turns c.args.net.now c.turn_each.new.net c.either.result) (sym c.in-Some.ensures.cases.0)
    (c.turn.new.turns, c.turn.new.net, c.in-Ok.one, c.in-Ok-turn_each.others, c.in-Ok.ensures.turned, c.in-Ok-turn_each.ensures.turned, c.either.ensures)

pub returns-in-Ok-turn_each-clause-back : goal.returns-in-Ok-turn_each-clause-back
returns-in-Ok-turn_each-clause-back g t c = prefix_then (g.N.Net.back c.args.net.now) (g.N.Net.back c.turn.new.net) (g.N.Net.back c.turn_each.new.net) c.turn.ensures.back c.turn_each.ensures.back

pub returns-in-Err-turn_each-clause-back : goal.returns-in-Err-turn_each-clause-back
returns-in-Err-turn_each-clause-back g t c = prefix_then (g.N.Net.back c.args.net.now) (g.N.Net.back c.turn.new.net) (g.N.Net.back c.turn_each.new.net) c.turn.ensures.back c.turn_each.ensures.back

pub returns-in-Err-turn_each-clause-spent : goal.returns-in-Err-turn_each-clause-spent
returns-in-Err-turn_each-clause-spent g t c = λ told. c.in-Err-turn_each.ensures.spent told ∙ ap (λ z. z ++ fault_refused c.in-Err-turn_each.fault) (c.in-Ok.ensures.spent told ∙ append-nil _)
