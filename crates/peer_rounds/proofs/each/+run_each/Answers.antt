use Rattle.std.proofs.Common.{sym, ap, subst, ◌∙◌, ◌∷◌, ◌++◌, append-nil}
use Rattle.peer_turns.specs.Calls.{fault_refused}
use Rattle.peer_rounds.specs.Turns.{HaveRun}
use Rattle.peer_rounds.proofs.Standing.{prefix_then}
use Rattle.peer_rounds.proofs.each.+run_each.Goals as goal

pub returns-in-Ok-run_each-clause-run : goal.returns-in-Ok-run_each-clause-run
returns-in-Ok-run_each-clause-run g t c =
    subst (λ z. HaveRun g.T.PeerTurns g.N.Net z (c.run.new.self ∷ c.run_each.new.peers) c.args.turns.now c.run_each.new.turns c.args.net.now c.run_each.new.net) (sym c.in-Some.ensures.cases.0)
    (c.run.new.turns, c.run.new.net, c.in-Ok.ensures.run, c.in-Ok-run_each.ensures.run)

pub returns-in-Ok-run_each-clause-back : goal.returns-in-Ok-run_each-clause-back
returns-in-Ok-run_each-clause-back g t c = prefix_then (g.N.Net.back c.args.net.now) (g.N.Net.back c.run.new.net) (g.N.Net.back c.run_each.new.net) c.run.ensures.back c.run_each.ensures.back

pub returns-in-Err-run_each-clause-back : goal.returns-in-Err-run_each-clause-back
returns-in-Err-run_each-clause-back g t c = prefix_then (g.N.Net.back c.args.net.now) (g.N.Net.back c.run.new.net) (g.N.Net.back c.run_each.new.net) c.run.ensures.back c.run_each.ensures.back

pub returns-in-Err-run_each-clause-spent : goal.returns-in-Err-run_each-clause-spent
returns-in-Err-run_each-clause-spent g t c = λ told. c.in-Err-run_each.ensures.spent told ∙ ap (λ z. z ++ fault_refused c.in-Err-run_each.fault) (c.in-Ok.ensures.spent told ∙ append-nil _)
