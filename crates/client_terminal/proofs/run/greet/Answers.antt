use Rattle.client_session.specs.Machine.{machine_of}
use Rattle.client_terminal.proofs.Short.{short_greeted}
use Rattle.client_terminal.proofs.run.greet.Goals as goal

pub act-requires : goal.act-requires
act-requires g c = short_greeted (machine_of c.args.client.now) _ c.in_ok-acts.ensures.ok
