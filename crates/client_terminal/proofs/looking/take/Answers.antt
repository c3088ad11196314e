use Rattle.client_session.specs.Machine.{machine_of}
use Rattle.client_terminal.proofs.Short.{short_of}
use Rattle.client_terminal.proofs.looking.take.Goals as goal

pub act-requires : goal.act-requires
act-requires g c = short_of (machine_of c.args.client.now) c.args.message.now _ c.in_ok-acts.ensures.ok
