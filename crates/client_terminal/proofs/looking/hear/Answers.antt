use Rattle.std.proofs.Common.{OnErr, refl, sym, ap, subst}
use Rattle.client_session.specs.Answers.{printed}
use Rattle.client_session.specs.Machine.{Acted, machine_of}
use Rattle.client_terminal.specs.Going.{IsWrittenInPart}
use Rattle.client_terminal.specs.Runs.{reply_as}
use Rattle.client_terminal.proofs.Stepping.{parts_none}
use Rattle.client_terminal.proofs.looking.hear.Goals as goal

pub returns-in-Ok-clause-unsaid : goal.returns-in-Ok-clause-unsaid
returns-in-Ok-clause-unsaid g c =
    subst (λ (z : Acted). OnErr c.take.result (IsWrittenInPart (g.W.Sink.written c.args.sink.now) (g.W.Sink.written c.take.new.sink) (printed z.1))) (sym (ap (reply_as (machine_of c.args.client.now)) c.in-Ok.ensures.ok)) c.take.ensures.unsaid

pub returns-in-Err-Memory-clause-unsaid : goal.returns-in-Err-Memory-clause-unsaid
returns-in-Err-Memory-clause-unsaid g c = parts_none _ _ _ refl
