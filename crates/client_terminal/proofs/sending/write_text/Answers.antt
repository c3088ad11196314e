use Rattle.std.proofs.Common.{drop, take, subst}
use Rattle.std.proofs.lemmas.List.{take-append-drop}
use Rattle.client_terminal.specs.Going.{IsWrittenInPart}
use Rattle.client_terminal.proofs.sending.write_text.Goals as goal

pub returns-in-Err-clause-unsaid : goal.returns-in-Err-clause-unsaid
returns-in-Err-clause-unsaid g c =
    let e = c.in-Err.ensures.err in
    subst (IsWrittenInPart (g.W.Sink.written c.args.sink.now) (g.W.Sink.written c.write_all.new.sink)) c.as_bytes.ensures.value
    (take e.0 c.as_bytes.result.now, e.2, (drop e.0 c.as_bytes.result.now, take-append-drop e.0 c.as_bytes.result.now))
