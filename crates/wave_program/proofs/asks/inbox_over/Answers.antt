use Rattle.std.proofs.Common.{ap, subst, ◌∙◌}
use Rattle.inbox_machine.specs.Machine.{start, clerk}
use Rattle.wave_terminal.specs.Runs.{IsObeyed}
use Rattle.wavelet_shelf.specs.Shelves.{hosted_of, copies_of}
use Rattle.wave_program.specs.Asks.{histories_of}
use Rattle.wave_program.proofs.Asking.{nothing_obeyed, same_histories}
use Rattle.wave_program.proofs.asks.inbox_over.Goals as goal

pub returns-in-Err-clause-listed : goal.returns-in-Err-clause-listed
returns-in-Err-clause-listed g c = nothing_obeyed clerk (start (histories_of (hosted_of c.args.shelf.now)) c.args.user) _ _

pub returns-in-Ok-clause-listed : goal.returns-in-Ok-clause-listed
returns-in-Ok-clause-listed g c =
    let s = c.args.shelf.now in
    let is = c.in-Ok.ensures ∙ ap (λ hs. start hs c.args.user) (same_histories (hosted_of s) (copies_of s) c.copies_are_hosted.ensures.copies) in
    subst (λ inbox. IsObeyed clerk inbox (g.S.Source.left c.args.source.now) (g.S.Source.left c.answer_inbox.new.source) (g.W.Sink.written c.args.sink.now) (g.W.Sink.written c.answer_inbox.new.sink) c.answer_inbox.result) is c.answer_inbox.ensures.listed
