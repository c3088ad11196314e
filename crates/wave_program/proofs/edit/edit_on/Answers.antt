use Rattle.std.proofs.Common.{◌≡◌, ◌∙◌, ℕ, subst}
use Rattle.wave_outside.specs.Counts.{Rose}
use Rattle.wave_outside.specs.declared.link.LinkEvent.{LinkEvent}
use Rattle.std.specs.Prelude.{List}
use Rattle.client_terminal.specs.Whole.{IsRunAs, origin_of}
use Rattle.wave_program.proofs.edit.edit_on.Goals as goal

pub returns-clause-edited : goal.returns-clause-edited
returns-clause-edited g c = (
  c.edit_run-status.new.link,
  c.put.ensures.back,
  c.put.ensures.line,
  subst (λ (es : List LinkEvent). IsRunAs g.N.Link.Link.tells (origin_of c.args.user c.args.client es (g.W.Sink.written c.args.sink.now)) (g.N.Link.Link.events c.edit_run-status.new.link) (g.S.Source.left c.args.source.now) (g.S.Source.left c.edit_run-status.new.source) (g.W.Sink.written c.edit_run-status.new.sink) c.edit_run-status.result)
      c.requires.unused.empty c.edit_run-status.ensures.edited,
  c.edit_run-status.ensures.closed,
  λ seven. subst (λ (n : ℕ). Rose n (g.N.Link.Link.faults c.edit_run-status.new.link)) c.requires.unused.faultless (c.edit_run-status.ensures.link_failed seven),
)
