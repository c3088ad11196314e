use Rattle.std.proofs.Common.{[], ◌∷◌, ◌++◌, ℕ, List, subst}
use Rattle.client_session.specs.Machine.{machine_of}
use Rattle.client_terminal.specs.Going.{IsOn, IsOff}
use Rattle.client_terminal.specs.Moods.{mood_run}
use Rattle.client_terminal.proofs.Feeding.{line_fed, line_stopped, feed_byte}
use Rattle.client_terminal.proofs.lines.take_byte.Goals as goal

pub returns-in-Ok-do_line-clause-goes : goal.returns-in-Ok-do_line-clause-goes
returns-in-Ok-do_line-clause-goes g c = λ o read h.
    line_fed g.L.Link.tells o (g.L.Link.events c.do_line.new.link) (g.W.Sink.written c.do_line.new.sink) read c.args.line.now.items c.args.byte h.lines h.reading (feed_byte c.args.byte c.if-byte-ne10.false)
    c.in-Ok-do_line.mood (machine_of c.do_line.new.client) c.clear.new.self.items c.clear.ensures.items
    (subst (λ (z : List ℕ). IsOn g.L.Link.tells o (mood_run c.in-Ok-do_line.mood) (machine_of c.do_line.new.client) (h.lines ++ z ∷ []) (g.L.Link.events c.do_line.new.link) (g.W.Sink.written c.do_line.new.sink))
    c.as_slice.ensures.value (c.in-Ok-do_line.ensures.goes o h.lines h.on))

pub returns-in-Err-do_line-clause-halts : goal.returns-in-Err-do_line-clause-halts
returns-in-Err-do_line-clause-halts g c = λ o read h.
    line_stopped g.L.Link.tells o (g.L.Link.events c.do_line.new.link) (g.W.Sink.written c.do_line.new.sink) read c.args.line.now.items c.args.byte h.lines h.reading (feed_byte c.args.byte c.if-byte-ne10.false)
    (subst (λ (z : List ℕ). IsOff g.L.Link.tells o (h.lines ++ z ∷ []) (g.L.Link.events c.do_line.new.link) (g.W.Sink.written c.do_line.new.sink)) c.as_slice.ensures.value (c.in-Err-do_line.ensures.halts o h.lines h.on))
