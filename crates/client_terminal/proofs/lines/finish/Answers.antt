use Rattle.std.proofs.Common.{ℕ, List, sym, subst, ◌∙◌, IfOk, OnErr}
use Rattle.client_session.specs.Machine.{machine_of}
use Rattle.client_terminal.specs.Going.{IsOn, IsOff}
use Rattle.client_terminal.specs.Moods.{mood_run}
use Rattle.client_terminal.specs.declared.mood.Mood.{Mood}
use Rattle.client_terminal.proofs.Feeding.{last_none, last_is, no_byte, some_byte}
use Rattle.client_terminal.proofs.lines.finish.Goals as goal

pub returns-then-is_empty-clause-goes : goal.returns-then-is_empty-clause-goes
returns-then-is_empty-clause-goes g c = λ o read h.
    last_none g.L.Link.tells o (g.L.Link.events c.args.link.now) (g.W.Sink.written c.args.sink.now) (machine_of c.args.client.now) read c.args.line.now (no_byte c.args.line.now (sym c.is_empty.ensures ∙ c.if-is_empty.true)) h

pub returns-clause-goes : goal.returns-clause-goes
returns-clause-goes g c = λ o read h.
    subst (λ (ls : List (List ℕ)). IfOk c.do_line.result (λ (mood : Mood). IsOn g.L.Link.tells o (mood_run mood) (machine_of c.do_line.new.client) ls (g.L.Link.events c.do_line.new.link) (g.W.Sink.written c.do_line.new.sink)))
    (last_is g.L.Link.tells o (g.L.Link.events c.args.link.now) (g.W.Sink.written c.args.sink.now) read c.args.line.now h.lines (some_byte c.args.line.now (sym c.is_empty.ensures ∙ c.if-is_empty.false)) h.reading) (c.do_line.ensures.goes o h.lines h.on)

pub returns-clause-halts : goal.returns-clause-halts
returns-clause-halts g c = λ o read h.
    subst (λ (ls : List (List ℕ)). OnErr c.do_line.result (IsOff g.L.Link.tells o ls (g.L.Link.events c.do_line.new.link) (g.W.Sink.written c.do_line.new.sink)))
    (last_is g.L.Link.tells o (g.L.Link.events c.args.link.now) (g.W.Sink.written c.args.sink.now) read c.args.line.now h.lines (some_byte c.args.line.now (sym c.is_empty.ensures ∙ c.if-is_empty.false)) h.reading) (c.do_line.ensures.halts o h.lines h.on)
