use Rattle.std.proofs.Common.{[], ◌∷◌, ◌++◌, ◌∙◌, ap, subst, arith, take, get_or}
use Rattle.client_session.specs.Machine.{machine_of}
use Rattle.client_terminal.specs.Going.{IsFedAs}
use Rattle.client_terminal.specs.Moods.{ends_closed}
use Rattle.client_terminal.specs.Runs.{in_phase, Left, Closed}
use Rattle.client_terminal.specs.declared.mood.Mood.{Mood}
use Rattle.client_terminal.proofs.Feeding.{feeding_more, feeding_ended, feeding_stopped}
use Rattle.client_terminal.proofs.lines.feed.Goals as goal

pub returns-in-Ok-Left-clause-goes : goal.returns-in-Ok-Left-clause-goes
returns-in-Ok-Left-clause-goes g c = λ o read h.
    let i = c.loop-byte.byte-index in
    let es = g.L.Link.events c.take_byte.new.link in
    let held = g.W.Sink.written c.take_byte.new.sink in
    feeding_ended g.L.Link.tells o es held (machine_of c.take_byte.new.client) read c.args.bytes.now c.take_byte.new.line.items i 0 c.loop-byte-test.true (in_phase Left)
    (subst (λ (z : Mood). IsFedAs g.L.Link.tells o z (machine_of c.take_byte.new.client) ((read ++ take i c.args.bytes.now) ++ get_or c.args.bytes.now i 0 ∷ []) c.take_byte.new.line.items es held)
    c.in-Ok-Left.field-0-is (c.in-Ok-Left.ensures.goes o (read ++ take i c.args.bytes.now) (c.loop-byte.invariant.goes o read h)))

pub returns-in-Ok-Closed-clause-goes : goal.returns-in-Ok-Closed-clause-goes
returns-in-Ok-Closed-clause-goes g c = λ o read h.
    let i = c.loop-byte.byte-index in
    let es = g.L.Link.events c.take_byte.new.link in
    let held = g.W.Sink.written c.take_byte.new.sink in
    feeding_ended g.L.Link.tells o es held (machine_of c.take_byte.new.client) read c.args.bytes.now c.take_byte.new.line.items i 0 c.loop-byte-test.true (in_phase Closed)
    (subst (λ (z : Mood). IsFedAs g.L.Link.tells o z (machine_of c.take_byte.new.client) ((read ++ take i c.args.bytes.now) ++ get_or c.args.bytes.now i 0 ∷ []) c.take_byte.new.line.items es held)
    c.in-Ok-Closed.field-0-is (c.in-Ok-Closed.ensures.goes o (read ++ take i c.args.bytes.now) (c.loop-byte.invariant.goes o read h)))

pub returns-in-Err-clause-halts : goal.returns-in-Err-clause-halts
returns-in-Err-clause-halts g c = λ o read h.
    let i = c.loop-byte.byte-index in
    feeding_stopped g.L.Link.tells o (g.L.Link.events c.take_byte.new.link) (g.W.Sink.written c.take_byte.new.sink) (machine_of c.take_byte.new.client) read c.args.bytes.now c.take_byte.new.line.items i 0 c.loop-byte-test.true
    (c.in-Err.ensures.halts o (read ++ take i c.args.bytes.now) (c.loop-byte.invariant.goes o read h))

pub loop-byte-preserved : goal.loop-byte-preserved
loop-byte-preserved g c =
    let i = c.loop-byte.byte-index in
    let later = c.in-Ok-Reading.ensures.later in
    record {
      goes = λ o read h.
          let es = g.L.Link.events c.take_byte.new.link in
          let held = g.W.Sink.written c.take_byte.new.sink in
          feeding_more g.L.Link.tells o es held (machine_of c.take_byte.new.client) read c.args.bytes.now c.take_byte.new.line.items i 0 c.loop-byte-test.true
          (subst (λ (z : Mood). IsFedAs g.L.Link.tells o z (machine_of c.take_byte.new.client) ((read ++ take i c.args.bytes.now) ++ get_or c.args.bytes.now i 0 ∷ []) c.take_byte.new.line.items es held)
          c.in-Ok-Reading.field-0-is (c.in-Ok-Reading.ensures.goes o (read ++ take i c.args.bytes.now) (c.loop-byte.invariant.goes o read h)));
      unclosed = c.in-Ok-Reading.ensures.closed ∙ ap ends_closed c.in-Ok-Reading.field-0-is;
      link_later = let l = later.0 in omega (arith, l, c.loop-byte.invariant.link_later);
      sink_later = let l = later.1 in omega (arith, l, c.loop-byte.invariant.sink_later);
    }
