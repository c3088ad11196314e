use Rattle.std.proofs.Common.{inl, inr, ◌+◌, ◌∙◌, refl, ap, subst, arith}
use Rattle.wave_outside.specs.declared.link.LinkEvent.TheVariants.{Idle, Ended}
use Rattle.client_session.specs.Machine.{machine_of}
use Rattle.client_terminal.specs.Going.{IsLooked}
use Rattle.client_terminal.specs.Moods.{is_closed}
use Rattle.client_terminal.specs.Runs.{looked, in_phase, Looking, Reading, Closed}
use Rattle.client_terminal.proofs.Stepping.{heard_goes, heard_stops, moved_goes, unlooked_stops, is_looking, looked_out, looked_keeps, on_same, below, at_most}
use Rattle.client_terminal.proofs.looking.look_on.Goals as goal

pub returns-in-Ok-Nothing-clause-goes : goal.returns-in-Ok-Nothing-clause-goes
returns-in-Ok-Nothing-clause-goes g c = λ o ls h.
    let j = c.loop-count._count in
    let was = c.loop-count.invariant.goes o ls h in
    moved_goes g.L.Link.tells o (Looking j) (looked j) (in_phase Reading) (machine_of c.loop-count.client) (machine_of c.look.new.client) ls (g.L.Link.events c.loop-count.link) (g.L.Link.events c.look.new.link)
    (g.W.Sink.written c.loop-count.sink) (g.W.Sink.written c.look.new.sink) was (is_looking j was.run (below j c.loop-count-test.true)) Idle refl refl (subst (IsLooked g.L.Link.tells (machine_of c.loop-count.client) (machine_of c.look.new.client) (g.L.Link.events c.loop-count.link) (g.L.Link.events c.look.new.link) (g.W.Sink.written c.loop-count.sink) (g.W.Sink.written c.look.new.sink)) c.in-Ok-Nothing.field-0-is c.in-Ok-Nothing.ensures.looked)

pub returns-in-Ok-Closed-clause-goes : goal.returns-in-Ok-Closed-clause-goes
returns-in-Ok-Closed-clause-goes g c = λ o ls h.
    let j = c.loop-count._count in
    let was = c.loop-count.invariant.goes o ls h in
    moved_goes g.L.Link.tells o (Looking j) (looked j) (in_phase Closed) (machine_of c.loop-count.client) (machine_of c.look.new.client) ls (g.L.Link.events c.loop-count.link) (g.L.Link.events c.look.new.link)
    (g.W.Sink.written c.loop-count.sink) (g.W.Sink.written c.look.new.sink) was (is_looking j was.run (below j c.loop-count-test.true)) Ended refl refl (subst (IsLooked g.L.Link.tells (machine_of c.loop-count.client) (machine_of c.look.new.client) (g.L.Link.events c.loop-count.link) (g.L.Link.events c.look.new.link) (g.W.Sink.written c.loop-count.sink) (g.W.Sink.written c.look.new.sink)) c.in-Ok-Closed.field-0-is c.in-Ok-Closed.ensures.looked)

pub returns-in-Err-clause-halts : goal.returns-in-Err-clause-halts
returns-in-Err-clause-halts g c = λ o ls h.
    let j = c.loop-count._count in
    let was = c.loop-count.invariant.goes o ls h in
    elim c.in-Err.ensures.unheard [
      | inl u ↦ unlooked_stops g.L.Link.tells o (looked j) (machine_of c.loop-count.client) ls (g.L.Link.events c.loop-count.link) (g.L.Link.events c.look.new.link) (g.W.Sink.written c.loop-count.sink) (g.W.Sink.written c.look.new.sink) (looked_keeps j) was u
      | inr u ↦ heard_stops g.L.Link.tells o (Looking j) (looked j) (looked (j + 1)) (machine_of c.loop-count.client) (machine_of c.look.new.client) ls (g.L.Link.events c.loop-count.link) (g.L.Link.events c.look.new.link)
          (g.W.Sink.written c.loop-count.sink) (g.W.Sink.written c.look.new.sink) was (is_looking j was.run (below j c.loop-count-test.true)) (looked_keeps (j + 1)) (λ b. refl) u
    ]

pub loop-count-preserved : goal.loop-count-preserved
loop-count-preserved g c =
    let j = c.loop-count._count in
    let low = c.loop-count-test.true in
    let later = c.in-Ok-Message.ensures.later in
    record {
      goes = λ o ls h.
          let was = c.loop-count.invariant.goes o ls h in
          heard_goes g.L.Link.tells o (Looking j) (looked j) (looked (j + 1)) (machine_of c.loop-count.client) (machine_of c.look.new.client) ls (g.L.Link.events c.loop-count.link) (g.L.Link.events c.look.new.link)
          (g.W.Sink.written c.loop-count.sink) (g.W.Sink.written c.look.new.sink) was (is_looking j was.run (below j low)) (λ b. refl) (subst (IsLooked g.L.Link.tells (machine_of c.loop-count.client) (machine_of c.look.new.client) (g.L.Link.events c.loop-count.link) (g.L.Link.events c.look.new.link) (g.W.Sink.written c.loop-count.sink) (g.W.Sink.written c.look.new.sink)) c.in-Ok-Message.field-0-is c.in-Ok-Message.ensures.looked);
      unclosed = c.in-Ok-Message.ensures.closed ∙ ap is_closed c.in-Ok-Message.field-0-is;
      small = omega (arith, low);
      link_later = let l = later.0 in omega (arith, l, c.loop-count.invariant.link_later);
      sink_later = let l = later.1 in omega (arith, l, c.loop-count.invariant.sink_later);
    }

pub returns-clause-goes : goal.returns-clause-goes
returns-clause-goes g c = λ o ls h.
    let j = c.loop-count._count in
    let was = c.loop-count.invariant.goes o ls h in
    on_same g.L.Link.tells o (looked j) (in_phase Reading) (machine_of c.loop-count.client) ls (g.L.Link.events c.loop-count.link) (g.W.Sink.written c.loop-count.sink) was (looked_out j was.run (at_most j (let high = c.loop-count-test.false in omega (arith, high)) c.loop-count.invariant.small))
