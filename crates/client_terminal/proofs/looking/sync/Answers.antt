use Rattle.std.proofs.Common.{sym, inl, inr, ◌+◌, ◌∙◌, refl, ap, subst, arith}
use Rattle.wave_outside.specs.declared.link.LinkEvent.TheVariants.{Idle, Ended}
use Rattle.client_session.specs.Machine.{machine_of}
use Rattle.client_terminal.specs.Going.{IsLooked}
use Rattle.client_terminal.specs.Moods.{is_closed}
use Rattle.client_terminal.specs.Runs.{synced, in_phase, Syncing, Closed}
use Rattle.client_terminal.proofs.Stepping.{heard_goes, heard_stops, moved_goes, unlooked_stops, is_syncing, synced_keeps, out_first, out_second, in_both, out_goes, out_stops}
use Rattle.client_terminal.proofs.looking.sync.Goals as goal
use Rattle.client_terminal.proofs.looking.sync.Goals.{then-idle-eq-MAX_LOOKS-via-then-idle-eq-MAX_LOOKS, then-idle-eq-MAX_LOOKS-via-else-idle-eq-MAX_LOOKS+then-taken-eq-MAX_LOOKS}

pub returns-then-idle-eq-MAX_LOOKS-clause-goes : goal.returns-then-idle-eq-MAX_LOOKS-clause-goes
returns-then-idle-eq-MAX_LOOKS-clause-goes g c = λ o ls h.
    let i = c.loop-alloc.idle in
    let j = c.loop-alloc.taken in
    out_goes g.L.Link.tells o i j (machine_of c.loop-alloc.client) ls (g.L.Link.events c.loop-alloc.link) (g.W.Sink.written c.loop-alloc.sink) (g.W.Sink.written c.unsettled.new.sink) (c.loop-alloc.invariant.goes o ls h) (sym c.is_waiting.ensures ∙ c.loop-alloc-test.true) c.unsettled.result c.unsettled.ensures.ok c.unsettled.ensures.said
    (elim c.then-idle-eq-MAX_LOOKS.branch [
      | then-idle-eq-MAX_LOOKS-via-then-idle-eq-MAX_LOOKS w ↦ out_first i j w.if-idle-eq-MAX_LOOKS.true
      | then-idle-eq-MAX_LOOKS-via-else-idle-eq-MAX_LOOKS+then-taken-eq-MAX_LOOKS w ↦ out_second i j w.if-taken-eq-MAX_LOOKS.true
    ])

pub returns-then-idle-eq-MAX_LOOKS-clause-halts : goal.returns-then-idle-eq-MAX_LOOKS-clause-halts
returns-then-idle-eq-MAX_LOOKS-clause-halts g c = λ o ls h.
    let i = c.loop-alloc.idle in
    let j = c.loop-alloc.taken in
    out_stops g.L.Link.tells o i j (machine_of c.loop-alloc.client) ls (g.L.Link.events c.loop-alloc.link) (g.W.Sink.written c.loop-alloc.sink) (g.W.Sink.written c.unsettled.new.sink) (c.loop-alloc.invariant.goes o ls h) (sym c.is_waiting.ensures ∙ c.loop-alloc-test.true) c.unsettled.result c.unsettled.ensures.unsaid
    (elim c.then-idle-eq-MAX_LOOKS.branch [
      | then-idle-eq-MAX_LOOKS-via-then-idle-eq-MAX_LOOKS w ↦ out_first i j w.if-idle-eq-MAX_LOOKS.true
      | then-idle-eq-MAX_LOOKS-via-else-idle-eq-MAX_LOOKS+then-taken-eq-MAX_LOOKS w ↦ out_second i j w.if-taken-eq-MAX_LOOKS.true
    ])

pub loop-alloc-preserved-in-Ok-Message : goal.loop-alloc-preserved-in-Ok-Message
loop-alloc-preserved-in-Ok-Message g c =
    let i = c.loop-alloc.idle in
    let j = c.loop-alloc.taken in
    let later = c.in-Ok-Message.ensures.later in
    let apart = c.if-taken-eq-MAX_LOOKS.false in
    let small = c.loop-alloc.invariant.taken_small in
    record {
      goes = λ o ls h.
          let was = c.loop-alloc.invariant.goes o ls h in
          heard_goes g.L.Link.tells o (Syncing i j) (synced i j) (synced i (j + 1)) (machine_of c.loop-alloc.client) (machine_of c.look.new.client) ls (g.L.Link.events c.loop-alloc.link) (g.L.Link.events c.look.new.link)
          (g.W.Sink.written c.loop-alloc.sink) (g.W.Sink.written c.look.new.sink) was (is_syncing g.L.Link.tells o i j (machine_of c.loop-alloc.client) ls (g.L.Link.events c.loop-alloc.link) (g.W.Sink.written c.loop-alloc.sink) was (sym c.is_waiting.ensures ∙ c.loop-alloc-test.true) (in_both i j c.if-idle-eq-MAX_LOOKS.false c.if-taken-eq-MAX_LOOKS.false)) (λ b. refl)
          (subst (IsLooked g.L.Link.tells (machine_of c.loop-alloc.client) (machine_of c.look.new.client) (g.L.Link.events c.loop-alloc.link) (g.L.Link.events c.look.new.link) (g.W.Sink.written c.loop-alloc.sink) (g.W.Sink.written c.look.new.sink)) c.in-Ok-Message.field-0-is c.in-Ok-Message.ensures.looked);
      unclosed = c.in-Ok-Message.ensures.closed ∙ ap is_closed c.in-Ok-Message.field-0-is;
      idle_small = c.loop-alloc.invariant.idle_small;
      taken_small = omega (arith, apart, small);
      link_later = let l = later.0 in omega (arith, l, c.loop-alloc.invariant.link_later);
      sink_later = let l = later.1 in omega (arith, l, c.loop-alloc.invariant.sink_later);
    }

pub loop-alloc-preserved : goal.loop-alloc-preserved
loop-alloc-preserved g c =
    let i = c.loop-alloc.idle in
    let j = c.loop-alloc.taken in
    let later = c.in-Ok-Nothing.ensures.later in
    let apart = c.if-idle-eq-MAX_LOOKS.false in
    let small = c.loop-alloc.invariant.idle_small in
    record {
      goes = λ o ls h.
          let was = c.loop-alloc.invariant.goes o ls h in
          moved_goes g.L.Link.tells o (Syncing i j) (synced i j) (synced (i + 1) j) (machine_of c.loop-alloc.client) (machine_of c.look.new.client) ls (g.L.Link.events c.loop-alloc.link) (g.L.Link.events c.look.new.link)
          (g.W.Sink.written c.loop-alloc.sink) (g.W.Sink.written c.look.new.sink) was (is_syncing g.L.Link.tells o i j (machine_of c.loop-alloc.client) ls (g.L.Link.events c.loop-alloc.link) (g.W.Sink.written c.loop-alloc.sink) was (sym c.is_waiting.ensures ∙ c.loop-alloc-test.true) (in_both i j c.if-idle-eq-MAX_LOOKS.false c.if-taken-eq-MAX_LOOKS.false)) Idle refl refl
          (subst (IsLooked g.L.Link.tells (machine_of c.loop-alloc.client) (machine_of c.look.new.client) (g.L.Link.events c.loop-alloc.link) (g.L.Link.events c.look.new.link) (g.W.Sink.written c.loop-alloc.sink) (g.W.Sink.written c.look.new.sink)) c.in-Ok-Nothing.field-0-is c.in-Ok-Nothing.ensures.looked);
      unclosed = c.in-Ok-Nothing.ensures.closed ∙ ap is_closed c.in-Ok-Nothing.field-0-is;
      idle_small = omega (arith, apart, small);
      taken_small = c.loop-alloc.invariant.taken_small;
      link_later = let l = later.0 in omega (arith, l, c.loop-alloc.invariant.link_later);
      sink_later = let l = later.1 in omega (arith, l, c.loop-alloc.invariant.sink_later);
    }

pub returns-in-Ok-Closed-clause-goes : goal.returns-in-Ok-Closed-clause-goes
returns-in-Ok-Closed-clause-goes g c = λ o ls h.
    let i = c.loop-alloc.idle in
    let j = c.loop-alloc.taken in
    let was = c.loop-alloc.invariant.goes o ls h in
    moved_goes g.L.Link.tells o (Syncing i j) (synced i j) (in_phase Closed) (machine_of c.loop-alloc.client) (machine_of c.look.new.client) ls (g.L.Link.events c.loop-alloc.link) (g.L.Link.events c.look.new.link)
    (g.W.Sink.written c.loop-alloc.sink) (g.W.Sink.written c.look.new.sink) was (is_syncing g.L.Link.tells o i j (machine_of c.loop-alloc.client) ls (g.L.Link.events c.loop-alloc.link) (g.W.Sink.written c.loop-alloc.sink) was (sym c.is_waiting.ensures ∙ c.loop-alloc-test.true) (in_both i j c.if-idle-eq-MAX_LOOKS.false c.if-taken-eq-MAX_LOOKS.false)) Ended refl refl
    (subst (IsLooked g.L.Link.tells (machine_of c.loop-alloc.client) (machine_of c.look.new.client) (g.L.Link.events c.loop-alloc.link) (g.L.Link.events c.look.new.link) (g.W.Sink.written c.loop-alloc.sink) (g.W.Sink.written c.look.new.sink)) c.in-Ok-Closed.field-0-is c.in-Ok-Closed.ensures.looked)

pub returns-in-Err-clause-halts : goal.returns-in-Err-clause-halts
returns-in-Err-clause-halts g c = λ o ls h.
    let i = c.loop-alloc.idle in
    let j = c.loop-alloc.taken in
    let was = c.loop-alloc.invariant.goes o ls h in
    elim c.in-Err.ensures.unheard [
      | inl u ↦ unlooked_stops g.L.Link.tells o (synced i j) (machine_of c.loop-alloc.client) ls (g.L.Link.events c.loop-alloc.link) (g.L.Link.events c.look.new.link) (g.W.Sink.written c.loop-alloc.sink) (g.W.Sink.written c.look.new.sink) (synced_keeps i j) was u
      | inr u ↦ heard_stops g.L.Link.tells o (Syncing i j) (synced i j) (synced i (j + 1)) (machine_of c.loop-alloc.client) (machine_of c.look.new.client) ls (g.L.Link.events c.loop-alloc.link) (g.L.Link.events c.look.new.link)
          (g.W.Sink.written c.loop-alloc.sink) (g.W.Sink.written c.look.new.sink) was (is_syncing g.L.Link.tells o i j (machine_of c.loop-alloc.client) ls (g.L.Link.events c.loop-alloc.link) (g.W.Sink.written c.loop-alloc.sink) was (sym c.is_waiting.ensures ∙ c.loop-alloc-test.true) (in_both i j c.if-idle-eq-MAX_LOOKS.false c.if-taken-eq-MAX_LOOKS.false)) (synced_keeps i (j + 1)) (λ b. refl) u
    ]
