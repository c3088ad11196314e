use Rattle.std.proofs.Common.{◌≡◌, ◌<◌, [], ◌∷◌, length, sym, ap, ◌∙◌, subst, inl, inr, refl}
use Rattle.line_loop.specs.Lines.{IsPrefix}
use Rattle.line_loop.specs.Turns.{lines_in}
use Rattle.wavelet_shelf.specs.Entries.{IsWrittenOn, histories}
use Rattle.wavelet_shelf.specs.Shelves.{entries_of, container_in, hosted_of, IsKept, IsSettled}
use Rattle.wavelet_shelf.proofs.Growing.{shown_ascend}
use Rattle.wavelet_shelf.proofs.Placing.{hist_ascends}
use Rattle.wavelet_shelf.proofs.Shelving.{deltas_of}
use Rattle.pipe_machine.specs.Keeping.{AreWrittenOn, AreBegun}
use Rattle.pipe_machine.specs.Lines.{lines_of}
use Rattle.pipe_machine.specs.Machine.{Pipe, start, sent, turn, after}
use Rattle.pipe_machine.specs.Pipes.{pipe_of, StandsAlong}
use Rattle.pipe_machine.proofs.Holding.{after_begins}
use Rattle.pipe_machine.proofs.Turning.{after_more}
use Rattle.wave_program.specs.Pipe.{IsLeftOf}
use Rattle.wave_program.proofs.Leaving.{left_of, left_still, left_tried}
use Rattle.wave_program.proofs.Piping.{front_of, of_source, of_sink, of_store, serving}
use Rattle.wave_program.proofs.pipe.serve_over.Goals as goal

pub returns-clause-over : goal.returns-clause-over
returns-clause-over g c =
    let s = c.run_lines-ending.ensures.served in
    let st = sym c.status.ensures in
    let is : pipe_of c.new-machine.result ≡ start (hosted_of c.args.shelf) = c.new-machine.ensures.pipe in
    let e : (after (start (hosted_of c.args.shelf)) s.turns).hosted ≡ hosted_of s.mid.shelf = ap (λ (p : Pipe). (after p s.turns).hosted) (sym is) ∙ ap (λ (p : Pipe). p.hosted) s.reached.pipe in
    record {
      known = serving c.run_lines-ending.result c.status.result c.status.ensures;
      run = record {
        read = s.read;
        written = s.written;
        consumed = s.consumed;
        appended = s.appended;
        bound = s.bound;
        turns = s.turns;
        timed = s.timed;
        lines = front_of (lines_in s.turns) (lines_in s.tried) s.lines;
        answered = subst (λ (p : Pipe). IsPrefix s.written (lines_of (sent p s.turns))) is s.answers;
        done = rw (c.status.ensures) s.done;
        ended = rw (c.status.ensures) s.ended;
        whole = rw (c.status.ensures) (λ w. subst (λ (p : Pipe). s.written ≡ lines_of (sent p s.turns)) is (s.whole w).0);
        short = rw (c.status.ensures) (λ four. subst (λ (p : Pipe). length s.written < length (lines_of (sent p s.turns))) is (s.short four).0);
        limit = rw (c.status.ensures) s.limit;
        at_limit = rw (c.status.ensures) s.at_limit;
      };
      tried = s.tried;
      lines = s.lines;
      moved = rw (← c.new-machine.ensures.shelf, c.into_shelf.ensures) s.moved;
      left =
          let reached : after (start (hosted_of c.args.shelf)) s.turns ≡ pipe_of s.mid = ap (λ (p : Pipe). after p s.turns) (sym is) ∙ s.reached.pipe in
          let calm : IsKept c.args.shelf → IsSettled c.args.shelf → IsKept s.mid.shelf × IsSettled s.mid.shelf = λ kept settled. s.calm (rw (c.new-machine.ensures.shelf) kept, rw (c.new-machine.ensures.shelf) settled) in
          let written : IsKept c.args.shelf → IsSettled c.args.shelf → AreWrittenOn c.args.shelf s.mid.shelf (λ n. StandsAlong (start (hosted_of c.args.shelf)) n s.turns) = λ kept settled n.
          subst (λ (p : Pipe). IsWrittenOn (container_in c.args.shelf n) (container_in s.mid.shelf n) (StandsAlong p n s.turns)) is
          (subst (λ x. IsWrittenOn (container_in x n) (container_in s.mid.shelf n) (StandsAlong (pipe_of c.new-machine.result) n s.turns)) c.new-machine.ensures.shelf (s.reached.moments (rw (c.new-machine.ensures.shelf) kept, rw (c.new-machine.ensures.shelf) settled) n)) in
          let begun : AreBegun c.args.shelf s.mid.shelf (hosted_of s.mid.shelf) = subst (λ x. AreBegun x s.mid.shelf (hosted_of s.mid.shelf)) c.new-machine.ensures.shelf s.reached.begun in
          let ascending = shown_ascend (histories (entries_of s.mid.shelf)) (hist_ascends deltas_of (entries_of s.mid.shelf) s.mid.shelf.containers.in_order.0) in
          rw (c.into_shelf.ensures)
          (left_of s (λ us. IsLeftOf c.args.shelf c.run_lines-ending.new.machine.shelf s.turns us)
          (λ same. left_still c.args.shelf s.mid.shelf c.run_lines-ending.new.machine.shelf s.turns (sym e) calm written begun (λ i. (same i).shelf))
          (λ t tried. left_tried c.args.shelf s.mid.shelf c.run_lines-ending.new.machine.shelf s.turns (sym e) calm written begun t (turn (pipe_of s.mid) t.time t.line).pipe.hosted
          (ap (λ (p : Pipe). (turn p t.time t.line).pipe.hosted) (sym reached) ∙ ap (λ (p : Pipe). p.hosted) (sym (after_more (start (hosted_of c.args.shelf)) s.turns t.time t.line))) (after_begins (pipe_of s.mid) (t ∷ []) ascending) tried.to tried.stepped));
      grown = λ n. rw (e, c.into_shelf.ensures) (s.since.grown n);
      whole = λ w.
          let here : c.run_lines-ending.new.machine ≡ s.mid = elim w [
            | inl x ↦ (s.whole (inl (st ∙ x))).1
            | inr y ↦ elim y [
              | inl x ↦ (s.whole (inr (inl (st ∙ x)))).1
              | inr z ↦ elim z [ inl x ↦ (s.short (st ∙ x)).1 | inr x ↦ (s.whole (inr (inr (st ∙ x)))).1 ]
            ]
          ] in (
            rw (c.into_shelf.ensures, here, e) refl,
            λ kept settled. rw (c.into_shelf.ensures, here) ((s.calm (rw (c.new-machine.ensures.shelf) kept, rw (c.new-machine.ensures.shelf) settled)).1),
          );
    }

pub returns-clause-source_failed : goal.returns-clause-source_failed
returns-clause-source_failed g c = of_source _ c.status.result c.run_lines-ending.result c.status.ensures c.run_lines-ending.ensures.source_failed

pub returns-clause-sink_failed : goal.returns-clause-sink_failed
returns-clause-sink_failed g c = of_sink _ c.status.result c.run_lines-ending.result c.status.ensures c.run_lines-ending.ensures.sink_failed

pub returns-clause-store_failed : goal.returns-clause-store_failed
returns-clause-store_failed g c = of_store _ c.status.result c.run_lines-ending.result c.status.ensures (rw (← c.new-machine.ensures.shelf, c.into_shelf.ensures) c.run_lines-ending.ensures.store_failed)

pub returns-clause-known : goal.returns-clause-known
returns-clause-known g c = serving c.run_lines-ending.result c.status.result c.status.ensures
