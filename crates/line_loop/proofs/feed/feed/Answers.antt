use Rattle.std.proofs.Common.{◌≡◌, ◌<◌, ◌++◌, ◌∷◌, [], length, true, arith, sym}
use Rattle.std.proofs.lemmas.Bool.{eqb-true, eqb-false}
use Rattle.line_loop.specs.Lines.{given, turned, Begins, IsPrefix}
use Rattle.line_loop.specs.Feeding.{IsFed, IsFedLine, IsFedChunk, IsFedInPart}
use Rattle.line_loop.proofs.Feeding.{chunk_fed, chunk_last, chunk_part, chunk_unfed, if_err_weaker, on_ok_both}
use Rattle.line_loop.proofs.Serving.{length-zero}
use Rattle.line_loop.proofs.feed.feed.Goals as goal

pub returns-then-is_empty-clause-ok : goal.returns-then-is_empty-clause-ok
returns-then-is_empty-clause-ok g c =
    let bytes = c.args.bytes.now in
    let begun = c.args.begun.now.bytes.items in
    let none : length bytes ≡ 0 = eqb-true (length bytes) 0 (sym c.if-is_empty.ensures) in
    on_ok_both c.feed_last.result _ _
    (λ p. chunk_last g.M.LineMachine g.C.Clock c.args.machine.now c.feed_last.new.machine c.args.clock.now c.feed_last.new.clock _ _ begun bytes begun none c.args.begun.now.unended p)
    (rw (← c.as_slice.ensures.value) c.feed_last.ensures.ok)

pub returns-then-is_empty-clause-err : goal.returns-then-is_empty-clause-err
returns-then-is_empty-clause-err g c =
    let bytes = c.args.bytes.now in
    let begun = c.args.begun.now.bytes.items in
    let none : bytes ≡ [] = length-zero bytes (eqb-true (length bytes) 0 (sym c.if-is_empty.ensures)) in
    if_err_weaker c.feed_last.result _ _
    (λ e p. chunk_unfed g.M.LineMachine g.C.Clock e c.args.machine.now c.feed_last.new.machine c.args.clock.now _ _ begun bytes none c.args.begun.now.unended p)
    (rw (← c.as_slice.ensures.value) c.feed_last.ensures.err)

pub returns-clause-ok : goal.returns-clause-ok
returns-clause-ok g c =
    let bytes = c.args.bytes.now in
    let some : 0 < length bytes = let none = eqb-false (length bytes) 0 (sym c.if-is_empty.ensures) in omega arith in
    on_ok_both c.feed_lines.result _ _
    (λ p. chunk_fed g.M.LineMachine g.C.Clock c.args.machine.now c.feed_lines.new.machine c.args.clock.now c.feed_lines.new.clock _ _ c.args.begun.now.bytes.items bytes c.feed_lines.new.begun.bytes.items some p)
    c.feed_lines.ensures.ok

pub returns-clause-err : goal.returns-clause-err
returns-clause-err g c =
    if_err_weaker c.feed_lines.result _ _
    (λ e p. chunk_part g.M.LineMachine g.C.Clock e c.args.machine.now c.feed_lines.new.machine c.args.clock.now _ _ (c.args.begun.now.bytes.items ++ c.args.bytes.now) p)
    c.feed_lines.ensures.err
