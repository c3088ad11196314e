use Rattle.std.proofs.Common.{◌≡◌, ◌<◌, ◌≤◌, ◌+◌, ◌-◌, ◌++◌, take, drop, length, sym, ap, ◌∙◌, arith, le_refl, length-drop}
use Rattle.std.proofs.Math.Seq.{take-add}
use Rattle.std.proofs.lemmas.List.{take-append-drop}
use Rattle.std.proofs.lemmas.Result.{err_from_is_err_and}
use Rattle.line_loop.proofs.Feeding.{fed_none, fed_then, in_part_fed}
use Rattle.line_loop.proofs.Slices.{slice_end}
use Rattle.line_loop.proofs.feed.feed_lines.Goals as goal

pub loop-from-init : goal.loop-from-init
loop-from-init g c = record {
  within = omega arith;
  fed = fed_none g.M.LineMachine g.C.Clock c.args.machine.now c.args.clock.now _ c.args.begun.now.bytes.items;
  sink_later = le_refl _;
  machine_later = le_refl _;
}

pub loop-from-preserved : goal.loop-from-preserved
loop-from-preserved g c =
    let from = c.loop-from.from in
    let bytes = c.args.bytes.now in
    record {
      within = omega (arith, c.in_ok-from.ensures.within, c.loop-from-test.true, length-drop from bytes);
      fed = fed_then g.M.LineMachine g.C.Clock c.args.machine.now c.loop-from.machine c.feed_some.new.machine c.args.clock.now c.loop-from.clock c.feed_some.new.clock _ _ _
          c.args.begun.now.bytes.items (take from bytes) c.loop-from.begun.bytes.items (take c.in_ok-from.field-0 (drop from bytes)) c.feed_some.new.begun.bytes.items _ (sym (take-add from c.in_ok-from.field-0 bytes))
          c.loop-from.invariant.fed (rw (← slice_end from bytes) c.in_ok-from.ensures.ok);
      sink_later = omega (arith, c.loop-from.invariant.sink_later, c.in_ok-from.ensures.sink_later);
      machine_later = omega (arith, c.loop-from.invariant.machine_later, c.in_ok-from.ensures.machine_later);
    }

pub returns-in_err-from-clause-err : goal.returns-in_err-from-clause-err
returns-in_err-from-clause-err g c =
    let p = err_from_is_err_and c.from_residual.result c.from_residual.ensures.1 in
    let from = c.loop-from.from in
    let bytes = c.args.bytes.now in
    rw (p.1, p.2)
    (in_part_fed g.M.LineMachine g.C.Clock _ c.args.machine.now c.loop-from.machine c.feed_some.new.machine c.args.clock.now c.loop-from.clock _ _ _
    c.args.begun.now.bytes.items (take from bytes) c.loop-from.begun.bytes.items (drop from bytes) bytes (take-append-drop from bytes)
    c.loop-from.invariant.fed (rw (← slice_end from bytes) c.in_err-from.ensures.err))
