use Rattle.std.proofs.Common.{◌+◌, ◌∙◌, ap, arith, length, take}
use Rattle.std.specs.List.{flat_map}
use Rattle.op_codec.specs.Spelling.{capped, change, IsChange}
use Rattle.op_codec.proofs.Measures.{take_more, part_within, count_within, all_snoc, all_of, change_some}
use Rattle.op_codec.proofs.measure.Meter.add_changes.Goals as goal

pub loop-change-preserved : goal.loop-change-preserved
loop-change-preserved c =
    let more = take_more change c.args.changes.now c.loop-change.change-index c.change-item.result c.loop-change-test.true c.change-item.is in
    record {
      size = λ n h. c.add_change.ensures.size (n + 4 + length (flat_map change (take c.loop-change.change-index c.args.changes.now))) (c.loop-change.invariant.size n h) ∙ ap capped (omega (arith, more));
      short = λ h.
          let part = part_within change c.args.changes.now c.loop-change.change-index c.change-item.result c.loop-change-test.true c.change-item.is in
          all_snoc IsChange c.args.changes.now c.loop-change.change-index c.change-item.result c.loop-change-test.true c.change-item.is (c.loop-change.invariant.short h) (c.add_change.ensures.short (omega (arith, part, h)));
    }

pub returns-clause-short : goal.returns-clause-short
returns-clause-short c = λ h.
    let count = count_within change change_some c.args.changes.now in
    (omega (arith, count, h), all_of IsChange c.args.changes.now c.loop-change.change-index c.loop-change-test.false (c.loop-change.invariant.short (omega (arith, h))))
