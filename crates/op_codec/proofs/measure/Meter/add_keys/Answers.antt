use Rattle.std.proofs.Common.{◌+◌, ◌∙◌, ap, arith, length, take}
use Rattle.std.specs.List.{flat_map}
use Rattle.op_codec.specs.Spelling.{capped, text, IsText}
use Rattle.op_codec.proofs.Measures.{take_more, part_within, count_within, all_snoc, all_of, text_some}
use Rattle.op_codec.proofs.measure.Meter.add_keys.Goals as goal

pub loop-key-preserved : goal.loop-key-preserved
loop-key-preserved c =
    let more = take_more text c.args.keys.now c.loop-key.key-index c.key-item.result c.loop-key-test.true c.key-item.is in
    record {
      size = λ n h. c.add_text.ensures.size (n + 4 + length (flat_map text (take c.loop-key.key-index c.args.keys.now))) (c.loop-key.invariant.size n h) ∙ ap capped (omega (arith, more));
      short = λ h.
          let part = part_within text c.args.keys.now c.loop-key.key-index c.key-item.result c.loop-key-test.true c.key-item.is in
          all_snoc IsText c.args.keys.now c.loop-key.key-index c.key-item.result c.loop-key-test.true c.key-item.is (c.loop-key.invariant.short h) (c.add_text.ensures.short (omega (arith, part, h)));
    }

pub returns-clause-short : goal.returns-clause-short
returns-clause-short c = λ h.
    let count = count_within text text_some c.args.keys.now in
    (omega (arith, count, h), all_of IsText c.args.keys.now c.loop-key.key-index c.loop-key-test.false (c.loop-key.invariant.short (omega (arith, h))))
