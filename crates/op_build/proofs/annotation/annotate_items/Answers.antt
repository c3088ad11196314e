use Rattle.std.proofs.Common.{refl, arith, ◌+◌, ◌-◌}
use Rattle.std.specs.Option.{option_copied}
use Rattle.op_build.specs.Edits.{range}
use Rattle.op_build.specs.Plans.{annotate_one}
use Rattle.op_build.proofs.Counts.{input_next, output_next}
use Rattle.op_build.proofs.Ranges.{next_in_range}
use Rattle.op_build.proofs.annotation.annotate_items.Goals as goal

pub loop-left-preserved : goal.loop-left-preserved
loop-left-preserved g c =
    let items = g.D.Items.items c.args.document.now in
    let act = annotate_one c.args.key.now (option_copied c.args.value) in
    let i = c.first_of-item.result.now in
    let input = input_next c.annotate_item.new.out c.loop-left.out (act i) 1 c.in_ok-annotate_item.ensures refl in
    let output = output_next c.annotate_item.new.out c.loop-left.out (act i) 1 c.in_ok-annotate_item.ensures refl in
    record {
      is = next_in_range act c.loop-left.out c.annotate_item.new.out c.args.out.now (range items c.args.from c.args.count) (range items c.loop-left.place c.loop-left.left)
          (range items (c.loop-left.place + 1) (c.loop-left.left - 1)) i c.loop-left.invariant.is c.first_of-item.ensures c.in_ok-annotate_item.ensures;
      input = omega (arith, input, c.loop-left.invariant.input, c.loop-left-test.true);
      output = omega (arith, output, c.loop-left.invariant.output, c.loop-left-test.true);
      place = omega (arith, c.loop-left.invariant.place, c.loop-left-test.true);
    }
