use Rattle.std.proofs.Common.{refl, arith, ◌+◌, ◌-◌}
use Rattle.op_build.specs.Edits.{range}
use Rattle.op_build.specs.Plans.{erase_one}
use Rattle.op_build.proofs.Counts.{input_next}
use Rattle.op_build.proofs.Ranges.{next_in_range}
use Rattle.op_build.proofs.erasure.erase_items.Goals as goal

pub loop-left-preserved : goal.loop-left-preserved
loop-left-preserved g c =
    let items = g.D.Items.items c.args.document.now in
    let i = c.first_of-item.result.now in
    let more = input_next c.erase_content.new.out c.loop-left.out (erase_one i) 1 c.in_ok-erase_content.ensures refl in
    record {
      is = next_in_range erase_one c.loop-left.out c.erase_content.new.out c.args.out.now (range items c.args.from c.args.count) (range items c.loop-left.place c.loop-left.left)
          (range items (c.loop-left.place + 1) (c.loop-left.left - 1)) i c.loop-left.invariant.is c.first_of-item.ensures c.in_ok-erase_content.ensures;
      room = omega (arith, more, c.loop-left.invariant.room, c.loop-left-test.true);
      place = omega (arith, c.loop-left.invariant.place, c.loop-left-test.true);
    }
