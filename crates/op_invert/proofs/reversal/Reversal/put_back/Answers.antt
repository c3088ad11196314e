use Rattle.std.proofs.Common.{◌+◌, ◌≤◌, length, arith}
use Rattle.op_invert.specs.Walks.{items_of}
use Rattle.op_invert.proofs.Reading.{IsNext, run_next}
use Rattle.op_invert.proofs.Steps.{put_on, put_all, put_length}
use Rattle.op_invert.proofs.reversal.Reversal.put_back.Goals as goal

pub loop-left-preserved : goal.loop-left-preserved
loop-left-preserved c =
    let items = items_of c.args.items in
    let next = c.at_most-next.result.now in
    let old = c.loop-left.self in
    let new = c.put_items.new.out in
    let within : old.place + c.loop-left.left ≤ length items = omega (arith, c.loop-left.invariant.place, c.requires.place) in
    let n : IsNext items next old.place c.loop-left.left = run_next items c.run.result.now next old.place c.loop-left.left c.run.ensures c.at_most-next.ensures within c.loop-left-test.true in
    record {
      out = put_on items next old.place c.loop-left.left old.out new _ _ n c.in_ok-put_items.ensures (omega arith) c.loop-left.invariant.out;
      place = omega (arith, c.loop-left.invariant.place, n.fits);
      room = omega (arith, c.loop-left.invariant.room, put_length old.out new next c.in_ok-put_items.ensures, n.fits);
    }

pub returns-clause-out : goal.returns-clause-out
returns-clause-out c = put_all (items_of c.args.items) c.loop-left.self.place c.loop-left.left c.loop-left.self.out _ c.loop-left.invariant.out c.loop-left-test.false
