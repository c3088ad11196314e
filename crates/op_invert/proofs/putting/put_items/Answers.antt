use Rattle.op_invert.proofs.Inserted.{rest_put, rest_room}
use Rattle.op_invert.proofs.putting.put_items.Goals as goal

pub loop-rest-preserved : goal.loop-rest-preserved
loop-rest-preserved c = record {
  out = rest_put c.loop-rest.rest.now c.split_at.result.1.now c.in_ok-count.count c.loop-rest.out c.put_front.new.out _ c.loop-rest.invariant.out c.in_ok-count.ensures.out c.split_at.ensures.back;
  room = rest_room c.loop-rest.rest.now c.split_at.result.1.now c.in_ok-count.count c.loop-rest.out c.put_front.new.out c.loop-rest.invariant.room c.in_ok-count.ensures.out c.in_ok-count.ensures.fits c.split_at.ensures.back;
}
