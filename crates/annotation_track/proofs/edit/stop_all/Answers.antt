use Rattle.std.proofs.Common.{sym, ap, ◌∙◌, take, arith}
use Rattle.std.specs.FinMap.{remove}
use Rattle.std.specs.Str.{encode_utf8_all}
use Rattle.doc_items.specs.Changes.{change_set}
use Rattle.doc_items.proofs.ChangeSets.{without_next}
use Rattle.annotation_track.proofs.edit.stop_all.Goals as goal

pub loop-key-preserved : goal.loop-key-preserved
loop-key-preserved c = record {
  ascending = c.stop.ensures.ascending;
  stopped = c.stop.ensures.stopped ∙ ap (λ u. remove u (encode_utf8_all c.key-item.result)) c.loop-key.invariant.stopped
      ∙ sym (without_next (change_set c.args.list.now.items) c.args.ends.now c.loop-key.key-index c.key-item.result c.loop-key-test.true c.key-item.is);
  room = omega (arith, c.stop.ensures.room, c.loop-key.invariant.room);
  len = omega (arith, c.stop.ensures.len, c.loop-key.invariant.len);
}
