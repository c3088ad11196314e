use Rattle.snapshot_json.proofs.Insertions.{has_room}
use Rattle.snapshot_json.proofs.writing.insert_all.Goals as goal

pub insert_item-requires : goal.insert_item-requires
insert_item-requires c = has_room c.loop-reader.out c.loop-reader.reader c.args.rope.now c.len-whole.result c.in-Some.item.now c.loop-reader.invariant c.in-Some.ensures c.len-whole.ensures.value c.len-whole.ensures.bound
