use Rattle.std.proofs.Common.{length, ap}
use Rattle.doc_pack.proofs.Rows.{no_character}
use Rattle.op_invert.proofs.putting.characters.Goals as goal

pub loop-item-init : goal.loop-item-init
loop-item-init c = record {
  are = no_character c.args.items.now c.args.notes.now _ c.new-text.ensures.items;
  count = ap length c.new-text.ensures.items;
}
