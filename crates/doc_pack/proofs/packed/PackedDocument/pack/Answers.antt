use Rattle.std.proofs.Common.{◌++◌, List, ap, ◌∙◌}
use Rattle.doc_items.specs.declared.item.Item.{Item}
use Rattle.doc_pack.proofs.Runs.{read_on, pieces_pushed}
use Rattle.doc_pack.specs.Packed.{shared_items}
use Rattle.doc_pack.proofs.packed.PackedDocument.pack.Goals as goal

pub loop-items-preserved : goal.loop-items-preserved
loop-items-preserved c =
    let more = pieces_pushed c.loop-items.pieces.items c.push.new.self.items _ c.in_ok-push.ensures.items
    ∙ ap (λ (l : List Item). shared_items c.loop-items.pieces.items ++ l) c.in_ok-found.ensures in
    record {
      inside = c.in-Some.ensures.inside;
      same = read_on c.args.rope.now c.in-Some.items.now (shared_items c.loop-items.pieces.items) (shared_items c.push.new.self.items) c.loop-items.place
          c.loop-items.invariant.same c.in-Some.ensures.front more;
    }
