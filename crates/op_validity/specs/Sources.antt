-- The items of a document that are left of a walk over it.
--     ahead s            the items that are left
--     IsTail left items  they are the last of these items
use Rattle.std.specs.Prelude.{◌≡◌, ◌-◌, List, length, drop}
use Rattle.doc_items.specs.declared.item.Item.{Item}
use Rattle.op_validity.specs.declared.source.Source.{Source}
use Rattle.op_validity.specs.declared.source.Source.TheVariants.{Plain, Pieces}

abbrev pub ahead : Source → List Item
ahead (Plain rest) = rest.now
ahead (Pieces reader) = reader

pub record IsTail (left items : List Item) : Type 0 where
  pub is : left ≡ drop (length items - length left) items
