-- The first item that is left of a walk.
use Rattle.std.proofs.Common.{◌≡◌, List, [], ◌∷◌, drop, refl, sym, Some, None, slice_get}
use Rattle.doc_items.specs.declared.item.Item.{Item}
use Rattle.doc_op.proofs.Applying.{no_value}

pub first_of : (items : List Item) (i : Item) → Some i ≡ slice_get items 0 → items ≡ i ∷ drop 1 items
first_of [] i e = no_value (sym e)
first_of (x ∷ items) i e = cc

pub none_of : (items : List Item) → None ≡ slice_get items 0 → items ≡ []
none_of [] e = refl
none_of (x ∷ items) e = no_value e
