-- Elements that reach over the ends of a stretch of items.
--     no_elements     nothing reaches over
--     one c           what a content is by itself
--     meet a b        two stretches as one: the starts of the first and the ends of the second are partners
--     shape_of items  the ends that close nothing among the items, and the starts that nothing among them closes
--     same_shape      a test of ≡
use Rattle.std.specs.Prelude.{◌+◌, ◌-◌, ◌==◌, ◌&&◌, Bool, List, [], ◌∷◌}
use Rattle.doc_items.specs.declared.item.Content.{Content}
use Rattle.doc_items.specs.declared.item.Content.TheVariants.{Character, Start, End}
use Rattle.doc_items.specs.declared.item.Item.{Item}
use Rattle.doc_rope.specs.declared.shape.Shape.{Shape}

abbrev pub no_elements : Shape
no_elements = record { ends = 0; starts = 0 }

abbrev pub one : Content → Shape
one (Character c) = record { ends = 0; starts = 0 }
one (Start kind m) = record { ends = 0; starts = 1 }
one End = record { ends = 1; starts = 0 }

abbrev pub meet : Shape → Shape → Shape
meet a b = record { ends = a.ends + (b.ends - a.starts); starts = (a.starts - b.ends) + b.starts }

abbrev pub shape_of : List Item → Shape
shape_of [] = record { ends = 0; starts = 0 }
shape_of (i ∷ items) = meet (one i.content) (shape_of items)

abbrev pub same_shape : Shape → Shape → Bool
same_shape a b = (a.ends == b.ends) && (a.starts == b.starts)
