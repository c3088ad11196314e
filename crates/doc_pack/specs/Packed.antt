-- What a packed document means.
--     run_items r      the items of a run
--     all_items rs     the items of all runs, in order
--     shared_items ps  the items of pieces that documents share, in order
use Rattle.std.specs.Prelude.{List, [], ◌∷◌, ◌++◌, string_bytes}
use Rattle.std.specs.Arc.{arc_value}
use Rattle.std.specs.Global.{Global}
use Rattle.std.specs.declared.sync.Arc.{Arc}
use Rattle.std.specs.Str.{chars}
use Rattle.doc_items.specs.declared.item.Item.{Item}
use Rattle.doc_pack.specs.Characters.{character_items}
use Rattle.doc_pack.specs.declared.run.Run.{Run}
use Rattle.doc_pack.specs.declared.run.Run.TheVariants.{Characters, One}

abbrev pub run_items : Run → List Item
run_items (Characters text notes) = character_items notes (chars (string_bytes text))
run_items (One item) = item ∷ []

abbrev pub all_items : List Run → List Item
all_items [] = []
all_items (r ∷ rs) = run_items r ++ all_items rs

abbrev pub shared_items : List (Arc (List Item) Global) → List Item
shared_items [] = []
shared_items (p ∷ ps) = arc_value p ++ shared_items ps
