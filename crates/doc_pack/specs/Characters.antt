-- Characters in a row that have the same annotations.
--     character_item c m     the item of a character with these annotations
--     character_items m text     the items of characters with these annotations
--     AreCharacters items m text     the items begin with these characters, each of which has the annotations m
use Rattle.std.specs.Prelude.{◌≡◌, ◌≤◌, ℕ, List, length, map, take}
use Rattle.doc_items.specs.Maps.{Key, Map}
use Rattle.doc_items.specs.declared.item.Content.TheVariants.{Character}
use Rattle.doc_items.specs.declared.item.Item.{Item}

abbrev pub character_item : ℕ → Map Key → Item
character_item c m = record { content = Character c; notes = m }

abbrev pub character_items : Map Key → List ℕ → List Item
character_items m text = map (λ c. character_item c m) text

pub record AreCharacters (items : List Item) (m : Map Key) (text : List ℕ) : Type 0 where
  pub are : take (length text) items ≡ character_items m text
  pub fits : length text ≤ length items
