-- Balance: starts less ends never fall below 0, and are 0 at the end.
--     level c n         the depth after a content, from the depth n before it
--     Closes c n        the content doesn't end an element where none is open
--     BalancedFrom n    balanced, where n elements are open already
--     Balanced          balanced
use Rattle.std.specs.Prelude.{◌≡◌, ℕ, suc, ◌-◌, ◌<◌, List, [], ◌∷◌}
use Rattle.doc_items.specs.declared.item.Content.{Content}
use Rattle.doc_items.specs.declared.item.Content.TheVariants.{Character, Start, End}
use Rattle.doc_items.specs.declared.item.Item.{Item}

abbrev pub level : Content → ℕ → ℕ
level (Character c) n = n
level (Start kind m) n = suc n
level End n = n - 1

abbrev pub Closes : Content → ℕ → Type 0
Closes (Character c) n = Unit {0}
Closes (Start kind m) n = Unit {0}
Closes End n = 0 < n

abbrev pub BalancedFrom : ℕ → List Item → Type 0
BalancedFrom n [] = n ≡ 0
BalancedFrom n (i ∷ items) = Closes i.content n × BalancedFrom (level i.content n) items

abbrev pub Balanced : List Item → Type 0
Balanced items = BalancedFrom 0 items
