-- Changes that some runs show otherwise than they run.
--     AreOthers shown u t      at each key but those of t the changes u are shown as they run
--     AddsKeysOf t ks ls       ls are the keys ks, and more, among which are those of t; where ks may be any, so may ls
use Rattle.std.specs.Prelude.{◌≡◌, ℕ, false, List, ◌++◌, Option, None, Some}
use Rattle.std.specs.FinMap.{get}
use Rattle.doc_items.specs.Maps.{Key}
use Rattle.doc_items.specs.Changes.{ChangeSet}
use Rattle.change_table.specs.Keys.{is_among}

abbrev pub AreOthers : (ChangeSet → ChangeSet) → ChangeSet → ChangeSet → Type 0
AreOthers shown u t = (q : Key) → get t q ≡ None → get u q ≡ get (shown u) q

pub record AddsAll (t : ChangeSet) (ks ls : List (List ℕ)) : Type 0 where
  pub more : List (List ℕ)
  pub is : ls ≡ ks ++ more
  pub all : (q : Key) → is_among more q ≡ false → get t q ≡ None

abbrev pub AddsKeysOf : ChangeSet → Option (List (List ℕ)) → Option (List (List ℕ)) → Type 0
AddsKeysOf t None ls = ls ≡ None
AddsKeysOf t (Some ks) None = ⊥
AddsKeysOf t (Some ks) (Some ls) = AddsAll t ks ls
