-- The keys that run, as a builder keeps them: a switch for each key that was ever named.
--     on_at m q         the key's switch is on
--     IsThere m q       the key has a switch
--     Follows u m       exactly the keys of u are on
--     SameSwitches, KeepsThere     nothing is switched; no switch is lost
--     AreThere m cs     each change's key has a switch
--     HasSwitches m c   each key that a component changes has a switch
--     IsSwitched        one switch is turned, where there is one
use Rattle.std.specs.Prelude.{◌≡◌, ℕ, ◌<◌, List, length, slice_index_or, Bool, true, false, Option, None, Some}
use Rattle.std.specs.Str.{encode_utf8_all}
use Rattle.std.specs.FinMap.{get, contains_key, insert}
use Rattle.doc_items.specs.Maps.{Key, Map}
use Rattle.doc_items.specs.Changes.{ChangeSet}
use Rattle.doc_items.specs.declared.change.Change.{Change}
use Rattle.doc_op.specs.declared.component.Component.{Component}
use Rattle.doc_op.specs.declared.component.Component.TheVariants.{AnnotationBoundary}

abbrev pub is_on : Option Bool → Bool
is_on None = false
is_on (Some b) = b

abbrev pub on_at : Map Bool → Key → Bool
on_at m q = is_on (get m q)

abbrev pub IsThere : Map Bool → Key → Type 0
IsThere m q = contains_key m q ≡ true

abbrev pub Follows : ChangeSet → Map Bool → Type 0
Follows u m = (q : Key) → on_at m q ≡ contains_key u q

abbrev pub SameSwitches : Map Bool → Map Bool → Type 0
SameSwitches m n = (q : Key) → on_at n q ≡ on_at m q

abbrev pub KeepsThere : Map Bool → Map Bool → Type 0
KeepsThere m n = (q : Key) → IsThere m q → IsThere n q

-- the key of each of the first n changes has a switch
abbrev pub AreThereBelow : ℕ → Map Bool → List Change → Type 0
AreThereBelow n m cs = (i : ℕ) → i < n → (d : Change) → IsThere m (encode_utf8_all (slice_index_or cs i d).key)

abbrev pub AreThere : Map Bool → List Change → Type 0
AreThere m cs = AreThereBelow (length cs) m cs

abbrev pub HasSwitches : Map Bool → Component → Type 0
HasSwitches m (AnnotationBoundary b) = AreThere m b.change
HasSwitches m c = Unit {0}

-- the key's switch is turned, where there is one
pub record IsSwitched (m : Map Bool) (k : Key) (on : Bool) (n : Map Bool) : Type 0 where
  pub there : IsThere m k → n ≡ insert m k on
  pub absent : contains_key m k ≡ false → n ≡ m
