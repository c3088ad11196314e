-- Keys at which change sets may differ.
--     boundary_keys b      the keys that end or change at a boundary
--     is_among ks q        the key is one of these
--     AgreeBut ks v w      the two sets have the same at each key but these
--     PassBut ks t u w     the two pass the test at each key but these
--     Adds ks ls v w       ls are the keys ks and more, but at which w has what v had
--     Touches t v u w      u are the keys t and more, but at which w has what v had; where t may be any key, so may u
use Rattle.std.specs.Prelude.{◌≡◌, ℕ, Bool, true, false, List, ◌++◌, map, Option, None, Some}
use Rattle.std.specs.List.{list_any}
use Rattle.std.specs.Str.{encode_utf8_all}
use Rattle.std.specs.Ordering.{nat_cmp, eq_by_cmp}
use Rattle.std.specs.Cmp.Lexicographic.{slice_cmp}
use Rattle.std.specs.FinMap.{get}
use Rattle.doc_items.specs.Maps.{Key}
use Rattle.doc_items.specs.Changes.{ChangeSet}
use Rattle.doc_items.specs.declared.change.Boundary.{Boundary}
use Rattle.change_view.specs.declared.rule.Test.{Test}
use Rattle.change_view.specs.Rules.{passing}

abbrev pub boundary_keys : Boundary → List (List ℕ)
boundary_keys b = b.end ++ map (λ c. c.key) b.change

abbrev pub is_among : List (List ℕ) → Key → Bool
is_among ks q = list_any (λ k. eq_by_cmp (slice_cmp nat_cmp) q (encode_utf8_all k)) ks

abbrev pub AgreeBut : List (List ℕ) → ChangeSet → ChangeSet → Type 0
AgreeBut ks v w = (q : Key) → is_among ks q ≡ false → get v q ≡ get w q

abbrev pub PassBut : List (List ℕ) → Test → ChangeSet → ChangeSet → Type 0
PassBut ks t u w = (q : Key) → is_among ks q ≡ false → passing t (get u q) (get w q) ≡ true

pub record Adds (ks ls : List (List ℕ)) (v w : ChangeSet) : Type 0 where
  pub more : List (List ℕ)
  pub is : ls ≡ ks ++ more
  pub kept : AgreeBut more v w

abbrev pub Touches : Option (List (List ℕ)) → ChangeSet → Option (List (List ℕ)) → ChangeSet → Type 0
Touches None v t w = t ≡ None
Touches (Some ks) v None w = ⊥
Touches (Some ks) v (Some ls) w = Adds ks ls v w
