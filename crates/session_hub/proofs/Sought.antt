-- What is wanted of shards, one after the other.
--     across_get, across_map    an item among the first lists; items of another kind
--     left_next, found_in, none_in     a list that was gone past; one that has the item; the end of all
--     begins_turned, counts_turned, marks_turned     a turn at one shard
--     relay_is, no_relay, reach_is, no_reach      what is wanted is of its kind
use Rattle.std.proofs.Common.{◌≡◌, ◌≢◌, ◌⊎◌, inl, inr, ◌≤◌, ◌<◌, ◌+◌, ℕ, zero, suc, List, [], ◌++◌, map, length, slice_get, refl, sym, ap, subst, ◌∙◌, Option, None, Some, option_map, option_and_then, arith, append-nil, append_assoc, length-append}
use Rattle.std.proofs.lemmas.List.{map-append}
use Rattle.std.proofs.lemmas.Option.{slice_get_past, slice_get-map}
use mathlib.Core.List.{IsPrefix}
use mathlib.Core.Logic.{dite}
use native.Mathlib.Decide.{ℕ_discrete}
use Rattle.doc_items.specs.Maps.{Key}
use Rattle.peer_turns.specs.declared.item.CopyAt.{CopyAt}
use Rattle.peer_turns.specs.declared.item.Relay.{Relay}
use Rattle.turn_cells.specs.declared.cells.Passes.{Passes}
use Rattle.turn_cells.specs.Cells.{BeginsAt, seen_of, loads_of, added_of, loads_at, added_at}
use Rattle.replica_store.proofs.Listed.{get_after, get_front}
use Rattle.replica_store.specs.Listings.{relays_of, reaches_of}
use Rattle.shard_marks.specs.declared.mark.Mark.{Mark}
use Rattle.shard_marks.specs.Marks.{copied}
use Rattle.shard_marks.specs.Passes.{marks_of, HaveTurned}
use Rattle.session_hub.specs.declared.seeking.Item.{Item}
use Rattle.session_hub.specs.declared.seeking.Item.TheVariants as item
use Rattle.session_hub.specs.declared.seeking.Wanted.TheVariants.{Relays, Reaches}
use Rattle.session_hub.specs.Items.{relay_in, reach_in, across, items_across, relays_across, reaches_across}

less_or : (n m : ℕ) → n ≤ suc m → (n ≤ m) ⊎ (n ≡ suc m)
less_or n m l = grind (arith, l)

module _ {A : Type 0} where
  across_same : (n : ℕ) (f g : ℕ → List A) → ((k : ℕ) → k < n → g k ≡ f k) → across n g ≡ across n f
  across_same zero f g same = refl
  across_same (suc n) f g same = λ i. across_same n f g (λ k l. same k (omega (arith, l))) i ++ same n (omega arith) i

  across_get : (n m : ℕ) (f : ℕ → List A) (p : ℕ) (x : A) → n ≤ m → slice_get (across n f) p ≡ Some x → slice_get (across m f) p ≡ Some x
  across_get n zero f p x l e = let none : n ≡ 0 = omega (arith, l) in subst (λ z. slice_get (across z f) p ≡ Some x) none e
  across_get n (suc m) f p x l e = go (λ below. across_get n m f p x below e) (less_or n m l)
    where
      go : (n ≤ m → slice_get (across m f) p ≡ Some x) → (n ≤ m) ⊎ (n ≡ suc m) → slice_get (across (suc m) f) p ≡ Some x
      go rest (inl below) = get_front (across m f) (f m) p x (rest below)
      go rest (inr same) = subst (λ z. slice_get (across z f) p ≡ Some x) same e

  module _ (n place left : ℕ) (f g : ℕ → List A) (at : place ≡ length (across n f) + left) (same : (k : ℕ) → k < n → g k ≡ f k) where
    here : place ≡ length (across n g) + left
    here = at ∙ ap (λ (xs : List A). length xs + left) (sym (across_same n f g same))

    pub left_next : (more : ℕ) → left ≡ length (g n) + more → place ≡ length (across (suc n) g) + more
    left_next more e = let now = here in let size = length-append (across n g) (g n) in omega (arith, now, size, e)

    pub found_in : (x : A) → n < 16 → slice_get (g n) left ≡ Some x → slice_get (across 16 g) place ≡ Some x
    found_in x l e = across_get (suc n) 16 g place x (omega (arith, l)) (get_after (across n g) (g n) left place here ∙ e)

  pub none_in : (xs : List A) (place left : ℕ) → place ≡ length xs + left → slice_get xs place ≡ None
  none_in xs place left at = slice_get_past xs place (omega (arith, at))

across_map : {A B : Type 0} (g : A → B) (n : ℕ) (f : ℕ → List A) → across n (λ k. map g (f k)) ≡ map g (across n f)
across_map g zero f = refl
across_map g (suc n) f = ap (λ xs. xs ++ map g (f n)) (across_map g n f) ∙ sym (map-append g (across n f) (f n))

-- ---- a turn at one shard

prefix_same : {X : Type 0} (xs ys : List X) → ys ≡ xs → IsPrefix xs ys
prefix_same xs ys e = ([], append-nil xs ∙ sym e)

pub begins_more : {X : Type 0} (xs ys zs : List X) → IsPrefix xs ys → IsPrefix ys zs → IsPrefix xs zs
begins_more xs ys zs p q = (p.0 ++ q.0, sym (append_assoc xs p.0 q.0) ∙ (ap (λ ws. ws ++ q.0) p.1 ∙ q.1))

pub begins_self : {X : Type 0} (xs : List X) → IsPrefix xs xs
begins_self xs = prefix_same xs xs refl

module _ {T : Type 0} (ps qs : Passes T Mark) (k : ℕ) (t : HaveTurned k ps qs) where
  pub marks_turned : (j : ℕ) → j ≢ k → marks_of qs j ≡ marks_of ps j
  marks_turned j ne = ap (λ o. seen_of o) (t.others j ne)

  pub begins_turned : (j : ℕ) → BeginsAt ps qs j
  begins_turned j = dite (ℕ_discrete j k)
      (λ e. subst (λ (z : ℕ). BeginsAt ps qs z) (sym e) t.later)
      (λ ne. prefix_same (marks_of ps j) (marks_of qs j) (marks_turned j ne))

  pub counts_turned : added_at qs k ≡ added_at ps k → (j : ℕ) → (loads_at qs j ≡ loads_at ps j) × (added_at qs j ≡ added_at ps j)
  counts_turned unadded j = dite (ℕ_discrete j k)
      (λ e. subst (λ (z : ℕ). (loads_at qs z ≡ loads_at ps z) × (added_at qs z ≡ added_at ps z)) (sym e) (t.looked, unadded))
      (λ ne. (ap (λ o. loads_of o) (t.others j ne), ap (λ o. added_of o) (t.others j ne)))

-- ---- what is wanted is of its kind

module _ (d e : Key) (marks : ℕ → List Mark) (p : ℕ) where
  relays_are : slice_get (items_across Relays d e marks) p ≡ option_map (λ r. item.Relay r) (slice_get (relays_across d e marks) p)
  relays_are = ap (λ xs. slice_get xs p) (across_map (λ r. item.Relay r) 16 (λ k. relays_of e (copied d k (marks k)))) ∙ slice_get-map (λ r. item.Relay r) (relays_across d e marks) p

  reaches_are : slice_get (items_across Reaches d e marks) p ≡ option_map (λ c. item.Reach c) (slice_get (reaches_across d e marks) p)
  reaches_are = ap (λ xs. slice_get xs p) (across_map (λ c. item.Reach c) 16 (λ k. reaches_of e (copied d k (marks k)))) ∙ slice_get-map (λ c. item.Reach c) (reaches_across d e marks) p

  relay_as : (o : Option Relay) → option_and_then relay_in (option_map (λ r. item.Relay r) o) ≡ o
  relay_as None = refl
  relay_as (Some r) = refl

  reach_as : (o : Option CopyAt) → option_and_then reach_in (option_map (λ c. item.Reach c) o) ≡ o
  reach_as None = refl
  reach_as (Some c) = refl

  pub relay_is : (i : Item) → Some i ≡ slice_get (items_across Relays d e marks) p → relay_in i ≡ slice_get (relays_across d e marks) p
  relay_is i is = ap (option_and_then relay_in) (is ∙ relays_are) ∙ relay_as (slice_get (relays_across d e marks) p)

  pub no_relay : None ≡ slice_get (items_across Relays d e marks) p → None ≡ slice_get (relays_across d e marks) p
  no_relay is = ap (option_and_then relay_in) (is ∙ relays_are) ∙ relay_as (slice_get (relays_across d e marks) p)

  pub reach_is : (i : Item) → Some i ≡ slice_get (items_across Reaches d e marks) p → reach_in i ≡ slice_get (reaches_across d e marks) p
  reach_is i is = ap (option_and_then reach_in) (is ∙ reaches_are) ∙ reach_as (slice_get (reaches_across d e marks) p)

  pub no_reach : None ≡ slice_get (items_across Reaches d e marks) p → None ≡ slice_get (reaches_across d e marks) p
  no_reach is = ap (option_and_then reach_in) (is ∙ reaches_are) ∙ reach_as (slice_get (reaches_across d e marks) p)
