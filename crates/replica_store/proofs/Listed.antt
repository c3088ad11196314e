-- What is sought among copies, one after another.
--     get_after, get_front     an item of one list after another
--     sought_past, found_here   what is sought past some items, and among them
--     relays_skip, relays_past, relays_found        submissions that wait: past a copy of another host, past one of this host, and at one
--     reaches_skip, reaches_past, reaches_found     how far copies reach
--     none_past                 where a list has no item
use Rattle.std.proofs.Common.{◌≡◌, ◌≤◌, ◌+◌, ◌-◌, ℕ, zero, suc, Bool, true, false, cond, List, [], ◌∷◌, ◌++◌, length, slice_get, sym, ap, subst, ◌∙◌, None, Some, option_map, arith, length-append}
use Rattle.std.proofs.lemmas.List.{length-map}
use Rattle.std.proofs.lemmas.Option.{slice_get-map}
use Rattle.doc_items.specs.Maps.{Key, same_text}
use Rattle.wave_base.specs.Grammar.{host_of}
use Rattle.wavelet_op.specs.declared.delta.Submission.{Submission}
use Rattle.peer_turns.specs.declared.item.CopyAt.{CopyAt}
use Rattle.peer_turns.specs.declared.item.Relay.{Relay}
use Rattle.replica_store.specs.declared.sought.Sought.{Sought}
use Rattle.replica_store.specs.declared.sought.Sought.TheVariants.{Found, Past}
use Rattle.replica_store.specs.Listings.{IsSought, relays_at, reach_at, relays_among, reaches_among}
use Rattle.replica_store.specs.Worlds.{WorldOf}

pub get_after : {A : Type 0} (xs ys : List A) (p q : ℕ) → q ≡ length xs + p → slice_get (xs ++ ys) q ≡ slice_get ys p
get_after [] ys p q e = ap (slice_get ys) (omega (arith, e))
get_after (x ∷ xs) ys p zero e = absurd (omega (arith, e))
get_after (x ∷ xs) ys p (suc q) e = get_after xs ys p q (omega (arith, e))

pub get_front : {A : Type 0} (xs ys : List A) (p : ℕ) (x : A) → slice_get xs p ≡ Some x → slice_get (xs ++ ys) p ≡ Some x
get_front [] ys p x e = absurd (cc)
get_front (y ∷ xs) ys zero x e = e
get_front (y ∷ xs) ys (suc p) x e = get_front xs ys p x e

-- what is sought past some items
pub sought_past : {A : Type 0} (xs ys : List A) (p left : ℕ) (s : Sought A) → p ≡ length xs + left → IsSought ys left s → IsSought (xs ++ ys) p s
sought_past xs ys p left (Found x) e is = get_after xs ys left p e ∙ is
sought_past xs ys p left (Past n) e is = let size = length-append xs ys in omega (arith, e, is, size)

pub found_here : {A : Type 0} (xs ys : List A) (p : ℕ) (x : A) → slice_get xs p ≡ Some x → IsSought (xs ++ ys) p (Found x)
found_here xs ys p x e = get_front xs ys p x e

-- ---- copies, one after another

module _ (d : Key) (e : Key × WorldOf) (es : List (Key × WorldOf)) (p : ℕ) (s : Sought Relay) where
  abbrev RelaysWhere : Bool → Sought Relay → Type 0
  RelaysWhere b s = IsSought (cond b (relays_at e.0 e.1) [] ++ relays_among d es) p s

  pub relays_skip : same_text (host_of e.0) d ≡ false → IsSought (relays_among d es) p s → IsSought (relays_among d (e ∷ es)) p s
  relays_skip other is = subst (λ b. RelaysWhere b s) (sym other) is

  pub relays_past : same_text (host_of e.0) d ≡ true → (left : ℕ) → p ≡ length e.1.replica.waiting + left → IsSought (relays_among d es) left s → IsSought (relays_among d (e ∷ es)) p s
  relays_past own left at is =
      let size : length (relays_at e.0 e.1) ≡ length e.1.replica.waiting = length-map e.1.replica.waiting _ in
      subst (λ b. RelaysWhere b s) (sym own) (sought_past (relays_at e.0 e.1) (relays_among d es) p left s (omega (arith, at, size)) is)

  pub relays_found : same_text (host_of e.0) d ≡ true → (x : Submission) → slice_get e.1.replica.waiting p ≡ Some x → s ≡ Found (record { name = e.0; submission = x }) → IsSought (relays_among d (e ∷ es)) p s
  relays_found own x at is =
      subst (λ z. IsSought (relays_among d (e ∷ es)) p z) (sym is) (subst (λ b. RelaysWhere b (Found (record { name = e.0; submission = x }))) (sym own)
      (found_here (relays_at e.0 e.1) (relays_among d es) p (record { name = e.0; submission = x }) (slice_get-map _ e.1.replica.waiting p ∙ ap (option_map (λ y. record { name = e.0; submission = y })) at)))

module _ (d : Key) (e : Key × WorldOf) (es : List (Key × WorldOf)) (p : ℕ) (s : Sought CopyAt) where
  abbrev ReachesWhere : Bool → Sought CopyAt → Type 0
  ReachesWhere b s = IsSought (cond b (reach_at e.0 e.1 ∷ []) [] ++ reaches_among d es) p s

  pub reaches_skip : same_text (host_of e.0) d ≡ false → IsSought (reaches_among d es) p s → IsSought (reaches_among d (e ∷ es)) p s
  reaches_skip other is = subst (λ b. ReachesWhere b s) (sym other) is

  pub reaches_past : same_text (host_of e.0) d ≡ true → (left : ℕ) → p ≡ 1 + left → IsSought (reaches_among d es) left s → IsSought (reaches_among d (e ∷ es)) p s
  reaches_past own left at is = subst (λ b. ReachesWhere b s) (sym own) (sought_past (reach_at e.0 e.1 ∷ []) (reaches_among d es) p left s at is)

  pub reaches_found : same_text (host_of e.0) d ≡ true → p ≡ 0 → s ≡ Found (reach_at e.0 e.1) → IsSought (reaches_among d (e ∷ es)) p s
  reaches_found own first is =
      subst (λ z. IsSought (reaches_among d (e ∷ es)) p z) (sym is) (subst (λ b. ReachesWhere b (Found (reach_at e.0 e.1))) (sym own)
      (ap (slice_get (reach_at e.0 e.1 ∷ reaches_among d es)) first))

pub none_past : {A : Type 0} (xs : List A) (p : ℕ) → None ≡ slice_get xs p → length xs ≤ p
none_past [] p e = omega arith
none_past (x ∷ xs) zero e = absurd (cc)
none_past (x ∷ xs) (suc p) e = let rest = none_past xs p e in omega (arith, rest)
