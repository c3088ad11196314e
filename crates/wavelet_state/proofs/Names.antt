-- A name that is listed is that of a document with items.
use Rattle.std.proofs.Common.{◌≡◌, ℕ, zero, suc, Bool, true, false, ◌||◌, List, [], ◌∷◌, refl, sym, ap, subst, ◌∙◌, slice_get, Option, None, Some, Bor, IfSome, IsSome}
use Rattle.std.specs.Cmp.{eq_by_cmp_equiv}
use Rattle.std.specs.Cmp.Lexicographic.{slice_cmp}
use Rattle.std.specs.FinMap as finite
use Rattle.std.specs.List.{list_any, All}
use Rattle.std.specs.Option.{option_copied}
use Rattle.std.specs.Ordering.{nat_cmp, eq_by_cmp}
use Rattle.std.proofs.lemmas.Cmp.{nat_list_cmp_total}
use Rattle.std.proofs.lemmas.List.Elements.{All-nil, All-cons}
use Rattle.doc_items.specs.Maps.{Key, Map}
use Rattle.doc_items.specs.declared.item.Item.{Item}
use Rattle.wavelet_op.specs.States.{kept}
use Rattle.wavelet_state.specs.Parts.{document, IsTrim}

or_true : (b : Bool) → (b || true) ≡ true
or_true true = refl
or_true false = refl

same_value : (k q : Key) → Some k ≡ Some q → k ≡ q
same_value k q e = cc

among : (q : Key) (ks : List Key) (n : ℕ) → slice_get ks n ≡ Some q → list_any (eq_by_cmp (slice_cmp nat_cmp) q) ks ≡ true
among q [] n e = absurd (cc)
among q (k ∷ ks) zero e = ap (λ b. b || list_any (eq_by_cmp (slice_cmp nat_cmp) q) ks) (subst (λ z. eq_by_cmp (slice_cmp nat_cmp) q z ≡ true) (sym (same_value k q e)) ((eq_by_cmp_equiv nat_list_cmp_total).refl q))
among q (k ∷ ks) (suc n) e = ap (λ b. eq_by_cmp (slice_cmp nat_cmp) q k || b) (among q ks n e) ∙ or_true (eq_by_cmp (slice_cmp nat_cmp) q k)

pub named_there : (m : Map (List Item)) (o : Option (Bor Key)) (n : ℕ) → IsTrim m → option_copied o ≡ slice_get (finite.keys m) n → IfSome o (λ k. IsSome (kept (document m k.now)))
named_there m None n t e = tt
named_there m (Some k) n t e = subst (λ (v : Option (List Item)). IsSome v) (t k.now) (finite.contains_key-keys m k.now ∙ among k.now (finite.keys m) n (sym e))

each : (P : Key → Type 0) (ks : List Key) → ((n : ℕ) (q : Key) → slice_get ks n ≡ Some q → P q) → All P ks
each P [] h = All-nil P
each P (k ∷ ks) h = All-cons P k ks (h zero k refl) (each P ks (λ n q e. h (suc n) q e))

-- all that are listed
pub all_there : (m : Map (List Item)) → IsTrim m → All (λ k. IsSome (kept (document m k))) (finite.keys m)
all_there m t = each _ (finite.keys m) (λ n q e. subst (λ (v : Option (List Item)). IsSome v) (t q) (finite.contains_key-keys m q ∙ among q (finite.keys m) n e))
