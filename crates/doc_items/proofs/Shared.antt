-- What a map without a table answers.
use Rattle.std.proofs.Common.{◌≡◌, Bool, true, false, cond, [], length, Option, None, refl, sym, ap, ◌∙◌}
use Rattle.std.specs.Ordering.{nat_cmp, eq_by_cmp}
use Rattle.std.specs.Cmp.Lexicographic.{slice_cmp}
use Rattle.std.proofs.lemmas.Cmp.{nat_list_cmp_total}
use Rattle.std.specs.FinMap as finite
use Rattle.doc_items.specs.Maps.{Key, Map}
use Rattle.doc_items.proofs.Maps.{alike}
use Rattle.doc_items.proofs.Views.{no_entries}

pub get_none : (m : Map Key) (k : Key) → finite.empty ≡ m → None ≡ finite.get m k
get_none m k e = sym (finite.get-empty (slice_cmp nat_cmp) k) ∙ ap (λ n. finite.get n k) e

pub length_none : (m : Map Key) → finite.empty ≡ m → 0 ≡ length (finite.entries m)
length_none m e = sym (ap length no_entries) ∙ ap (λ n. length (finite.entries n)) e

pub entries_none : (m : Map Key) → finite.empty ≡ m → [] ≡ finite.entries m
entries_none m e = sym no_entries ∙ ap finite.entries e

none_still : Option Key
none_still = None

same_none : (b : Bool) → cond b none_still none_still ≡ none_still
same_none true = refl
same_none false = refl

pub remove_none : (m : Map Key) (k : Key) → finite.empty ≡ m → finite.empty ≡ finite.remove m k
unfolding none_still
remove_none m k e =
    sym (alike (finite.remove finite.empty k) finite.empty (λ q. finite.get-remove nat_list_cmp_total finite.empty k q ∙ (λ i. cond (eq_by_cmp (slice_cmp nat_cmp) q k) none_still (finite.get-empty {X = Key} (slice_cmp nat_cmp) q i)) ∙ same_none (eq_by_cmp (slice_cmp nat_cmp) q k) ∙ sym (finite.get-empty (slice_cmp nat_cmp) q)))
    ∙ ap (λ n. finite.remove n k) e
