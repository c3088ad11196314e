-- A shelf's histories, as sessions see them.
--     copy_alike        the copy of a name is its hosted history
--     have_deltas       what is shown has deltas
--     named_deltas      a name that is there has a delta
--     all_hosted        where each has a delta, all names are there
use Rattle.std.proofs.Common.{Less, ◌≡◌, ◌≢◌, ◌==◌, ℕ, zero, suc, ◌-◌, length, true≢false, arith, true, false, cond, List, [], ◌∷◌, slice_get, Option, Some, None, IsSome, IfSome, option_copied, Bor, refl, sym, ap, subst, ◌∙◌}
use Rattle.std.specs.Cmp.Lexicographic.{slice_cmp}
use Rattle.std.specs.Ordering.{nat_cmp}
use Rattle.std.proofs.lemmas.Cmp.{nat_list_cmp_total}
use Rattle.std.specs.Map.{lookup, keys_of}
use Rattle.std.specs.Option.{option_map, option_map_or, option_and_then}
use Rattle.doc_items.specs.Maps.{Key, same_text}
use Rattle.wavelet_op.specs.Deltas.{DeltaOf}
use Rattle.delta_history.specs.Copying.{AscendFrom, AreAscending}
use Rattle.delta_history.specs.Histories.{HistoryOf}
use Rattle.disk_model.specs.declared.disk.Disk.{Ghosts}
use Rattle.wavelet_container.specs.Containers.{history_of}
use Rattle.wavelet_shelf.specs.Entries.{found, shown, shown_by, hosting, AreInOrder, HaveADelta, IsNamed}
use Rattle.wavelet_shelf.specs.Hosting.{Hosted, names_of, deltas_in, copy_of, copy_in, IsCopyOf, HaveDeltas}
use Rattle.wavelet_shelf.specs.Shelves.{shown_of, shown_copy}
use Rattle.wavelet_shelf.specs.declared.filed.Filed.{Filed}
use Rattle.wavelet_shelf.proofs.Growing.{shown_ascend}
use Rattle.wavelet_shelf.proofs.Names.{own, any, decided, below_none}
use Rattle.wavelet_shelf.proofs.Placing.{hist, hist_ascends, deltas_hosting, all_found}
use Rattle.wavelet_shelf.proofs.Shelving.{deltas_of}

one_alike : (n : Key) (h : HistoryOf) (ds : List DeltaOf) → h.deltas ≡ ds → h.name ≡ n → IsCopyOf (shown_of h ds) (copy_of n ds)
one_alike n h [] is name = tt
one_alike n h (d ∷ ds) is name = (name, is)

module _ {K : Type 0} {disk : Ghosts K} where
  found_alike : (n : Key) (o : Option (Filed K disk)) → ((f : Filed K disk) → o ≡ Some f → (history_of f.container).name ≡ n)
      → IsCopyOf (option_and_then (λ c. shown_copy (history_of c)) (option_map (λ (f : Filed K disk). f.container) o)) (copy_of n (option_map_or deltas_of o []))
  found_alike n None named = tt
  found_alike n (Some f) named = one_alike n (history_of f.container) (history_of f.container).deltas refl (named f refl)

  pub found_named : (es : List (Key × Filed K disk)) (n : Key) (f : Filed K disk) → AreInOrder es → lookup (same_text n) es ≡ Some f → (history_of f.container).name ≡ n
  found_named es n f order is = (all_found deltas_of IsNamed es n f order.1 is).0

  pub copy_alike : (es : List (Key × Filed K disk)) (n : Key) → AreInOrder es → IsCopyOf (option_and_then (λ c. shown_copy (history_of c)) (found es n)) (copy_in (hosting es) n)
  copy_alike es n order = subst (λ ds. IsCopyOf (option_and_then (λ c. shown_copy (history_of c)) (found es n)) (copy_of n ds)) (sym (deltas_hosting deltas_of es n order.0))
      (found_alike n (lookup (same_text n) es) (λ f is. found_named es n f order is))

pub have_deltas : (hs : List Hosted) → HaveDeltas (shown hs)
have_deltas [] = tt
have_deltas (h ∷ hs) = go (have_deltas hs) h.deltas refl
  where
    go : HaveDeltas (shown hs) → (ds : List DeltaOf) → h.deltas ≡ ds → HaveDeltas (shown_by h ds (shown hs))
    go rest [] is = rest
    go rest (d ∷ ds) is = (λ none. some_more (sym is ∙ none), rest)
      where
        some_more : {T : Type 0} {d : DeltaOf} {ds : List DeltaOf} → d ∷ ds ≡ [] → T
        some_more e = absurd (cc)

-- ---- the names that are hosted

no_get : {X T : Type 0} {x : X} → None ≡ Some x → T
no_get e = absurd (cc)

same_get : {X : Type 0} {x y : X} → Some x ≡ Some y → x ≡ y
same_get e = cc

pub named_deltas : (hs : List Hosted) (i : ℕ) (n : Key) → AreAscending (names_of hs) → HaveDeltas hs → slice_get (names_of hs) i ≡ Some n → deltas_in hs n ≢ []
named_deltas [] i n a d e = no_get e
named_deltas (h ∷ hs) zero n a d e = λ none. d.0 (sym (ap (λ t. cond t h.deltas (deltas_in hs n)) (subst (λ k. same_text n k ≡ true) (sym (same_get e)) (own n))) ∙ none)
named_deltas (h ∷ hs) (suc i) n a d e =
    let rest = named_deltas hs i n (any h.name (names_of hs) a) d.1 e in
    λ none. rest (sym (ap (λ t. cond t h.deltas (deltas_in hs n)) (decided n h.name (λ same. below_none n (subst (λ k. slice_cmp nat_cmp k n ≡ Less) (sym same) (above h.name (names_of hs) i n a e))))) ∙ none)
  where
    above : (m : Key) (names : List Key) (i : ℕ) (n : Key) → AscendFrom m names → slice_get names i ≡ Some n → slice_cmp nat_cmp m n ≡ Less
    above m [] i n a e = no_get e
    above m (k ∷ names) zero n a e = subst (λ z. slice_cmp nat_cmp m z ≡ Less) (same_get e) a.0
    above m (k ∷ names) (suc i) n a e = nat_list_cmp_total.trans m k n a.0 (above k names i n a.1 e)

module _ {K : Type 0} {disk : Ghosts K} where
  some_copy : (o : Option (Filed K disk)) → option_map_or deltas_of o [] ≢ [] → IsSome (option_and_then (λ c. shown_copy (history_of c)) (option_map (λ (f : Filed K disk). f.container) o))
  some_copy None some = absurd (some refl)
  some_copy (Some f) some = go (history_of f.container).deltas refl
    where
      go : (ds : List DeltaOf) → (history_of f.container).deltas ≡ ds → IsSome (shown_of (history_of f.container) ds)
      go [] is = absurd (some is)
      go (d ∷ ds) is = refl

  -- a hosted name has a copy
  pub host_there : (es : List (Key × Filed K disk)) (i : ℕ) (o : Option Key) → AreInOrder es → o ≡ slice_get (names_of (hosting es)) i → IfSome o (λ n. IsSome (option_and_then (λ c. shown_copy (history_of c)) (found es n)))
  host_there es i None order e = tt
  host_there es i (Some n) order e =
      let hs = hosting es in
      let ascend = shown_ascend (hist deltas_of es) (hist_ascends deltas_of es order.0) in
      let some = named_deltas hs i n ascend (have_deltas (hist deltas_of es)) (sym e) in
      some_copy (lookup (same_text n) es) (λ none. some (deltas_hosting deltas_of es n order.0 ∙ none))

pub lent_name : (P : Key → Type 0) (r : Option (Bor Key)) → IfSome (option_copied r) P → IfSome r (λ n. P n.now)
lent_name P None h = tt
lent_name P (Some n) h = h

module _ {K : Type 0} {disk : Ghosts K} where
  -- where each has a delta, all are
  pub all_hosted : (es : List (Key × Filed K disk)) → HaveADelta es → names_of (hosting es) ≡ keys_of es
  all_hosted [] begun = refl
  all_hosted (e ∷ es) begun = go (all_hosted es begun.1) (deltas_of e.1) refl
    where
      go : names_of (hosting es) ≡ keys_of es → (ds : List DeltaOf) → deltas_of e.1 ≡ ds → names_of (shown_by (record { name = e.0; deltas = deltas_of e.1 }) ds (hosting es)) ≡ e.0 ∷ keys_of es
      go rest [] is = absurd (true≢false (sym (ap (λ (l : List DeltaOf). length l == 0) is) ∙ begun.0))
      go rest (d ∷ ds) is = ap (λ ns. e.0 ∷ ns) rest

  next_of : (es : List (Key × Filed K disk)) (n : Key) (f : Filed K disk) (left : ℕ) (x : Option Key) → (length (deltas_of f) == 0) ≡ false → (left ≡ 0 → ⊥) → slice_get (names_of (hosting ((n, f) ∷ es))) left ≡ x → slice_get (names_of (hosting es)) (left - 1) ≡ x
  next_of es n f zero x some not e = absurd (not refl)
  next_of es n f (suc i) x some not e =
      let less : i ≡ suc i - 1 = omega arith in
      subst (λ j. slice_get (names_of (hosting es)) j ≡ x) less (go (deltas_of f) refl e)
    where
      go : (ds : List DeltaOf) → deltas_of f ≡ ds → slice_get (names_of (shown_by (record { name = n; deltas = deltas_of f }) ds (hosting es))) (suc i) ≡ x → slice_get (names_of (hosting es)) i ≡ x
      go [] is e = absurd (true≢false (sym (ap (λ (l : List DeltaOf). length l == 0) is) ∙ some))
      go (d ∷ ds) is e = e

  -- the next name that is hosted
  pub next_host : (es rest : List (Key × Filed K disk)) (n : Key) (f : Filed K disk) (left : ℕ) {x : Option Key} → rest ≡ (n, f) ∷ es → (length (deltas_of f) == 0) ≡ false → (left ≡ 0 → ⊥) → slice_get (names_of (hosting rest)) left ≡ x → slice_get (names_of (hosting es)) (left - 1) ≡ x
  next_host es rest n f left {x = x} is some not e = next_of es n f left x some not (subst (λ l. slice_get (names_of (hosting l)) left ≡ x) is e)
