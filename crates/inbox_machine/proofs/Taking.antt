-- The histories that an index takes.
--     next_gathered, all_gathered     the names that are hosted, gathered one by one
--     takeable               each delta of a legal history may be taken after those before it
--     take_on                one delta more
--     taken_now              what the index has of a name after one delta more
--     IsReady                of these names, which ascend, nothing was taken
--     ready_on, ready_first  so of the names after the first, once that was taken; and at first
use Rattle.std.proofs.Common.{◌≡◌, ◌≢◌, ℕ, zero, suc, ◌+◌, Bool, true, false, cond, List, [], ◌∷◌, ◌++◌, length, map, take, drop, Option, Some, None, refl, sym, ap, subst, ◌∙◌, arith, slice_get, length-append, append_assoc, unwrap_or, true≢false}
use Rattle.std.proofs.lemmas.Cmp.{nat_list_cmp_total}
use Rattle.std.proofs.lemmas.List.{map-append, take-append-drop}
use Rattle.std.proofs.Math.Seq.{take-add}
use Rattle.std.specs.Cmp.Lexicographic.{slice_cmp}
use Rattle.std.specs.FinMap as finite
use Rattle.std.specs.FinMap.{get, insert, get-insert, get-empty}
use Rattle.std.specs.Option.{option_map_or}
use Rattle.std.specs.Ordering.{nat_cmp, is_lt, is_eq, ordering_reverse}
use Rattle.std.specs.declared.cmp.Ordering.{Ordering}
use Rattle.std.specs.declared.cmp.Ordering.TheVariants.{Less, Equal, Greater}
use Rattle.doc_items.specs.Maps.{Key}
use Rattle.doc_items.proofs.Maps.{tie, tied}
use Rattle.wavelet_op.specs.Deltas.{DeltaOf}
use Rattle.delta_history.specs.Copying.{AscendFrom, AreAscending}
use Rattle.delta_history.specs.Legal.{IsLegal, IsNext}
use Rattle.delta_history.specs.Points.{Point, start, end_of}
use Rattle.delta_history.proofs.Chains.{legal_front, legal_after}
use Rattle.wave_index.specs.Taken.{TakenOf, Histories, deltas_in, with_delta}
use Rattle.inbox_machine.specs.Indexing.{with_deltas}

-- ---- names

module _ {K : Type 0} where
  some_same : (x y : K) → Some x ≡ Some y → x ≡ y
  some_same x y e = cc

  take_next : (ks : List K) (n : ℕ) (k : K) → Some k ≡ slice_get ks n → take (suc n) ks ≡ take n ks ++ k ∷ []
  take_next [] n k e = absurd cc
  take_next (x ∷ ks) zero k e = ap (λ z. z ∷ []) (sym (some_same k x e))
  take_next (x ∷ ks) (suc n) k e = ap (λ l. x ∷ l) (take_next ks n k e)

  take_whole : (ks : List K) (n : ℕ) → None ≡ slice_get ks n → take n ks ≡ ks
  take_whole [] zero e = refl
  take_whole [] (suc n) e = refl
  take_whole (x ∷ ks) zero e = absurd cc
  take_whole (x ∷ ks) (suc n) e = ap (λ l. x ∷ l) (take_whole ks n e)

module _ {B K : Type 0} (g : B → K) where
  one_more : (xs : List B) (x : B) → length (xs ++ x ∷ []) ≡ suc (length xs)
  one_more xs x = omega (arith, length-append xs (x ∷ []))

  pub next_gathered : (ks : List K) (xs all : List B) (n : ℕ) (x : B) → map g xs ≡ take (length xs) ks → n ≡ length xs → Some (g x) ≡ slice_get ks n → all ≡ xs ++ x ∷ [] → map g all ≡ take (length all) ks
  next_gathered ks xs all n x h l e s =
      ap (map g) s ∙ map-append g xs (x ∷ []) ∙ ap (λ l. l ++ g x ∷ []) h ∙ sym (take_next ks (length xs) (g x) (e ∙ ap (slice_get ks) l))
      ∙ ap (λ m. take m ks) (sym (one_more xs x)) ∙ ap (λ m. take (length m) ks) (sym s)

  pub all_gathered : (ks : List K) (xs : List B) (n : ℕ) → map g xs ≡ take (length xs) ks → n ≡ length xs → None ≡ slice_get ks n → map g xs ≡ ks
  all_gathered ks xs n h l e = h ∙ take_whole ks (length xs) (e ∙ ap (slice_get ks) l)

-- ---- one history

pub record IsTakeable (n : Key) (before : List DeltaOf) (d : DeltaOf) : Type 0 where
  pub next : d.from ≡ (end_of n before).at
  pub legal : IsLegal n (before ++ d ∷ [])

takes : (n : Key) (before : List DeltaOf) (d : DeltaOf) (after : List DeltaOf) → IsLegal n (before ++ d ∷ after) → IsTakeable n before d
takes n before d after legal =
    let x : IsNext n before d = (legal_after n [] before (d ∷ after) legal).0 in
    record {
      next = x.starts ∙ sym (ap (λ (o : Option Point). (unwrap_or o (start n)).at) x.is_head);
      legal = legal_front n [] (before ++ d ∷ []) after (subst (IsLegal n) (sym (append_assoc before (d ∷ []) after)) legal);
    }

pub takeable : (n : Key) (ds : List DeltaOf) (i : ℕ) (d : DeltaOf) (rest : List DeltaOf) → IsLegal n ds → drop i ds ≡ d ∷ rest → IsTakeable n (take i ds) d
takeable n ds i d rest legal e = takes n (take i ds) d rest (subst (IsLegal n) (sym (take-append-drop i ds) ∙ ap (λ l. take i ds ++ l) e) legal)

pub take_on : (ds : List DeltaOf) (i : ℕ) (d : DeltaOf) (rest : List DeltaOf) → drop i ds ≡ d ∷ rest → take i ds ++ d ∷ [] ≡ take (i + 1) ds
take_on ds i d rest e = ap (λ l. take i ds ++ take 1 l) (sym e) ∙ sym (take-add i 1 ds)

-- ---- what an index has

get_put : (m : Histories) (n : Key) (t : TakenOf) (q : Key) → get (insert m n t) q ≡ cond (tie q n) (Some t) (get m q)
unfolding tie
get_put m n t q = get-insert nat_list_cmp_total m n t q

turned : (n m : Key) → slice_cmp nat_cmp m n ≡ ordering_reverse (slice_cmp nat_cmp n m)
turned n m = nat_list_cmp_total.antisymm m n

below_none : {X : Type 0} (n : Key) → slice_cmp nat_cmp n n ≡ Less → X
below_none n e = absurd (true≢false (sym (ap is_lt e) ∙ ap is_lt (turned n n ∙ ap ordering_reverse e)))

even : (n : Key) → slice_cmp nat_cmp n n ≡ Equal
even n = go (slice_cmp nat_cmp n n) refl
  where
    go : (o : Ordering) → slice_cmp nat_cmp n n ≡ o → slice_cmp nat_cmp n n ≡ Equal
    go Less e = below_none n e
    go Equal e = e
    go Greater e = below_none n (turned n n ∙ ap ordering_reverse e)

tie_own : (n : Key) → tie n n ≡ true
unfolding tie
tie_own n = ap is_eq (even n)

pub taken_now : (m : Histories) (n : Key) (d : DeltaOf) → deltas_in (with_delta m n d) n ≡ deltas_in m n ++ d ∷ []
taken_now m n d = ap (λ (o : Option TakenOf). option_map_or (λ t. t.deltas) o []) (get_put m n (record { name = n; deltas = deltas_in m n ++ d ∷ [] }) n ∙ ap (λ b. cond b (Some (record { name = n; deltas = deltas_in m n ++ d ∷ [] })) (get m n)) (tie_own n))

taken_else : (m : Histories) (n : Key) (d : DeltaOf) (q : Key) → q ≢ n → deltas_in (with_delta m n d) q ≡ deltas_in m q
taken_else m n d q other = ap (λ (o : Option TakenOf). option_map_or (λ t. t.deltas) o []) (get_put m n (record { name = n; deltas = deltas_in m n ++ d ∷ [] }) q ∙ go (tie q n) refl)
  where
    go : (b : Bool) → tie q n ≡ b → cond b (Some (record { name = n; deltas = deltas_in m n ++ d ∷ [] })) (get m q) ≡ get m q
    go true e = absurd (other (tied q n e))
    go false e = refl

all_else : (m : Histories) (n : Key) (ds : List DeltaOf) (q : Key) → q ≢ n → deltas_in (with_deltas m n ds) q ≡ deltas_in m q
all_else m n [] q other = refl
all_else m n (d ∷ ds) q other = all_else (with_delta m n d) n ds q other ∙ taken_else m n d q other

-- ---- names of which nothing was taken

abbrev pub AreNew : Histories → List Key → Type 0
AreNew m [] = Unit {0}
AreNew m (n ∷ ns) = (deltas_in m n ≡ []) × AreNew m ns

pub record IsReady (m : Histories) (ns : List Key) : Type 0 where
  pub fresh : AreNew m ns
  pub ascending : AreAscending ns

apart : (n q : Key) → slice_cmp nat_cmp n q ≡ Less → q ≢ n
apart n q e same = below_none n (subst (λ z. slice_cmp nat_cmp n z ≡ Less) same e)

new_on : (m : Histories) (n : Key) (ds : List DeltaOf) (ns : List Key) → AscendFrom n ns → AreNew m ns → AreNew (with_deltas m n ds) ns
new_on m n ds [] a h = tt
new_on m n ds (q ∷ ns) a h = (all_else m n ds q (apart n q a.0) ∙ h.0, new_on m n ds ns (lower n q ns a.0 a.1) h.1)
  where
    lower : (n q : Key) (ns : List Key) → slice_cmp nat_cmp n q ≡ Less → AscendFrom q ns → AscendFrom n ns
    lower n q [] e a = tt
    lower n q (k ∷ ns) e a = (nat_list_cmp_total.trans n q k e a.0, a.1)

pub ready_on : (m : Histories) (n : Key) (ds : List DeltaOf) (ns : List Key) → IsReady m (n ∷ ns) → IsReady (with_deltas m n ds) ns
ready_on m n ds ns r = record { fresh = new_on m n ds ns r.ascending r.fresh.1; ascending = rest ns r.ascending }
  where
    rest : (ns : List Key) → AscendFrom n ns → AreAscending ns
    rest [] a = tt
    rest (q ∷ ns) a = a.1

pub ready_first : (m : Histories) (ns : List Key) → m ≡ finite.empty → AreAscending ns → IsReady m ns
ready_first m ns e a = record { fresh = all ns; ascending = a }
  where
    all : (ns : List Key) → AreNew m ns
    all [] = tt
    all (n ∷ ns) = (ap (λ (o : Option TakenOf). option_map_or (λ t. t.deltas) o []) (ap (λ (h : Histories). get h n) e ∙ get-empty (slice_cmp nat_cmp) n), all ns)
