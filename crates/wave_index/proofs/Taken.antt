-- Histories as an index keeps them.
--     taken             a history without its room
--     refused_as        why a delta isn't taken says nothing of the room
--     same_taken, grown_taken, same_name     what becomes of a history, without its room
--     kept_same, kept_on    its changed versions
--     named_get         a history stands at its own name
--     named_insert, put_itself, with_next, with_first    the histories after a delta
--     ok_to, err_to     where a call is done, or refused
use Rattle.std.proofs.Common.{◌≡◌, ℕ, Bool, true, false, cond, List, [], ◌∷◌, ◌++◌, refl, sym, ap, subst, ◌∙◌, Option, Some, None, Result, Ok, Err, OnOk, OnErr, IfErr, IfSome}
use Rattle.std.specs.Option.{option_map_or}
use Rattle.std.specs.Ordering.{nat_cmp}
use Rattle.std.specs.Cmp.Lexicographic.{slice_cmp}
use Rattle.std.specs.FinMap.{get, empty, insert, get-insert, get-empty}
use Rattle.std.proofs.lemmas.Cmp.{nat_list_cmp_total}
use Rattle.doc_items.specs.Maps.{Key}
use Rattle.doc_items.proofs.Maps.{tie, tied, alike}
use Rattle.wavelet_op.specs.Deltas.{DeltaOf}
use Rattle.delta_history.specs.Histories.{HistoryOf, IsSameHistory, IsGrown}
use Rattle.delta_history.specs.Points.{acts_of}
use Rattle.delta_history.specs.Pushes.{IsRefused}
use Rattle.delta_history.specs.declared.fault.HistoryFault.{HistoryFault}
use Rattle.delta_history.specs.declared.fault.HistoryFault.TheVariants.{NotNext, NotLegal, Memory}
use Rattle.wave_index.specs.Changes.{is_changed, end_of_delta, changed_version}
use Rattle.wave_index.specs.Taken.{TakenOf, Histories, history_of, deltas_in, with_delta, AreNamed}
use Rattle.wave_index.specs.Versions.{Versions, version_in, KeepsAll, KeepsVersions}
use Rattle.wave_index.proofs.Changes.{version_more}

abbrev pub taken : HistoryOf → TakenOf
taken h = record { name = h.name; deltas = h.deltas }

-- ---- one history

stripped : (h : HistoryOf) (d : DeltaOf) (e : HistoryFault) → IsRefused h d e → IsRefused (history_of (taken h)) d e
stripped h d (NotNext have got) r = r
stripped h d NotLegal r = r
stripped h d Memory r = r

refused_at : (t u : TakenOf) (d x : DeltaOf) (e : HistoryFault) → t ≡ u → d ≡ x → IsRefused (history_of t) d e → IsRefused (history_of u) x e
refused_at t u d x e p q r = subst (λ (y : DeltaOf). IsRefused (history_of u) y e) q (subst (λ (y : TakenOf). IsRefused (history_of y) d e) p r)

pub refused_as : {A : Type 0} (r : Result A HistoryFault) (h : HistoryOf) (u : TakenOf) (d x : DeltaOf) → taken h ≡ u → d ≡ x → IfErr r (IsRefused h d) → IfErr r (IsRefused (history_of u) x)
refused_as (Ok v) h u d x p q r = tt
refused_as (Err e) h u d x p q r = refused_at (taken h) u d x e p q (stripped h d e r)

pub refused_like : {A : Type 0} (r : Result A HistoryFault) (t u : TakenOf) (d : DeltaOf) → t ≡ u → IfErr r (IsRefused (history_of t) d) → IfErr r (IsRefused (history_of u) d)
refused_like r t u d p h = subst (λ (y : TakenOf). IfErr r (IsRefused (history_of y) d)) p h

pub same_taken : (h g : HistoryOf) → IsSameHistory h g → taken g ≡ taken h
same_taken h g s i = record { name = s.name i; deltas = s.deltas i }

pub grown_taken : (h g : HistoryOf) (d : DeltaOf) → IsGrown h d g → taken g ≡ record { name = h.name; deltas = h.deltas ++ d ∷ [] }
grown_taken h g d s i = record { name = s.name i; deltas = s.deltas i }

-- ---- changed versions

pub kept_same : (m n : Versions) (ds es : List DeltaOf) → KeepsVersions m ds → KeepsAll m n → es ≡ ds → KeepsVersions n es
kept_same m n ds es k s e d = s.same d ∙ k d ∙ ap (changed_version d) (sym e)

pub kept_on : (m n o : Versions) (ds es : List DeltaOf) (x : DeltaOf) (v : ℕ) → KeepsVersions m ds → KeepsAll m n → v ≡ end_of_delta x → ((d : Key) → version_in o d ≡ cond (is_changed d (acts_of x)) v (version_in n d)) → es ≡ ds ++ x ∷ [] → KeepsVersions o es
kept_on m n o ds es x v k s e h g d =
    h d ∙ (λ i. cond (is_changed d (acts_of x)) (e i) ((s.same d ∙ k d) i)) ∙ sym (version_more d 0 ds x) ∙ ap (changed_version d) (sym g)

-- ---- all histories

pub named_get : (m : Histories) (n : Key) (t : TakenOf) → AreNamed m → get m n ≡ Some t → t.name ≡ n
named_get m n t h e = subst (λ (o : Option TakenOf). IfSome o (λ u. u.name ≡ n)) e (h n)

get_put : (m : Histories) (n : Key) (t : TakenOf) (q : Key) → get (insert m n t) q ≡ cond (tie q n) (Some t) (get m q)
unfolding tie
get_put m n t q = get-insert nat_list_cmp_total m n t q

pub named_insert : (m : Histories) (n : Key) (t : TakenOf) → AreNamed m → t.name ≡ n → AreNamed (insert m n t)
named_insert m n t h e q = subst (λ (o : Option TakenOf). IfSome o (λ u. u.name ≡ q)) (sym (get_put m n t q)) (go (tie q n) refl)
  where
    go : (b : Bool) → tie q n ≡ b → IfSome (cond b (Some t) (get m q)) (λ u. u.name ≡ q)
    go true s = e ∙ sym (tied q n s)
    go false s = h q

pub put_itself : (m : Histories) (n : Key) (t : TakenOf) → get m n ≡ Some t → insert m n t ≡ m
put_itself m n t e = alike _ _ (λ q. get_put m n t q ∙ go q (tie q n) refl)
  where
    go : (q : Key) (b : Bool) → tie q n ≡ b → cond b (Some t) (get m q) ≡ get m q
    go q true s = sym e ∙ ap (get m) (sym (tied q n s))
    go q false s = refl

pub deltas_there : (m : Histories) (n : Key) (t : TakenOf) → get m n ≡ Some t → deltas_in m n ≡ t.deltas
deltas_there m n t e = ap (λ (o : Option TakenOf). option_map_or (λ u. u.deltas) o []) e

pub deltas_none : (m : Histories) (n : Key) → get m n ≡ None → deltas_in m n ≡ []
deltas_none m n e = ap (λ (o : Option TakenOf). option_map_or (λ u. u.deltas) o []) e

-- the history of a name, as it is looked up
pub found_as : (m : Histories) (n : Key) (t : TakenOf) → AreNamed m → get m n ≡ Some t → t ≡ record { name = n; deltas = deltas_in m n }
found_as m n t h e i = record { name = named_get m n t h e i; deltas = sym (deltas_there m n t e) i }

pub with_next : (m : Histories) (n : Key) (t u : TakenOf) (d : DeltaOf) → AreNamed m → get m n ≡ Some t → u ≡ record { name = t.name; deltas = t.deltas ++ d ∷ [] } → insert m n u ≡ with_delta m n d
with_next m n t u d h e s = ap (insert m n) (s ∙ (λ i. record { name = named_get m n t h e i; deltas = sym (deltas_there m n t e) i ++ d ∷ [] }))

pub with_first : (m : Histories) (n : Key) (u : TakenOf) (d : DeltaOf) → get m n ≡ None → u ≡ record { name = n; deltas = d ∷ [] } → insert m n u ≡ with_delta m n d
with_first m n u d e s = ap (insert m n) (s ∙ (λ i. record { name = n; deltas = sym (deltas_none m n e) i ++ d ∷ [] }))

pub named_none : AreNamed empty
named_none q = subst (λ (o : Option TakenOf). IfSome o (λ u. u.name ≡ q)) (sym (get-empty (slice_cmp nat_cmp) q)) tt

-- ---- as a call answers

module _ {A E : Type 0} where
  pub ok_to : (r : Result A E) {P Q : Type 0} → (P → Q) → OnOk r P → OnOk r Q
  ok_to (Ok x) f h = f h
  ok_to (Err e) f h = tt

  pub err_to : (r : Result A E) {P Q : Type 0} → (P → Q) → OnErr r P → OnErr r Q
  err_to (Ok x) f h = tt
  err_to (Err e) f h = f h
