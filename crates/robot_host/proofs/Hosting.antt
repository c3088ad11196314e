-- The calls of a host.
--     nobody_there           no robot has the number
--     without_robot, without_none      a robot is dropped, and none is
--     gone_kept              what is kept without it
--     settled_by             nothing is left, by what is kept of a wavelet
use Rattle.std.proofs.Common.{◌≡◌, ℕ, zero, suc, ◌<◌, arith, Bool, true, false, cond, List, [], ◌∷◌, length, map, slice_get, slice_set, Option, Some, None, refl, sym, ap, subst, ◌∙◌, true≢false, is_eq}
use Rattle.std.specs.List.{filter}
use Rattle.std.specs.Option.{option_map, option_map_or}
use Rattle.std.specs.declared.alloc.Global.{Global}
use Rattle.std.specs.declared.dyn_box.DynBox.{DynBox}
use Rattle.std.specs.Ordering.{nat_cmp}
use Rattle.std.specs.Cmp.Lexicographic.{slice_cmp, texts_ties, bytes_decides}
use Rattle.std.specs.BTreeMap as tree
use Rattle.std.proofs.lemmas.List.{map-set, set-get_or}
use Rattle.std.proofs.lemmas.Option.{slice_get-map, slice_get_within, get_or_from_slice_get}
use Rattle.doc_items.specs.Maps.{Key}
use Rattle.delta_history.specs.Histories.{HistoryOf}
use Rattle.robot_host.specs.declared.edit.RobotEdit.{RobotEdit}
use Rattle.robot_host.specs.declared.progress.Progress.{Progress}
use Rattle.robot_host.specs.declared.seat.Seat.{Seat}
use Rattle.robot_host.specs.Calls.{Call}
use Rattle.robot_host.specs.Hosts.{IsWithout, IsSettled, progress_in, number_in, edits_in, AreSameWavelets}
use Rattle.robot_host.specs.Robots.{RobotOf, robot_by}
use Rattle.robot_host.specs.Showing.{dropped}
use Rattle.robot_host.specs.Turns.{is_there, is_of_there, number_of}
use Rattle.robot_host.proofs.AllTurns.{set_here, set_apart, by_number}

-- ---- filters

filter_both : {A : Type 0} (p q : A → Bool) → ((x : A) → q x ≡ true → p x ≡ true) → (xs : List A) → filter q xs ≡ filter q (filter p xs)
filter_both p q h [] = refl
filter_both p q h (x ∷ xs) = go (p x) (q x) refl refl (filter_both p q h xs)
  where
    go : (b c : Bool) → p x ≡ b → q x ≡ c → filter q xs ≡ filter q (filter p xs) → cond (q x) (x ∷ filter q xs) (filter q xs) ≡ filter q (cond (p x) (x ∷ filter p xs) (filter p xs))
    go true c e f rest = ap (cond (q x) (x ∷ filter q xs)) rest ∙ (λ i. cond (q x) (x ∷ rest i) (filter q (filter p xs))) ∙ ap (λ b. filter q (cond b (x ∷ filter p xs) (filter p xs))) (sym e)
    go false true e f rest = absurd (true≢false (sym (h x f) ∙ e))
    go false false e f rest = ap (λ b. cond b (x ∷ filter q xs) (filter q xs)) f ∙ rest ∙ ap (λ b. filter q (cond b (x ∷ filter p xs) (filter p xs))) (sym e)

pub kept_still : (p q : List RobotOf) → ((r : ℕ) → is_there q r ≡ true → is_there p r ≡ true) → (es : List RobotEdit) → filter (is_of_there q) es ≡ filter (is_of_there q) (filter (is_of_there p) es)
kept_still p q h es = filter_both (is_of_there p) (is_of_there q) (λ e. h e.robot) es

-- ---- without a robot

pub dropped_there : (robots : List RobotOf) (r : ℕ) (s : RobotOf) → slice_get robots r ≡ Some s → (q : ℕ) → is_there (slice_set robots r (dropped s)) q ≡ true → is_there robots q ≡ true
dropped_there robots r s at q here = by_number q r
    (λ same. absurd (true≢false (sym here ∙ ap (is_there (slice_set robots r (dropped s))) same ∙ ap (λ o. option_map_or (λ (z : RobotOf). z.here) o false) (set_here robots r (dropped s) (slice_get_within robots r s at)))))
    (λ apart. ap (λ o. option_map_or (λ (z : RobotOf). z.here) o false) (sym (set_apart robots r q (dropped s) apart)) ∙ here)

pub without_robot : (robots robots' : List RobotOf) (r : ℕ) (s : RobotOf) (number : Key → ℕ → ℕ) (edits : Key → List RobotEdit) → slice_get robots r ≡ Some s → robots' ≡ slice_set robots r (dropped s)
    → IsWithout (record { robots = robots; number = number; edits = edits }) r (record { robots = robots'; number = number; edits = edits })
without_robot robots robots' r s number edits at is = record {
  robots = is ∙ sym (ap (λ o. option_map_or (λ z. slice_set robots r (dropped z)) o robots) at);
  numbers = λ name q. refl;
  edits = λ name. kept_still robots robots' (λ q here. dropped_there robots r s at q (ap (λ z. is_there z q) (sym is) ∙ here)) (edits name);
}

pub without_none : (robots : List RobotOf) (r : ℕ) (number : Key → ℕ → ℕ) (edits : Key → List RobotEdit) → slice_get robots r ≡ None → IsWithout (record { robots = robots; number = number; edits = edits }) r (record { robots = robots; number = number; edits = edits })
without_none robots r number edits none = record {
  robots = sym (ap (λ o. option_map_or (λ z. slice_set robots r (dropped z)) o robots) none);
  numbers = λ name q. refl;
  edits = λ name. kept_still robots robots (λ q here. here) (edits name);
}

pub nobody_there : (robots : List RobotOf) (r : ℕ) → slice_get robots r ≡ None → false ≡ is_there robots r
nobody_there robots r none = ap (λ o. option_map_or (λ (z : RobotOf). z.here) o false) (sym none)

pub no_robot : {V : Type 0} {T : V → Type 0} (calls : DynBox V Global T → Option (List Call)) (seats : List (Seat V T)) (r : ℕ) → slice_get seats r ≡ None → slice_get (map (robot_by calls) seats) r ≡ None
no_robot calls seats r none = slice_get-map (robot_by calls) seats r ∙ ap (option_map (robot_by calls)) none

pub one_robot : {V : Type 0} {T : V → Type 0} (calls : DynBox V Global T → Option (List Call)) (seats : List (Seat V T)) (r : ℕ) (seat : Seat V T) → slice_get seats r ≡ Some seat → slice_get (map (robot_by calls) seats) r ≡ Some (robot_by calls seat)
one_robot calls seats r seat at = slice_get-map (robot_by calls) seats r ∙ ap (option_map (robot_by calls)) at

pub one_dropped : {V : Type 0} {T : V → Type 0} (calls : DynBox V Global T → Option (List Call)) (seats : List (Seat V T)) (r : ℕ) (seat seat' : Seat V T) → robot_by calls seat' ≡ dropped (robot_by calls seat) → map (robot_by calls) (slice_set seats r seat') ≡ slice_set (map (robot_by calls) seats) r (dropped (robot_by calls seat))
one_dropped calls seats r seat seat' e = map-set (robot_by calls) seats r seat' ∙ ap (slice_set (map (robot_by calls) seats) r) e

-- ---- the wavelets

-- what is known after one wavelet's progress was changed
pub at_key : (a q : Key) → is_eq (slice_cmp nat_cmp a q) ≡ true → a ≡ q
at_key a q e = (bytes_decides a q).0 (texts_ties a q ∙ e)

pub apart_key : (a q : Key) → (q ≡ a → ⊥) → is_eq (slice_cmp nat_cmp a q) ≡ false
apart_key a q h = go (is_eq (slice_cmp nat_cmp a q)) refl
  where
    go : (b : Bool) → is_eq (slice_cmp nat_cmp a q) ≡ b → b ≡ false
    go true e = absurd (h (sym (at_key a q e)))
    go false e = refl

pub same_put : (m m' : tree.BTreeMap Key Progress) (a : Key) (o : Option Progress) (p : Progress) → progress_in m a ≡ o → ((q : Key) → progress_in m' q ≡ cond (is_eq (slice_cmp nat_cmp a q)) (Some p) (progress_in m q))
    → ((r : ℕ) → number_of p.counts.items r ≡ number_in o r) → p.edits.items ≡ edits_in o → AreSameWavelets m m'
same_put m m' a o p was put numbers edits = record {
  numbers = λ q r. go q (λ z. number_in z r ≡ number_in (progress_in m q) r) refl (λ e. numbers r ∙ ap (λ z. number_in z r) (sym was ∙ ap (progress_in m) e));
  edits = λ q. go q (λ z. edits_in z ≡ edits_in (progress_in m q)) refl (λ e. edits ∙ ap edits_in (sym was ∙ ap (progress_in m) e));
}
  where
    go : (q : Key) (P : Option Progress → Type 0) → P (progress_in m q) → (a ≡ q → P (Some p)) → P (progress_in m' q)
    go q P other here = subst P (sym (put q)) (by (is_eq (slice_cmp nat_cmp a q)) refl)
      where
        by : (b : Bool) → is_eq (slice_cmp nat_cmp a q) ≡ b → P (cond b (Some p) (progress_in m q))
        by true e = here (at_key a q e)
        by false e = other

pub same_twice : (m m' m'' : tree.BTreeMap Key Progress) → AreSameWavelets m m' → AreSameWavelets m' m'' → AreSameWavelets m m''
same_twice m m' m'' a b = record { numbers = λ q r. b.numbers q r ∙ a.numbers q r; edits = λ q. b.edits q ∙ a.edits q }

-- ---- a robot that isn't there

pub without_gone : (robots : List RobotOf) (r : ℕ) (number : Key → ℕ → ℕ) (edits : Key → List RobotEdit) → is_there robots r ≡ false → IsWithout (record { robots = robots; number = number; edits = edits }) r (record { robots = robots; number = number; edits = edits })
without_gone robots r number edits gone = go (slice_get robots r) refl
  where
    go : (o : Option RobotOf) → slice_get robots r ≡ o → IsWithout (record { robots = robots; number = number; edits = edits }) r (record { robots = robots; number = number; edits = edits })
    go None e = without_none robots r number edits e
    go (Some s) e =
        let here : s.here ≡ false = sym (ap (λ o. option_map_or (λ (z : RobotOf). z.here) o false) e) ∙ gone in
        let same : dropped s ≡ s = λ i. record { address = s.address; here = sym here i; before = s.before; calls = s.calls } in
        let set : slice_set robots r (dropped s) ≡ robots = ap (slice_set robots r) (same ∙ sym (get_or_from_slice_get robots r s s e)) ∙ set-get_or robots r s in
        record {
          robots = sym (ap (λ o. option_map_or (λ z. slice_set robots r (dropped z)) o robots) e ∙ set);
          numbers = λ name q. refl;
          edits = λ name. kept_still robots robots (λ q h. h) (edits name);
        }

pub inside_there : {V : Type 0} {T : V → Type 0} (calls : DynBox V Global T → Option (List Call)) (seats : List (Seat V T)) (r : ℕ) → is_there (map (robot_by calls) seats) r ≡ true → r < length seats
inside_there calls [] r there = absurd (true≢false (sym there))
inside_there calls (s ∷ seats) zero there = omega arith
inside_there calls (s ∷ seats) (suc r) there = let w = inside_there calls seats r there in omega (arith, w)

-- ---- where nothing is left

pub settled_by : (robots : List RobotOf) (m : tree.BTreeMap Key Progress) (h : HistoryOf) (p : Progress) → progress_in m h.name ≡ Some p → ((r : ℕ) → is_there robots r ≡ true → number_of p.counts.items r ≡ length h.deltas) → p.edits.items ≡ []
    → IsSettled (record { robots = robots; number = λ name. number_in (progress_in m name); edits = λ name. edits_in (progress_in m name) }) h
settled_by robots m h p is through none = record {
  through = λ r s at here. ap (λ o. number_in o r) is ∙ through r (ap (λ o. option_map_or (λ (z : RobotOf). z.here) o false) at ∙ here);
  none_kept = ap (λ o. filter (is_of_there robots) (edits_in o)) is ∙ ap (filter (is_of_there robots)) none;
}
