-- What is seen of the first deltas of a history.
--     point_after            where they lead
--     IsLed, led             the points before and after a delta
--     seen_more              one more is seen
--     shown_more, hidden_more     of the view of a robot
--     next_shown, next_hidden     of the places that are next
--     step_back              so at a delta before them, with whether the address was a participant before it
--     whole_taken            the point at the head
use Rattle.std.proofs.Common.{◌≡◌, ℕ, suc, Bool, true, false, not, ◌&&◌, cond, is_some, le_refl, List, [], ◌∷◌, ◌++◌, length, take, drop, slice_get, Some, sym, ap, subst, ◌∙◌, option_and_then, append-nil}
use Rattle.std.specs.List.{filter}
use Rattle.std.specs.Option.{option_map_or}
use Rattle.std.proofs.lemmas.List.{take-append-drop, take_all}
use Rattle.std.proofs.lemmas.List.Elements.{filter-append}
use Rattle.std.proofs.lemmas.Option.{slice_get_within, get_or_from_slice_get}
use Rattle.std.proofs.Math.Seq.{take-suc}
use Rattle.doc_items.specs.Maps.{Key}
use Rattle.doc_op.proofs.Applying.{same_Some}
use Rattle.wavelet_op.specs.Deltas.{DeltaOf}
use Rattle.wavelet_op.specs.States.{role_of}
use Rattle.wavelet_op.proofs.Partial.{and_then_some}
use Rattle.delta_history.specs.Histories.{HistoryOf, head_of}
use Rattle.delta_history.specs.Legal.{IsLegal}
use Rattle.delta_history.specs.Points.{Point, start, acts_of, next_point, replay, end_of}
use Rattle.delta_history.proofs.Chains.{legal_front}
use Rattle.delta_history.proofs.Finding.{legal_end}
use Rattle.delta_history.proofs.Points.{after_point, replay_append}
use Rattle.robot_host.specs.Places.{AreNext}
use Rattle.robot_host.specs.Views.{Seen, seen_from, is_among, is_shown, view}
use Rattle.robot_host.specs.Presence.{were_before}
use Rattle.robot_host.proofs.Participants.{acts_before}

pub point_after : (h : HistoryOf) (k : ℕ) → IsLegal h.name h.deltas → (p : Point) × (replay (start h.name) (take k h.deltas) ≡ Some p)
point_after h k l =
    let whole : IsLegal h.name (take k h.deltas ++ drop k h.deltas) = subst (IsLegal h.name) (sym (take-append-drop k h.deltas)) l in
    (end_of h.name (take k h.deltas), legal_end h.name (take k h.deltas) (legal_front h.name [] (take k h.deltas) (drop k h.deltas) whole))

next_of : (p q : Point) (d : DeltaOf) → replay p (d ∷ []) ≡ Some q → next_point p d ≡ Some q
next_of p q d e = let m = and_then_some (next_point p d) (λ z. Some z) q e in m.1 ∙ m.2

pub take_more : {A : Type 0} (xs : List A) (k : ℕ) (x : A) → slice_get xs k ≡ Some x → take (suc k) xs ≡ take k xs ++ x ∷ []
take_more xs k x e = take-suc xs k x (slice_get_within xs k x e) ∙ ap (λ z. take k xs ++ z ∷ []) (get_or_from_slice_get xs k x x e)

pub record IsLed (h : HistoryOf) (k : ℕ) (d : DeltaOf) : Type 0 where
  pub before : Point
  pub after : Point
  pub led : replay (start h.name) (take k h.deltas) ≡ Some before
  pub goes : next_point before d ≡ Some after
  pub leads : replay (start h.name) (take (suc k) h.deltas) ≡ Some after

pub led : (h : HistoryOf) (k : ℕ) (d : DeltaOf) → IsLegal h.name h.deltas → slice_get h.deltas k ≡ Some d → IsLed h k d
led h k d l e =
    let p = point_after h k l in
    let q = point_after h (suc k) l in
    let both : replay (start h.name) (take k h.deltas ++ d ∷ []) ≡ Some q.0 = ap (replay (start h.name)) (sym (take_more h.deltas k d e)) ∙ q.1 in
    let one : replay p.0 (d ∷ []) ≡ Some q.0 = sym (ap (option_and_then (λ z. replay z (d ∷ []))) p.1) ∙ sym (replay_append (start h.name) (take k h.deltas) (d ∷ [])) ∙ both in
    record { before = p.0; after = q.0; led = p.1; goes = next_of p.0 q.0 d one; leads = q.1 }

-- ---- one more is seen

abbrev pub seen_at : DeltaOf → Point → Seen
seen_at d q = record { delta = d; after = q }

pub seen_more : (p q r : Point) (xs : List DeltaOf) (d : DeltaOf) → replay p xs ≡ Some q → next_point q d ≡ Some r → seen_from p (xs ++ d ∷ []) ≡ seen_from p xs ++ seen_at d r ∷ []
seen_more p q r [] d e n = ap (λ o. option_map_or (λ z. seen_at d z ∷ []) o []) (ap (λ z. next_point z d) (same_Some e) ∙ n)
seen_more p q r (x ∷ xs) d e n =
    let m = and_then_some (next_point p x) (λ z. replay z xs) q e in
    ap (λ o. option_map_or (λ z. seen_at x z ∷ seen_from z (xs ++ d ∷ [])) o []) m.1
    ∙ ap (λ z. seen_at x m.0 ∷ z) (seen_more m.0 q r xs d m.2 n)
    ∙ sym (ap (λ o. option_map_or (λ z. seen_at x z ∷ seen_from z xs) o [] ++ seen_at d r ∷ []) m.1)

view_more : (robots : List Key) (a : Key) (h : HistoryOf) (k : ℕ) (d : DeltaOf) → slice_get h.deltas k ≡ Some d → (i : IsLed h k d) → view robots a h (suc k) ≡ view robots a h k ++ filter (is_shown robots a) (seen_at d i.after ∷ [])
view_more robots a h k d e i =
    ap (λ z. filter (is_shown robots a) (seen_from (start h.name) z)) (take_more h.deltas k d e)
    ∙ ap (filter (is_shown robots a)) (seen_more (start h.name) i.before i.after (take k h.deltas) d i.led i.goes)
    ∙ filter-append (is_shown robots a) (seen_from (start h.name) (take k h.deltas)) (seen_at d i.after ∷ [])

pub shown_more : (robots : List Key) (a : Key) (h : HistoryOf) (k : ℕ) (d : DeltaOf) → slice_get h.deltas k ≡ Some d → (i : IsLed h k d) → is_shown robots a (seen_at d i.after) ≡ true → view robots a h (suc k) ≡ view robots a h k ++ seen_at d i.after ∷ []
shown_more robots a h k d e i s = view_more robots a h k d e i ∙ ap (λ b. view robots a h k ++ cond b (seen_at d i.after ∷ []) []) s

pub hidden_more : (robots : List Key) (a : Key) (h : HistoryOf) (k : ℕ) (d : DeltaOf) → slice_get h.deltas k ≡ Some d → (i : IsLed h k d) → is_shown robots a (seen_at d i.after) ≡ false → view robots a h (suc k) ≡ view robots a h k
hidden_more robots a h k d e i s = view_more robots a h k d e i ∙ ap (λ b. view robots a h k ++ cond b (seen_at d i.after ∷ []) []) s ∙ append-nil _

-- ---- the places that are next

pub next_shown : (robots : List Key) (a : Key) (h : HistoryOf) (k : ℕ) (d : DeltaOf) (is : List ℕ) → slice_get h.deltas k ≡ Some d → (i : IsLed h k d) → is_shown robots a (seen_at d i.after) ≡ true → AreNext robots a h (view robots a h (suc k)) is → AreNext robots a h (view robots a h k) (k ∷ is)
next_shown robots a h k d is e i s n =
    let more = shown_more robots a h k d e i s in
    (seen_at d i.after, record { seen = record { there = e; leads = i.leads }; view = more }, subst (λ z. AreNext robots a h z is) more n)

pub next_hidden : (robots : List Key) (a : Key) (h : HistoryOf) (k : ℕ) (d : DeltaOf) (is : List ℕ) → slice_get h.deltas k ≡ Some d → (i : IsLed h k d) → is_shown robots a (seen_at d i.after) ≡ false → AreNext robots a h (view robots a h (suc k)) is → AreNext robots a h (view robots a h k) is
next_hidden robots a h k d is e i s n = subst (λ z. AreNext robots a h z is) (hidden_more robots a h k d e i s) n

-- ---- a delta back

pub record IsBack (robots : List Key) (a : Key) (h : HistoryOf) (k : ℕ) (d : DeltaOf) (here : Bool) (is : List ℕ) : Type 0 where
  pub next : AreNext robots a h (view robots a h k) (cond (not (is_among d.id.author robots) && here) (k ∷ is) is)
  pub was : (p : Point) → replay (start h.name) (take k h.deltas) ≡ Some p → were_before a (acts_of d) here ≡ is_some (role_of p.state a)

next_if : (robots : List Key) (a : Key) (h : HistoryOf) (k : ℕ) (d : DeltaOf) (is : List ℕ) → slice_get h.deltas k ≡ Some d → (i : IsLed h k d) → AreNext robots a h (view robots a h (suc k)) is → (b : Bool) → is_shown robots a (seen_at d i.after) ≡ b → AreNext robots a h (view robots a h k) (cond b (k ∷ is) is)
next_if robots a h k d is e i n true s = next_shown robots a h k d is e i s n
next_if robots a h k d is e i n false s = next_hidden robots a h k d is e i s n

pub step_back : (robots : List Key) (a : Key) (h : HistoryOf) (n k : ℕ) (d : DeltaOf) (here : Bool) (is : List ℕ) → n ≡ suc k → IsLegal h.name h.deltas → slice_get h.deltas k ≡ Some d
    → ((p : Point) → replay (start h.name) (take n h.deltas) ≡ Some p → here ≡ is_some (role_of p.state a)) → AreNext robots a h (view robots a h n) is → IsBack robots a h k d here is
step_back robots a h n k d here is same l e there next =
    let i = led h k d l e in
    let now : here ≡ is_some (role_of i.after.state a) = there i.after (ap (λ z. replay (start h.name) (take z h.deltas)) same ∙ i.leads) in
    let behind = after_point i.before i.after d i.goes in
    record {
      next = next_if robots a h k d is e i (subst (λ z. AreNext robots a h (view robots a h z) is) same next) (not (is_among d.id.author robots) && here) (ap (λ b. not (is_among d.id.author robots) && b) (sym now));
      was = λ p q.
          let at : p ≡ i.before = same_Some (sym q ∙ i.led) in
          sym (ap (λ (z : Point). is_some (role_of z.state a)) at ∙ acts_before i.before.state behind.state (acts_of d) a behind.goes ∙ ap (λ z. were_before a (acts_of d) (is_some (role_of z a))) (sym behind.same) ∙ ap (were_before a (acts_of d)) (sym now));
    }

pub whole_taken : (h : HistoryOf) (p : Point) → IsLegal h.name h.deltas → replay (start h.name) (take (length h.deltas) h.deltas) ≡ Some p → head_of h ≡ p
whole_taken h p l e = same_Some (sym (legal_end h.name h.deltas l) ∙ sym (ap (replay (start h.name)) (take_all (length h.deltas) h.deltas (le_refl _))) ∙ e)
