-- A robot's part in a turn.
--     turn_some, turn_all       it was shown what of its view comes after the deltas that it went through
--     none_turned               where it was shown nothing
--     next_within               the places that are next
use Rattle.std.proofs.Common.{◌≡◌, ℕ, suc, ◌≤◌, Bool, true, false, List, [], ◌∷◌, ◌++◌, length, map, refl, sym, ap, subst, ◌∙◌, arith, append_assoc, append-nil, true≢false}
use Rattle.std.proofs.lemmas.Option.{slice_get_within}
use Rattle.doc_items.specs.Maps.{Key}
use Rattle.doc_op.proofs.Applying.{same_Some}
use Rattle.delta_history.specs.Histories.{HistoryOf}
use Rattle.robot_host.specs.declared.edit.RobotEdit.{RobotEdit}
use Rattle.robot_host.specs.Places.{IsSeenAt, AreNext, AreWithin}
use Rattle.robot_host.specs.Reactions.{Answered, HasStayed, edits_of}
use Rattle.robot_host.specs.Robots.{RobotOf}
use Rattle.robot_host.specs.Showing.{AreTaken, HasShown, HasShownSome, HasShownAll}
use Rattle.robot_host.specs.Turns.{StayedFrom, IsTurnOf}
use Rattle.robot_host.specs.Views.{Seen, view}
use Rattle.robot_host.proofs.Shown.{with_none}

pub next_within : (robots : List Key) (a : Key) (h : HistoryOf) (v : List Seen) (is : List ℕ) → AreNext robots a h v is → AreWithin (length h.deltas) is
next_within robots a h v [] n = tt
next_within robots a h v (i ∷ is) n = (slice_get_within h.deltas i n.0.delta n.1.seen.there, next_within robots a h (v ++ n.0 ∷ []) is n.2)

same_seen : (h : HistoryOf) (i : ℕ) (x y : Seen) → IsSeenAt h i x → IsSeenAt h i y → x ≡ y
same_seen h i x y s t =
    let delta : x.delta ≡ y.delta = same_Some (sym s.there ∙ t.there) in
    let after : x.after ≡ y.after = same_Some (sym s.leads ∙ t.leads) in
    λ k. record { delta = delta k; after = after k }

pub record IsViewed (robots : List Key) (a : Key) (h : HistoryOf) (v : List Seen) (shown : List Answered) (m : ℕ) (left : List ℕ) : Type 0 where
  pub seen : v ++ map (λ x. x.seen) shown ≡ view robots a h m
  pub next : AreNext robots a h (view robots a h m) left

viewed : (robots : List Key) (a : Key) (h : HistoryOf) (v : List Seen) (n : ℕ) (is : List ℕ) (shown : List Answered) (m : ℕ) (left : List ℕ) → v ≡ view robots a h n → AreNext robots a h v is → AreTaken h n is shown m left → IsViewed robots a h v shown m left
viewed robots a h v n is [] m left e next t =
    let here : v ≡ view robots a h m = e ∙ ap (view robots a h) (sym t.0) in
    record { seen = append-nil v ∙ here; next = subst (λ z. AreNext robots a h z left) here (subst (AreNext robots a h v) (sym t.1) next) }
viewed robots a h v n [] (x ∷ xs) m left e next t = absurd t
viewed robots a h v n (i ∷ is) (x ∷ xs) m left e next t =
    let same : next.0 ≡ x.seen = same_seen h i next.0 x.seen next.1.seen t.0 in
    let on : v ++ x.seen ∷ [] ≡ view robots a h (suc i) = ap (λ z. v ++ z ∷ []) (sym same) ∙ sym next.1.view in
    let rest = viewed robots a h (v ++ x.seen ∷ []) (suc i) is xs m left on (subst (λ z. AreNext robots a h (v ++ z ∷ []) is) same next.2) t.1 in
    record { seen = sym (append_assoc v (x.seen ∷ []) (map (λ z. z.seen) xs)) ∙ rest.seen; next = rest.next }

taken_within : (h : HistoryOf) (n : ℕ) (is : List ℕ) (shown : List Answered) (m : ℕ) (left : List ℕ) → n ≤ length h.deltas → AreTaken h n is shown m left → m ≤ length h.deltas
taken_within h n is [] m left w t = let e = t.0 in omega (arith, w, e)
taken_within h n [] (x ∷ xs) m left w t = absurd t
taken_within h n (i ∷ is) (x ∷ xs) m left w t = let k = slice_get_within h.deltas i x.seen.delta t.0.there in taken_within h (suc i) is xs m left (omega (arith, k)) t.1

stayed_from : (b : Bool) (shown : List Answered) (here : Bool) → b ≡ true → HasStayed shown here → StayedFrom b shown here
stayed_from true shown here e s = s
stayed_from false shown here e s = absurd (true≢false (sym e))

pub record IsTurned (robots : List Key) (h : HistoryOf) (r : ℕ) (s t : RobotOf) (n m : ℕ) (es es' : List RobotEdit) : Type 0 where
  pub added : List RobotEdit
  pub edits : es' ≡ es ++ added
  pub turn : IsTurnOf robots h r s t n m added

turned_to : (robots : List Key) (h : HistoryOf) (r : ℕ) (is left : List ℕ) (n k m : ℕ) (s t : RobotOf) (es es' : List RobotEdit) → s.here ≡ true → AreNext robots s.address h (view robots s.address h n) is
    → (shown : HasShown h r is left n s t k es es') → view robots s.address h k ≡ view robots s.address h m → (n ≤ length h.deltas → m ≤ length h.deltas) → IsTurned robots h r s t n m es es'
turned_to robots h r is left n k m s t es es' here next shown same within = record {
  added = edits_of r s.address shown.shown;
  edits = shown.edits;
  turn = record {
    shown = shown.shown;
    view = (viewed robots s.address h (view robots s.address h n) n is shown.shown k left refl next shown.taken).seen ∙ same;
    within = within;
    robot = shown.robot;
    stayed = stayed_from s.here shown.shown t.here here shown.stayed;
    edits = refl;
  };
}

pub turn_some : (robots : List Key) (h : HistoryOf) (r : ℕ) (is : List ℕ) (n m : ℕ) (s t : RobotOf) (es es' : List RobotEdit) → s.here ≡ true → AreNext robots s.address h (view robots s.address h n) is → HasShownSome h r is n s t m es es' → IsTurned robots h r s t n m es es'
turn_some robots h r is n m s t es es' here next shown = turned_to robots h r is shown.left n m m s t es es' here next shown.shown refl (λ w. taken_within h n is shown.shown.shown m shown.left w shown.shown.taken)

by_here : {P : Type 0} (b : Bool) → (b ≡ true → P) → (b ≡ false → P) → P
by_here true f g = f refl
by_here false f g = g refl

pub turn_all : (robots : List Key) (h : HistoryOf) (r : ℕ) (is : List ℕ) (n m : ℕ) (s t : RobotOf) (es es' : List RobotEdit) → s.here ≡ true → AreNext robots s.address h (view robots s.address h n) is → HasShownAll h r is n s t m es es' → IsTurned robots h r s t n m es es'
turn_all robots h r is n m s t es es' here next shown = by_here t.here
    (λ stays.
    let end = shown.through stays in
    let last = (viewed robots s.address h (view robots s.address h n) n is shown.shown.shown shown.reached shown.left refl next shown.shown.taken).next in
    let all : view robots s.address h (length h.deltas) ≡ view robots s.address h shown.reached = subst (AreNext robots s.address h (view robots s.address h shown.reached)) end.0 last in
    turned_to robots h r is shown.left n shown.reached m s t es es' here next shown.shown (sym all ∙ ap (view robots s.address h) (sym end.1)) (λ w. let e = end.1 in omega (arith, e)))
    (λ leaves.
    let same = shown.gone leaves in
    turned_to robots h r is shown.left n shown.reached m s t es es' here next shown.shown (ap (view robots s.address h) (sym same)) (λ w. let k = taken_within h n is shown.shown.shown shown.reached shown.left w shown.shown.taken in omega (arith, k, same)))

pub none_turned : (robots : List Key) (h : HistoryOf) (r n : ℕ) (s : RobotOf) → IsTurnOf robots h r s s n n []
none_turned robots h r n s = record {
  shown = [];
  view = append-nil _;
  within = λ w. w;
  robot = λ i. record { address = s.address; here = s.here; before = s.before; calls = sym (with_none s.calls) i };
  stayed = stays s.here;
  edits = refl;
}
  where
    stays : (b : Bool) → StayedFrom b [] b
    stays true = refl
    stays false = (refl, refl)
