-- A turn as it is known of a host.
--     turns_from             numbers that are the same
--     idle                   nobody was shown anything
--     turned_as              what each robot was shown, among the host's
--     there_before           who is there was there before
--     turned_all             the edits that are given or kept
--     may_again              the conditions of the next turn
use Rattle.std.proofs.Common.{◌≡◌, ℕ, zero, suc, arith, Bool, true, false, cond, List, [], ◌∷◌, ◌++◌, length, map, slice_get, Option, Some, None, IfSome, Result, Ok, Err, OnErr, refl, sym, ap, subst, ◌∙◌, append_assoc, append-nil, true≢false}
use Rattle.std.specs.List.{filter}
use Rattle.std.specs.Option.{option_map_or}
use Rattle.std.proofs.lemmas.List.{map-append, length-map}
use Rattle.std.proofs.lemmas.List.Elements.{filter-append}
use Rattle.std.proofs.lemmas.Option.{slice_get_within}
use Rattle.doc_items.specs.Maps.{Key, same_text}
use Rattle.doc_op.proofs.Applying.{no_value, same_Some}
use Rattle.wavelet_op.proofs.Maps.{same_text_itself}
use Rattle.delta_history.specs.Histories.{HistoryOf}
use Rattle.robot_host.specs.declared.edit.RobotEdit.{RobotEdit}
use Rattle.robot_host.specs.Calls.{Call, given_in}
use Rattle.robot_host.specs.Hosts.{HostOf, kept, MayTurn, HasTurnedAs, HasTurned}
use Rattle.robot_host.specs.Reactions.{Answered, call_of, with_calls}
use Rattle.robot_host.specs.Robots.{RobotOf, addresses}
use Rattle.robot_host.specs.Turns.{is_there, is_of_there, number_of, of_robot, StayedFrom, IsTurnOf, AreTurns, HaveTurned, WasShown}
use Rattle.robot_host.specs.Views.{Seen, view, given_by}
use Rattle.robot_host.proofs.Hosting.{kept_still}
use Rattle.robot_host.proofs.Table.{there_at}
use Rattle.robot_host.proofs.Turning.{none_turned}

turn_moved : {robots : List Key} {h : HistoryOf} {r : ℕ} {s s' t t' : RobotOf} {n n' m m' : ℕ} {xs xs' : List RobotEdit} → IsTurnOf robots h r s t n m xs → s ≡ s' → t ≡ t' → n ≡ n' → m ≡ m' → xs ≡ xs' → IsTurnOf robots h r s' t' n' m' xs'
turn_moved {robots = robots} {h = h} {r = r} turn s t n m xs = subst (λ z. z) (λ i. IsTurnOf robots h r (s i) (t i) (n i) (m i) (xs i)) turn

pub turns_from : {robots : List Key} {h : HistoryOf} {ss ts : List RobotOf} {ns ns' ms : List ℕ} {es : List RobotEdit} → ((r : ℕ) → number_of ns' r ≡ number_of ns r) → AreTurns robots h ss ts ns' ms es → AreTurns robots h ss ts ns ms es
turns_from same turns = record { length = turns.length; turned = λ r s t e f. turn_moved (turns.turned r s t e f) refl refl (same r) refl refl }

pub idle : (robots : List Key) (h : HistoryOf) (ss : List RobotOf) (ns ms : List ℕ) → ((r : ℕ) → number_of ms r ≡ number_of ns r) → AreTurns robots h ss ss ns ms []
idle robots h ss ns ms same = record {
  length = refl;
  turned = λ r s t e f. turn_moved (none_turned robots h r (number_of ns r) s) refl (same_Some (sym e ∙ f)) refl (sym (same r)) refl;
}

pub turned_as : (g g' : HostOf) (h : HistoryOf) (ss ts : List RobotOf) (ns ms : List ℕ) (es : List RobotEdit) → ss ≡ g.robots → ts ≡ g'.robots → ((r : ℕ) → number_of ns r ≡ g.number h.name r) → ((r : ℕ) → number_of ms r ≡ g'.number h.name r) → AreTurns (addresses ss) h ss ts ns ms es → HasTurnedAs g g' h es
turned_as g g' h ss ts ns ms es before after from to turns = record {
  length = ap length (sym after) ∙ turns.length ∙ ap length before;
  turned = λ r s t e f. subst (λ robots. IsTurnOf (addresses robots) h r s t (g.number h.name r) (g'.number h.name r) (of_robot r es)) before (turn_moved (turns.turned r s t (ap (λ z. slice_get z r) before ∙ e) (ap (λ z. slice_get z r) after ∙ f)) refl refl (from r) (to r) refl);
}

pub stays_there : (b : Bool) (shown : List Answered) (here : Bool) → StayedFrom b shown here → here ≡ true → b ≡ true
stays_there true shown here s e = refl
stays_there false shown here s e = absurd (true≢false (sym e ∙ s.1))

pub record IsBoth (g : HostOf) (r : ℕ) : Type 0 where
  pub robot : RobotOf
  pub at : slice_get g.robots r ≡ Some robot

pub was_there : (g g' : HostOf) (h : HistoryOf) (es : List RobotEdit) → HasTurnedAs g g' h es → (r : ℕ) (t : RobotOf) → slice_get g'.robots r ≡ Some t → IsBoth g r
was_there g g' h es turns r t f =
    let w = slice_get_within g'.robots r t f in
    let e = turns.length in
    let x = there_at g.robots r (omega (arith, w, e)) in
    record { robot = x.0; at = x.1 }

pub there_before : (g g' : HostOf) (h : HistoryOf) (es : List RobotEdit) → HasTurnedAs g g' h es → (r : ℕ) → is_there g'.robots r ≡ true → is_there g.robots r ≡ true
there_before g g' h es turns r there = go (slice_get g'.robots r) refl
  where
    go : (o : Option RobotOf) → slice_get g'.robots r ≡ o → is_there g.robots r ≡ true
    go None f = absurd (true≢false (sym there ∙ ap (λ o. option_map_or (λ (z : RobotOf). z.here) o false) f))
    go (Some t) f =
        let s = was_there g g' h es turns r t f in
        let here : t.here ≡ true = sym (ap (λ o. option_map_or (λ (z : RobotOf). z.here) o false) f) ∙ there in
        let turn = turns.turned r s.robot t s.at f in
        ap (λ o. option_map_or (λ (z : RobotOf). z.here) o false) s.at ∙ stays_there s.robot.here turn.shown t.here turn.stayed here

pub turned_all : (g g' : HostOf) (h : HistoryOf) (es all : List RobotEdit) → HasTurnedAs g g' h es → all ≡ filter (is_of_there g'.robots) (g.edits h.name ++ es) → HasTurned g h g' all
turned_all g g' h es all turns edits = record {
  answered = es;
  turns = turns;
  edits = edits ∙ filter-append (is_of_there g'.robots) (g.edits h.name) es ∙ ap (λ z. z ++ filter (is_of_there g'.robots) es) (kept_still g.robots g'.robots (there_before g g' h es turns) (g.edits h.name)) ∙ sym (filter-append (is_of_there g'.robots) (kept g h.name) es);
}

-- ---- the conditions of the next turn

same_list : (xs ys : List Key) → length ys ≡ length xs → ((r : ℕ) (x y : Key) → slice_get xs r ≡ Some x → slice_get ys r ≡ Some y → y ≡ x) → ys ≡ xs
same_list [] [] l h = refl
same_list [] (y ∷ ys) l h = absurd (let e : suc (length ys) ≡ 0 = l in omega (arith, e))
same_list (x ∷ xs) [] l h = absurd (let e : 0 ≡ suc (length xs) = l in omega (arith, e))
same_list (x ∷ xs) (y ∷ ys) l h = λ i. h 0 x y refl refl i ∷ same_list xs ys (let e : suc (length ys) ≡ suc (length xs) = l in omega (arith, e)) (λ r. h (suc r)) i

mapped_at : {A B : Type 0} (f : A → B) (xs : List A) (r : ℕ) (y : B) → slice_get (map f xs) r ≡ Some y → (x : A) × (slice_get xs r ≡ Some x) × (f x ≡ y)
mapped_at f [] r y e = no_value e
mapped_at f (x ∷ xs) zero y e = (x, refl, same_Some e)
mapped_at f (x ∷ xs) (suc r) y e = mapped_at f xs r y e

pub addresses_stay : (g g' : HostOf) (h : HistoryOf) (es : List RobotEdit) → HasTurnedAs g g' h es → addresses g'.robots ≡ addresses g.robots
addresses_stay g g' h es turns = same_list (addresses g.robots) (addresses g'.robots) (length-map g'.robots (λ (s : RobotOf). s.address) ∙ turns.length ∙ sym (length-map g.robots (λ (s : RobotOf). s.address)))
    (λ r x y e f.
    let s = mapped_at (λ (z : RobotOf). z.address) g.robots r x e in
    let t = mapped_at (λ (z : RobotOf). z.address) g'.robots r y f in
    sym t.2 ∙ ap (λ (z : RobotOf). z.address) (turns.turned r s.0 t.0 s.1 t.1).robot ∙ s.2)

given_calls : (name : Key) (xs : List Answered) → given_in name (map (call_of name) xs) ≡ given_by (map (λ x. x.seen) xs)
given_calls name [] = refl
given_calls name (x ∷ xs) = ap (λ b. map (λ (c : Call). (c.delta, c.state)) (cond b (call_of name x ∷ filter (λ (c : Call). same_text c.name name) (map (call_of name) xs)) (filter (λ (c : Call). same_text c.name name) (map (call_of name) xs)))) (same_text_itself name) ∙ ap (λ z. (x.seen.delta, x.seen.after.state) ∷ z) (given_calls name xs)

pub given_more : (name : Key) (xs ys : List Call) → given_in name (xs ++ ys) ≡ given_in name xs ++ given_in name ys
given_more name xs ys = ap (map (λ (c : Call). (c.delta, c.state))) (filter-append (λ (c : Call). same_text c.name name) xs ys) ∙ map-append (λ (c : Call). (c.delta, c.state)) (filter (λ (c : Call). same_text c.name name) xs) (filter (λ (c : Call). same_text c.name name) ys)

shown_more : (name : Key) (before now : List Call) (v w : List Seen) (xs : List Answered) → v ++ map (λ x. x.seen) xs ≡ w → WasShown before now name v → WasShown before (now ++ map (call_of name) xs) name w
shown_more name before now v w xs more was = record {
  since = was.since ++ map (call_of name) xs;
  whole = sym (append_assoc before was.since (map (call_of name) xs)) ∙ ap (λ z. z ++ map (call_of name) xs) was.whole;
  given = given_more name was.since (map (call_of name) xs) ∙ ap (λ z. z ++ given_in name (map (call_of name) xs)) was.given ∙ ap (λ z. given_by v ++ z) (given_calls name xs) ∙ sym (map-append (λ (x : Seen). (x.delta, x.after.state)) v (map (λ x. x.seen) xs)) ∙ ap given_by more;
}

told_more : (name : Key) (before now : Option (List Call)) (v w : List Seen) (xs : List Answered) → v ++ map (λ x. x.seen) xs ≡ w → IfSome before (λ b. IfSome now (λ n. WasShown b n name v)) → IfSome before (λ b. IfSome (with_calls now (map (call_of name) xs)) (λ n. WasShown b n name w))
told_more name None now v w xs more told = tt
told_more name (Some b) None v w xs more told = tt
told_more name (Some b) (Some n) v w xs more told = shown_more name b n v w xs more told

pub may_again : (g g' : HostOf) (h : HistoryOf) (es : List RobotEdit) → HasTurnedAs g g' h es → MayTurn g h → MayTurn g' h
may_again g g' h es turns may r t f here =
    let s = was_there g g' h es turns r t f in
    let turn = turns.turned r s.robot t s.at f in
    let was = may r s.robot s.at (stays_there s.robot.here turn.shown t.here turn.stayed here) in
    let address : t.address ≡ s.robot.address = ap (λ (z : RobotOf). z.address) turn.robot in
    let before : t.before ≡ s.robot.before = ap (λ (z : RobotOf). z.before) turn.robot in
    let calls : t.calls ≡ with_calls s.robot.calls (map (call_of h.name) turn.shown) = ap (λ (z : RobotOf). z.calls) turn.robot in
    let told = told_more h.name s.robot.before s.robot.calls (view (addresses g.robots) s.robot.address h (g.number h.name r)) (view (addresses g.robots) s.robot.address h (g'.number h.name r)) turn.shown turn.view was.calls in
    record {
      within = turn.within was.within;
      calls = subst (λ z. z) (λ i. IfSome (sym before i) (λ b. IfSome (sym calls i) (λ n. WasShown b n h.name (view (sym (addresses_stay g g' h es turns) i) (sym address i) h (g'.number h.name r))))) told;
    }

-- ---- as results tell it

pub always_err : {A E : Type 0} {P : Type 0} (r : Result A E) → P → OnErr r P
always_err (Ok x) p = tt
always_err (Err e) p = p

pub none_turned_yet : (robots : List Key) (h : HistoryOf) (ss : List RobotOf) (ns ms : List ℕ) (es es' : List RobotEdit) → ((r : ℕ) → number_of ms r ≡ number_of ns r) → es' ≡ es → HaveTurned robots h ss ss ns ms es es'
none_turned_yet robots h ss ns ms es es' same edits = record { answered = []; turns = idle robots h ss ns ms same; edits = edits ∙ sym (append-nil es) }
