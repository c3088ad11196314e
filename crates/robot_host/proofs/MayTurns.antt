-- When a turn may be taken.
--     new_may_turn           by a new host
--     same_view              what a longer history has of a view
--     longer_may_turn        over a longer history
--     others_may_turn        over another wavelet's history
use Rattle.std.proofs.Common.{◌≡◌, ◌≢◌, ℕ, ◌+◌, ◌≤◌, arith, Bool, true, false, cond, List, [], ◌∷◌, ◌++◌, length, map, take, Option, Some, None, IfSome, refl, sym, ap, subst, ◌∙◌, append_assoc, append-nil}
use Rattle.std.specs.List.{filter}
use Rattle.std.proofs.lemmas.List.{length-append, take-append-le}
use Rattle.doc_items.specs.Maps.{Key, same_text}
use Rattle.wavelet_op.specs.Deltas.{DeltaOf}
use Rattle.wavelet_op.proofs.Maps.{same_text_is}
use Rattle.delta_history.specs.Histories.{HistoryOf}
use Rattle.delta_history.specs.Points.{start}
use Rattle.robot_host.specs.Calls.{Call, given_in}
use Rattle.robot_host.specs.Laws.{NewMayTurn, LongerMayTurn, OthersMayTurn}
use Rattle.robot_host.specs.Reactions.{Answered, call_of, with_calls}
use Rattle.robot_host.specs.Robots.{RobotOf, addresses}
use Rattle.robot_host.specs.Turns.{WasShown, IsShown}
use Rattle.robot_host.specs.Views.{Seen, seen_from, is_shown, view}
use Rattle.robot_host.proofs.HostTurns.{was_there, stays_there, addresses_stay, given_more}

fresh_told : (name : Key) (before now : Option (List Call)) → now ≡ before → IfSome before (λ b. IfSome now (λ n. WasShown b n name []))
fresh_told name None now e = tt
fresh_told name (Some b) now e = subst (λ z. IfSome z (λ n. WasShown b n name [])) (sym e) (record { since = []; whole = append-nil b; given = refl })

pub new_may_turn : NewMayTurn
new_may_turn g h new r s at here =
    let none : g.number h.name r ≡ 0 = new.numbers h.name r in
    subst (IsShown (addresses g.robots) h s) (sym none) (record { within = omega arith; calls = fresh_told h.name s.before s.calls (new.fresh r s at) })

pub same_view : (robots : List Key) (a : Key) (h k : HistoryOf) (more : List DeltaOf) (n : ℕ) → k.name ≡ h.name → k.deltas ≡ h.deltas ++ more → n ≤ length h.deltas → view robots a k n ≡ view robots a h n
same_view robots a h k more n name longer within =
    ap (λ z. filter (is_shown robots a) (seen_from (start z) (take n k.deltas))) name ∙ ap (λ z. filter (is_shown robots a) (seen_from (start h.name) z)) (ap (take n) longer ∙ take-append-le n h.deltas more within)

pub longer_may_turn : LongerMayTurn
longer_may_turn g h k more name longer may r s at here =
    let was = may r s at here in
    let number : g.number k.name r ≡ g.number h.name r = ap (λ z. g.number z r) name in
    let long : length k.deltas ≡ length h.deltas + length more = ap length longer ∙ length-append h.deltas more in
    let within = was.within in
    subst (IsShown (addresses g.robots) k s) (sym number) (record {
      within = omega (arith, long, within);
      calls = subst (λ z. z) (λ i. IfSome s.before (λ b. IfSome s.calls (λ n. WasShown b n (sym name i) (sym (same_view (addresses g.robots) s.address h k more (g.number h.name r) name longer was.within) i)))) was.calls;
    })

-- ---- calls of another wavelet

no_calls : (name other : Key) (xs : List Answered) → other ≢ name → given_in other (map (call_of name) xs) ≡ []
no_calls name other [] apart = refl
no_calls name other (x ∷ xs) apart = go (no_calls name other xs apart) (same_text name other) refl
  where
    go : given_in other (map (call_of name) xs) ≡ [] → (b : Bool) → same_text name other ≡ b → given_in other (map (call_of name) (x ∷ xs)) ≡ []
    go rest true e = absurd (apart (sym (same_text_is name other e)))
    go rest false e = ap (λ b. map (λ (c : Call). (c.delta, c.state)) (cond b (call_of name x ∷ filter (λ (c : Call). same_text c.name other) (map (call_of name) xs)) (filter (λ (c : Call). same_text c.name other) (map (call_of name) xs)))) e ∙ rest

apart_told : (name other : Key) (before now : Option (List Call)) (v : List Seen) (xs : List Answered) → other ≢ name → IfSome before (λ b. IfSome now (λ n. WasShown b n other v)) → IfSome before (λ b. IfSome (with_calls now (map (call_of name) xs)) (λ n. WasShown b n other v))
apart_told name other None now v xs apart told = tt
apart_told name other (Some b) None v xs apart told = tt
apart_told name other (Some b) (Some n) v xs apart told = record {
  since = told.since ++ map (call_of name) xs;
  whole = sym (append_assoc b told.since (map (call_of name) xs)) ∙ ap (λ z. z ++ map (call_of name) xs) told.whole;
  given = given_more other told.since (map (call_of name) xs) ∙ ap (λ z. given_in other told.since ++ z) (no_calls name other xs apart) ∙ append-nil _ ∙ told.given;
}

pub others_may_turn : OthersMayTurn
others_may_turn g g' h k all turned others apart may r t f here =
    let s = was_there g g' h turned.answered turned.turns r t f in
    let turn = turned.turns.turned r s.robot t s.at f in
    let was = may r s.robot s.at (stays_there s.robot.here turn.shown t.here turn.stayed here) in
    let number : g'.number k.name r ≡ g.number k.name r = others.numbers k.name r apart in
    let address : t.address ≡ s.robot.address = ap (λ (z : RobotOf). z.address) turn.robot in
    let before : t.before ≡ s.robot.before = ap (λ (z : RobotOf). z.before) turn.robot in
    let calls : t.calls ≡ with_calls s.robot.calls (map (call_of h.name) turn.shown) = ap (λ (z : RobotOf). z.calls) turn.robot in
    let told = apart_told h.name k.name s.robot.before s.robot.calls (view (addresses g.robots) s.robot.address k (g.number k.name r)) turn.shown apart was.calls in
    subst (IsShown (addresses g'.robots) k t) (sym number) (record {
      within = was.within;
      calls = subst (λ z. z) (λ i. IfSome (sym before i) (λ b. IfSome (sym calls i) (λ n. WasShown b n k.name (view (sym (addresses_stay g g' h turned.answered turned.turns) i) (sym address i) k (g.number k.name r))))) told;
    })
