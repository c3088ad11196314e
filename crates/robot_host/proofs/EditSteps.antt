-- What robots answered, step by step.
--     answered_new         new robots answered nothing
--     answered_longer      over a longer history, where more is so of submissions
--     answered_fewer       where robots were dropped
--     answered_turn        after a turn over the history, of whose edits it is so
--     answered_apart       after one over another wavelet's history
--     answered_alike       over an equal history
--     answered_round       after a round, of whose edits it is so
--     answered_all         where nothing is left
use Rattle.std.proofs.Common.{◌≡◌, ◌≢◌, ◌⊎◌, inl, inr, ℕ, zero, suc, arith, Contains, Bool, true, false, cond, List, [], ◌∷◌, ◌++◌, map, take, ◌==◌, Option, Some, None, IfSome, refl, sym, ap, subst, ◌∙◌, append_assoc, append-nil, true≢false}
use Rattle.std.specs.List.{filter, AllByRecursion}
use Rattle.std.specs.Option.{option_map_or}
use Rattle.std.proofs.lemmas.Bool.{eqb-true}
use Rattle.std.proofs.lemmas.List.{map-append}
use Rattle.std.proofs.lemmas.List.Elements.{filter-append}
use Rattle.doc_items.specs.Maps.{Key, same_text}
use Rattle.wavelet_op.specs.Deltas.{DeltaOf}
use Rattle.wavelet_op.specs.declared.delta.Submission.{Submission}
use Rattle.wavelet_op.proofs.Maps.{same_text_itself}
use Rattle.delta_history.specs.Histories.{HistoryOf}
use Rattle.delta_history.specs.Points.{Point, start, next_point}
use Rattle.robot_host.specs.declared.edit.RobotEdit.{RobotEdit}
use Rattle.robot_host.specs.Calls.{Call}
use Rattle.robot_host.specs.Edits.{calls_in, WasAnswered, HasAnswered, AreAnswered, HaveAnsweredAll}
use Rattle.robot_host.specs.Hosts.{HostOf, kept, IsNew, MayTurn, IsSettled, AreFewer}
use Rattle.robot_host.specs.Reactions.{Answered, edit_of, edits_of, call_of, with_calls}
use Rattle.robot_host.specs.Robots.{RobotOf, addresses}
use Rattle.robot_host.specs.Rounds.{IsTurn, IsRound}
use Rattle.robot_host.specs.Turns.{is_there, is_of_there, of_robot}
use Rattle.robot_host.specs.Views.{Seen, seen_from, is_shown, view}
use Rattle.robot_host.proofs.HostTurns.{was_there, stays_there, addresses_stay}
use Rattle.robot_host.proofs.MayTurns.{same_view}
use Rattle.robot_host.proofs.RoundSteps.{AreAlike, none_of, same_or_not, after_turn}

-- ---- lists

all_more : {A : Type 0} (P : A → Type 0) (xs ys : List A) → AllByRecursion P xs → AllByRecursion P ys → AllByRecursion P (xs ++ ys)
all_more P [] ys p q = q
all_more P (x ∷ xs) ys p q = (p.0, all_more P xs ys p.1 q)

all_weaker : {A : Type 0} (P Q : A → Type 0) → ((x : A) → P x → Q x) → (xs : List A) → AllByRecursion P xs → AllByRecursion Q xs
all_weaker P Q f [] p = tt
all_weaker P Q f (x ∷ xs) p = (f x p.0, all_weaker P Q f xs p.1)

all_left : {A : Type 0} (P : A → Type 0) (q : A → Bool) (xs : List A) → AllByRecursion P xs → AllByRecursion P (filter q xs)
all_left P q [] p = tt
all_left P q (x ∷ xs) p = go (q x) (all_left P q xs p.1)
  where
    go : (b : Bool) → AllByRecursion P (filter q xs) → AllByRecursion P (cond b (x ∷ filter q xs) (filter q xs))
    go true rest = (p.0, rest)
    go false rest = rest

-- the edits of a robot that is there are among those of robots that are there
robot_left : (robots : List RobotOf) (r : ℕ) → is_there robots r ≡ true → (es : List RobotEdit) → of_robot r es ≡ of_robot r (filter (is_of_there robots) es)
robot_left robots r there [] = refl
robot_left robots r there (e ∷ es) = go (robot_left robots r there es) (e.robot == r) refl (is_there robots e.robot) refl
  where
    go : of_robot r es ≡ of_robot r (filter (is_of_there robots) es) → (a : Bool) → (e.robot == r) ≡ a → (b : Bool) → is_there robots e.robot ≡ b
        → cond (e.robot == r) (e ∷ of_robot r es) (of_robot r es) ≡ of_robot r (cond (is_there robots e.robot) (e ∷ filter (is_of_there robots) es) (filter (is_of_there robots) es))
    go rest a f true g = ap (cond (e.robot == r) (e ∷ of_robot r es)) rest ∙ (λ i. cond (e.robot == r) (e ∷ rest i) (of_robot r (filter (is_of_there robots) es))) ∙ ap (λ b. of_robot r (cond b (e ∷ filter (is_of_there robots) es) (filter (is_of_there robots) es))) (sym g)
    go rest true f false g = absurd (true≢false (sym (ap (is_there robots) (eqb-true e.robot r f) ∙ there) ∙ g))
    go rest false f false g = ap (λ a. cond a (e ∷ of_robot r es) (of_robot r es)) f ∙ rest ∙ ap (λ b. of_robot r (cond b (e ∷ filter (is_of_there robots) es) (filter (is_of_there robots) es))) (sym g)

-- ---- one robot

fresh_answered : (name : Key) (before now : Option (List Call)) → now ≡ before → IfSome before (λ b. IfSome now (λ n. WasAnswered b n name []))
fresh_answered name None now e = tt
fresh_answered name (Some b) now e = subst (λ z. IfSome z (λ n. WasAnswered b n name [])) (sym e) (record { since = []; whole = append-nil b; given = refl })

own_calls : (name : Key) (xs : List Answered) → calls_in name (map (call_of name) xs) ≡ map (call_of name) xs
own_calls name [] = refl
own_calls name (x ∷ xs) = ap (λ b. cond b (call_of name x ∷ calls_in name (map (call_of name) xs)) (calls_in name (map (call_of name) xs))) (same_text_itself name) ∙ ap (λ z. call_of name x ∷ z) (own_calls name xs)

calls_more : (name : Key) (before now : Option (List Call)) (xs ys : List Answered) → IfSome before (λ b. IfSome now (λ n. WasAnswered b n name xs)) → IfSome before (λ b. IfSome (with_calls now (map (call_of name) ys)) (λ n. WasAnswered b n name (xs ++ ys)))
calls_more name None now xs ys told = tt
calls_more name (Some b) None xs ys told = tt
calls_more name (Some b) (Some n) xs ys told = record {
  since = told.since ++ map (call_of name) ys;
  whole = sym (append_assoc b told.since (map (call_of name) ys)) ∙ ap (λ z. z ++ map (call_of name) ys) told.whole;
  given = filter-append (λ (c : Call). same_text c.name name) told.since (map (call_of name) ys) ∙ ap (λ z. z ++ calls_in name (map (call_of name) ys)) told.given ∙ ap (λ z. map (call_of name) xs ++ z) (own_calls name ys) ∙ sym (map-append (call_of name) xs ys);
}

calls_apart : (name other : Key) (before now : Option (List Call)) (xs ys : List Answered) → other ≢ name → IfSome before (λ b. IfSome now (λ n. WasAnswered b n other xs)) → IfSome before (λ b. IfSome (with_calls now (map (call_of name) ys)) (λ n. WasAnswered b n other xs))
calls_apart name other None now xs ys apart told = tt
calls_apart name other (Some b) None xs ys apart told = tt
calls_apart name other (Some b) (Some n) xs ys apart told = record {
  since = told.since ++ map (call_of name) ys;
  whole = sym (append_assoc b told.since (map (call_of name) ys)) ∙ ap (λ z. z ++ map (call_of name) ys) told.whole;
  given = filter-append (λ (c : Call). same_text c.name other) told.since (map (call_of name) ys) ∙ ap (λ z. calls_in other told.since ++ z) (none_of name other ys apart) ∙ append-nil _ ∙ told.given;
}

-- ---- what is so of answers

abbrev pub Each : (DeltaOf → Submission → Type 0) → ℕ → Key → List Answered → Type 0
Each P r a xs = AllByRecursion (λ x. AllByRecursion (λ e. P x.seen.delta e.submission) (edit_of r a x.seen x.answer)) xs

all_front : {A : Type 0} (P : A → Type 0) (xs ys : List A) → AllByRecursion P (xs ++ ys) → AllByRecursion P xs
all_front P [] ys p = tt
all_front P (x ∷ xs) ys p = (p.0, all_front P xs ys p.1)

all_back : {A : Type 0} (P : A → Type 0) (xs ys : List A) → AllByRecursion P (xs ++ ys) → AllByRecursion P ys
all_back P [] ys p = p
all_back P (x ∷ xs) ys p = all_back P xs ys p.1

-- each delta of a view is one of the history's
in_more : (x y : DeltaOf) (ds : List DeltaOf) → Contains ds x → Contains (y ∷ ds) x
in_more x y ds at = let below = at.1 in (suc at.0, omega (arith, below), at.2)

in_taken : (x : DeltaOf) (n : ℕ) (ds : List DeltaOf) → Contains (take n ds) x → Contains ds x
in_taken x zero ds at = let below = at.1 in absurd (omega (arith, below))
in_taken x (suc n) [] at = at
in_taken x (suc n) (y ∷ ds) (zero, below, e) = (zero, omega arith, e)
in_taken x (suc n) (y ∷ ds) (suc i, below, e) = in_more x y ds (in_taken x n ds (i, omega (arith, below), e))

seen_in : (p : Point) (ds : List DeltaOf) → AllByRecursion (λ (x : Seen). Contains ds x.delta) (seen_from p ds)
seen_in p [] = tt
seen_in p (d ∷ ds) = go (next_point p d) (λ q. seen_in q ds)
  where
    go : (o : Option Point) → ((q : Point) → AllByRecursion (λ (x : Seen). Contains ds x.delta) (seen_from q ds)) → AllByRecursion (λ (x : Seen). Contains (d ∷ ds) x.delta) (option_map_or (λ q. record { delta = d; after = q } ∷ seen_from q ds) o [])
    go None rest = tt
    go (Some q) rest = ((0, omega arith, refl), all_weaker (λ (x : Seen). Contains ds x.delta) (λ (x : Seen). Contains (d ∷ ds) x.delta) (λ x at. in_more x.delta d ds at) (seen_from q ds) (rest q))

view_in : (robots : List Key) (a : Key) (h : HistoryOf) (m : ℕ) → AllByRecursion (λ (x : Seen). Contains h.deltas x.delta) (view robots a h m)
view_in robots a h m =
    let front = seen_from (start h.name) (take m h.deltas) in
    all_left (λ (x : Seen). Contains h.deltas x.delta) (is_shown robots a) front
    (all_weaker (λ (x : Seen). Contains (take m h.deltas) x.delta) (λ (x : Seen). Contains h.deltas x.delta) (λ x at. in_taken x.delta m h.deltas at) front (seen_in (start h.name) (take m h.deltas)))

-- edits of which something is so, with the deltas that they answer
each_judged : (J : Submission → Type 0) (Q : DeltaOf → Submission → Type 0) (ds : List DeltaOf) → ((x : DeltaOf) (s : Submission) → Contains ds x → J s → Q x s) → (r : ℕ) (a : Key) (xs : List Answered)
    → AllByRecursion (λ (x : Seen). Contains ds x.delta) (map (λ x. x.seen) xs) → AllByRecursion (λ e. J e.submission) (edits_of r a xs) → Each Q r a xs
each_judged J Q ds f r a [] there judged = tt
each_judged J Q ds f r a (x ∷ xs) there judged =
    let own = edit_of r a x.seen x.answer in (
      all_weaker (λ (e : RobotEdit). J e.submission) (λ (e : RobotEdit). Q x.seen.delta e.submission) (λ e j. f x.seen.delta e.submission there.0 j) own (all_front (λ (e : RobotEdit). J e.submission) own (edits_of r a xs) judged),
      each_judged J Q ds f r a xs there.1 (all_back (λ (e : RobotEdit). J e.submission) own (edits_of r a xs) judged),
    )

module _ (P Q : DeltaOf → Submission → Type 0) (more : (x : DeltaOf) (s : Submission) → P x s → Q x s) where
  each_weaker : (r : ℕ) (a : Key) (xs : List Answered) → Each P r a xs → Each Q r a xs
  each_weaker r a xs = all_weaker (λ (x : Answered). AllByRecursion (λ (e : RobotEdit). P x.seen.delta e.submission) (edit_of r a x.seen x.answer)) (λ (x : Answered). AllByRecursion (λ (e : RobotEdit). Q x.seen.delta e.submission) (edit_of r a x.seen x.answer))
      (λ x. all_weaker (λ (e : RobotEdit). P x.seen.delta e.submission) (λ (e : RobotEdit). Q x.seen.delta e.submission) (λ e. more x.seen.delta e.submission) (edit_of r a x.seen x.answer)) xs

  -- ---- a longer history

  pub answered_longer : (g : HostOf) (h k : HistoryOf) (ds : List DeltaOf) → k.name ≡ h.name → k.deltas ≡ h.deltas ++ ds → MayTurn g h → AreAnswered P g h → AreAnswered Q g k
  answered_longer g h k ds name longer may all = record {
    each = λ r s at here.
        let a = all.each r s at here in
        let within = (may r s at here).within in
        let number : g.number k.name r ≡ g.number h.name r = ap (λ z. g.number z r) name in
        subst (HasAnswered Q (addresses g.robots) k r s) (sym number) (record {
          answered = a.answered;
          seen = a.seen ∙ sym (same_view (addresses g.robots) s.address h k ds (g.number h.name r) name longer within);
          calls = subst (λ z. IfSome s.before (λ b. IfSome s.calls (λ n. WasAnswered b n z a.answered))) (sym name) a.calls;
          edits = each_weaker r s.address a.answered a.edits;
        });
    none_kept = ap (kept g) name ∙ all.none_kept;
  }

  pub answered_alike : (g : HostOf) (h k : HistoryOf) → k.name ≡ h.name → k.deltas ≡ h.deltas → MayTurn g h → AreAnswered P g h → AreAnswered Q g k
  answered_alike g h k name deltas may all = answered_longer g h k [] name (deltas ∙ sym (append-nil h.deltas)) may all

  -- ---- a turn over the history

  pub answered_turn : (J : Submission → Type 0) (g g' : HostOf) (h : HistoryOf) (es : List RobotEdit) → IsTurn g h g' es → ((x : DeltaOf) (s : Submission) → Contains h.deltas x → J s → Q x s) → AllByRecursion (λ e. J e.submission) es
      → AreAnswered P g h → AreAnswered Q g' h
  answered_turn J g g' h es turn judge judged all = record {
    each = λ r t f here.
        let turned = turn.turned in
        let s = was_there g g' h turned.answered turned.turns r t f in
        let one = turned.turns.turned r s.robot t s.at f in
        let a = all.each r s.robot s.at (stays_there s.robot.here one.shown t.here one.stayed here) in
        let address : t.address ≡ s.robot.address = ap (λ (z : RobotOf). z.address) one.robot in
        let before : t.before ≡ s.robot.before = ap (λ (z : RobotOf). z.before) one.robot in
        let calls : t.calls ≡ with_calls s.robot.calls (map (call_of h.name) one.shown) = ap (λ (z : RobotOf). z.calls) one.robot in
        let robots = addresses_stay g g' h turned.answered turned.turns in
        let there : is_there g'.robots r ≡ true = ap (λ o. option_map_or (λ (z : RobotOf). z.here) o false) f ∙ here in
        let given : filter (is_of_there g'.robots) turned.answered ≡ es = sym (turned.edits ∙ ap (λ z. filter (is_of_there g'.robots) (z ++ turned.answered)) all.none_kept) in
        let mine : of_robot r turned.answered ≡ of_robot r es = robot_left g'.robots r there turned.answered ∙ ap (of_robot r) given in
        let there_all = all_back (λ (x : Seen). Contains h.deltas x.delta) (view (addresses g.robots) s.robot.address h (g.number h.name r)) (map (λ (x : Answered). x.seen) one.shown) (subst (AllByRecursion (λ (x : Seen). Contains h.deltas x.delta)) (sym one.view) (view_in (addresses g.robots) s.robot.address h (g'.number h.name r))) in
        let shown_edits : edits_of r s.robot.address one.shown ≡ of_robot r es = sym one.edits ∙ mine in
        record {
          answered = a.answered ++ one.shown;
          seen = map-append (λ (x : Answered). x.seen) a.answered one.shown ∙ ap (λ z. z ++ map (λ (x : Answered). x.seen) one.shown) a.seen ∙ one.view ∙ (λ i. view (sym robots i) (sym address i) h (g'.number h.name r));
          calls = subst (λ z. z) (λ i. IfSome (sym before i) (λ b. IfSome (sym calls i) (λ n. WasAnswered b n h.name (a.answered ++ one.shown)))) (calls_more h.name s.robot.before s.robot.calls a.answered one.shown a.calls);
          edits = subst (λ z. Each Q r z (a.answered ++ one.shown)) (sym address)
              (all_more (λ (x : Answered). AllByRecursion (λ (e : RobotEdit). Q x.seen.delta e.submission) (edit_of r s.robot.address x.seen x.answer)) a.answered one.shown (each_weaker r s.robot.address a.answered a.edits)
              (each_judged J Q h.deltas judge r s.robot.address one.shown there_all (subst (AllByRecursion (λ e. J e.submission)) (sym shown_edits) (all_left (λ (e : RobotEdit). J e.submission) (λ e. e.robot == r) es judged))));
        };
    none_kept = turn.settled.none_kept;
  }

  -- ---- over another wavelet's

  pub answered_apart : (g g' : HostOf) (h k : HistoryOf) (es : List RobotEdit) → IsTurn g h g' es → k.name ≢ h.name → AreAnswered P g k → AreAnswered Q g' k
  answered_apart g g' h k es turn apart all = record {
    each = λ r t f here.
        let turned = turn.turned in
        let s = was_there g g' h turned.answered turned.turns r t f in
        let one = turned.turns.turned r s.robot t s.at f in
        let a = all.each r s.robot s.at (stays_there s.robot.here one.shown t.here one.stayed here) in
        let address : t.address ≡ s.robot.address = ap (λ (z : RobotOf). z.address) one.robot in
        let before : t.before ≡ s.robot.before = ap (λ (z : RobotOf). z.before) one.robot in
        let calls : t.calls ≡ with_calls s.robot.calls (map (call_of h.name) one.shown) = ap (λ (z : RobotOf). z.calls) one.robot in
        let robots = addresses_stay g g' h turned.answered turned.turns in
        let number : g'.number k.name r ≡ g.number k.name r = turn.others.numbers k.name r apart in
        subst (HasAnswered Q (addresses g'.robots) k r t) (sym number) (record {
          answered = a.answered;
          seen = a.seen ∙ (λ i. view (sym robots i) (sym address i) k (g.number k.name r));
          calls = subst (λ z. z) (λ i. IfSome (sym before i) (λ b. IfSome (sym calls i) (λ n. WasAnswered b n k.name a.answered))) (calls_apart h.name k.name s.robot.before s.robot.calls a.answered one.shown apart a.calls);
          edits = subst (λ z. Each Q r z a.answered) (sym address) (each_weaker r s.robot.address a.answered a.edits);
        });
    none_kept = turn.others.edits k.name apart ∙ ap (filter (is_of_there g'.robots)) all.none_kept;
  }

-- ---- new robots, and fewer

module _ (P : DeltaOf → Submission → Type 0) where
  pub answered_new : (g : HostOf) (h : HistoryOf) → IsNew g → AreAnswered P g h
  answered_new g h new = record {
    each = λ r s at here. subst (HasAnswered P (addresses g.robots) h r s) (sym (new.numbers h.name r)) (record { answered = []; seen = refl; calls = fresh_answered h.name s.before s.calls (new.fresh r s at); edits = tt });
    none_kept = ap (filter (is_of_there g.robots)) (new.edits h.name);
  }

  pub answered_fewer : (g g' : HostOf) (h : HistoryOf) → AreFewer g g' → AreAnswered P g h → AreAnswered P g' h
  answered_fewer g g' h w all = record {
    each = λ r t f here. subst (λ z. HasAnswered P z h r t (g'.number h.name r)) (sym w.addresses) (subst (HasAnswered P (addresses g.robots) h r t) (sym (w.numbers h.name r)) (all.each r t (w.robots r t f here) here));
    none_kept = w.edits h.name ∙ ap (filter (is_of_there g'.robots)) all.none_kept;
  }

  pub answered_all : (g : HostOf) (h : HistoryOf) → IsSettled g h → AreAnswered P g h → HaveAnsweredAll P g h
  answered_all g h settled all r s at here = subst (HasAnswered P (addresses g.robots) h r s) (settled.through r s at here) (all.each r s at here)

-- ---- rounds

module _ (J : Submission → Type 0) (P Q : DeltaOf → Submission → Type 0) (more : (x : DeltaOf) (s : Submission) → P x s → Q x s) where
  after_one : (k h : HistoryOf) (g g' : HostOf) (es : List RobotEdit) → (k.name ≡ h.name → k.deltas ≡ h.deltas) → IsTurn g h g' es → ((x : DeltaOf) (s : Submission) → Contains k.deltas x → J s → Q x s)
      → (k.name ≡ h.name → AllByRecursion (λ e. J e.submission) es) → MayTurn g k → AreAnswered P g k → AreAnswered Q g' k
  after_one k h g g' es alike turn judge judged may all = go (same_or_not k.name h.name)
    where
      go : (k.name ≡ h.name) ⊎ (k.name ≢ h.name) → AreAnswered Q g' k
      go (inl e) =
          let here = answered_alike P P (λ x s p. p) g k h (sym e) (sym (alike e)) may all in
          answered_alike Q Q (λ x s p. p) g' h k e (alike e) turn.may (answered_turn P Q more J g g' h es turn (λ x s at. judge x s (subst (λ z. Contains z x) (sym (alike e)) at)) (judged e) here)
      go (inr ne) = answered_apart P Q more g g' h k es turn ne all

pub answered_round : (J : Submission → Type 0) (P Q : DeltaOf → Submission → Type 0) → ((x : DeltaOf) (s : Submission) → P x s → Q x s) → (k : HistoryOf) (hs : List HistoryOf) (g g' : HostOf) (o : Option Key) (es : List RobotEdit)
    → AreAlike k hs → IsRound g hs g' o es → ((x : DeltaOf) (s : Submission) → Contains k.deltas x → J s → Q x s) → (o ≡ Some k.name → AllByRecursion (λ e. J e.submission) es) → MayTurn g k → AreAnswered P g k → AreAnswered Q g' k
answered_round J P Q more k [] g g' o es alike r judge judged may all = subst (λ z. AreAnswered Q z k) (sym r.0) (answered_alike P Q more g k k refl refl may all)
answered_round J P Q more k (h ∷ hs) g g' o es alike (inl e) judge judged may all = after_one J P Q more k h g g' es alike.0 e.turn judge (λ same. judged (e.name ∙ ap Some (sym same))) may all
answered_round J P Q more k (h ∷ hs) g g' o es alike (inr r) judge judged may all =
    answered_round J P Q more k hs r.0 g' o es alike.1 r.2 judge judged (after_turn k h g r.0 [] alike.0 r.1.turned r.1.may r.1.others may)
    (after_one (λ s. ⊥) P P (λ x s p. p) k h g r.0 [] alike.0 r.1 (λ x s at none. absurd none) (λ e. tt) may all)
