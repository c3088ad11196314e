-- A turn's clauses, from what is known of one wavelet.
--     host_of               a host of these robots and wavelets
--     IsHostStep, host_step      the host before and after, where one wavelet's progress and the robots change
--     step_given, step_kept, step_through, step_may, step_others      the clauses
--     idle_turn, idle_may, idle_others     where nothing changes
use Rattle.std.proofs.Common.{◌≡◌, ◌≢◌, ◌≤◌, ℕ, true≢false, true, false, cond, List, [], ◌++◌, length, map, take, drop, slice_get, Option, Some, None, IfOk, OnErr, Result, Ok, Err, refl, sym, ap, subst, ◌∙◌, append-nil, arith, is_eq}
use Rattle.std.specs.List.{filter}
use Rattle.std.specs.Option.{option_map_or}
use Rattle.std.specs.Ordering.{nat_cmp}
use Rattle.std.specs.Cmp.Lexicographic.{slice_cmp, texts_ties, bytes_decides}
use Rattle.std.specs.BTreeMap as tree
use Rattle.std.proofs.lemmas.List.{take-append-le, take_all, length-map}
use Rattle.doc_items.specs.Maps.{Key}
use Rattle.delta_history.specs.Histories.{HistoryOf}
use Rattle.robot_host.specs.declared.edit.RobotEdit.{RobotEdit}
use Rattle.robot_host.specs.declared.progress.Progress.{Progress}
use Rattle.robot_host.specs.Hosts.{HostOf, kept, progress_in, number_in, edits_in, MayTurn, HasTurnedAs, HasTurned, AreThroughAll, AreOthersKept, AreSameWavelets}
use Rattle.robot_host.specs.Robots.{RobotOf, addresses}
use Rattle.robot_host.specs.Turns.{is_there, is_of_there, number_of, IsTurnOf, AreTurns, HaveTurned, HaveAnswered, AreThrough}
use Rattle.doc_op.proofs.Applying.{same_Some}
use Rattle.robot_host.proofs.Turning.{none_turned}
use Rattle.robot_host.proofs.Hosting.{apart_key, kept_still}
use Rattle.robot_host.proofs.HostTurns.{turned_as, there_before, turned_all, may_again}

abbrev pub host_of : List RobotOf → tree.BTreeMap Key Progress → HostOf
host_of robots m = record { robots = robots; number = λ name. number_in (progress_in m name); edits = λ name. edits_in (progress_in m name) }

pub record IsHostStep (g g' : HostOf) (h : HistoryOf) (ss ts : List RobotOf) (ns ms : List ℕ) (es es' : List RobotEdit) : Type 0 where
  pub before : ss ≡ g.robots
  pub after : ts ≡ g'.robots
  pub from : (r : ℕ) → number_of ns r ≡ g.number h.name r
  pub to : (r : ℕ) → number_of ms r ≡ g'.number h.name r
  pub was : es ≡ g.edits h.name
  pub now : es' ≡ g'.edits h.name
  pub numbers : (other : Key) (r : ℕ) → other ≢ h.name → g'.number other r ≡ g.number other r
  pub edits : (other : Key) → other ≢ h.name → g'.edits other ≡ g.edits other

pub host_step : (robots robots' ss ts : List RobotOf) (m b m' : tree.BTreeMap Key Progress) (name : Key) (h : HistoryOf) (p p' : Progress) → ss ≡ robots → ts ≡ robots' → AreSameWavelets m b → name ≡ h.name → progress_in b name ≡ Some p
    → ((q : Key) → progress_in m' q ≡ cond (is_eq (slice_cmp nat_cmp name q)) (Some p') (progress_in b q)) → IsHostStep (host_of robots m) (host_of robots' m') h ss ts p.counts.items p'.counts.items p.edits.items p'.edits.items
host_step robots robots' ss ts m b m' name h p p' before after same named at put =
    let here : progress_in b h.name ≡ Some p = ap (progress_in b) (sym named) ∙ at in
    let equal : is_eq (slice_cmp nat_cmp name h.name) ≡ true = sym (texts_ties name h.name) ∙ (bytes_decides name h.name).1 named in
    let there : progress_in m' h.name ≡ Some p' = put h.name ∙ ap (λ c. cond c (Some p') (progress_in b h.name)) equal in
    record {
      before = before;
      after = after;
      from = λ r. sym (ap (λ z. number_in z r) here) ∙ same.numbers h.name r;
      to = λ r. sym (ap (λ z. number_in z r) there);
      was = sym (ap edits_in here) ∙ same.edits h.name;
      now = sym (ap edits_in there);
      numbers = λ other r apart. ap (λ z. number_in z r) (elsewhere other apart) ∙ same.numbers other r;
      edits = λ other apart. ap edits_in (elsewhere other apart) ∙ same.edits other;
    }
  where
    elsewhere : (other : Key) → other ≢ h.name → progress_in m' other ≡ progress_in b other
    elsewhere other apart = put other ∙ ap (λ c. cond c (Some p') (progress_in b other)) (apart_key name other (λ e. apart (e ∙ named)))

module _ {g g' : HostOf} {h : HistoryOf} {ss ts : List RobotOf} {ns ms : List ℕ} {es es' : List RobotEdit} where
  as_host : {xs : List RobotEdit} → IsHostStep g g' h ss ts ns ms es es' → AreTurns (addresses ss) h ss ts ns ms xs → HasTurnedAs g g' h xs
  as_host {xs = xs} step turns = turned_as g g' h ss ts ns ms xs step.before step.after step.from step.to turns

  pub step_given : {given : List RobotEdit} → IsHostStep g g' h ss ts ns ms es es' → HaveAnswered (addresses ss) h ss ts ns ms es given → HasTurned g h g' given
  step_given {given = given} step turned = turned_all g g' h turned.answered given (as_host step turned.turns) (turned.edits ∙ ap (λ z. filter (is_of_there z) (es ++ turned.answered)) step.after ∙ ap (λ z. filter (is_of_there g'.robots) (z ++ turned.answered)) step.was)

  pub step_kept : IsHostStep g g' h ss ts ns ms es es' → HaveTurned (addresses ss) h ss ts ns ms es es' → HasTurned g h g' (kept g' h.name)
  step_kept step turned = turned_all g g' h turned.answered (kept g' h.name) (as_host step turned.turns) (ap (filter (is_of_there g'.robots)) (sym step.now ∙ turned.edits) ∙ ap (λ z. filter (is_of_there g'.robots) (z ++ turned.answered)) step.was)

  pub step_through : IsHostStep g g' h ss ts ns ms es es' → AreThrough h ts ms → AreThroughAll g' h
  step_through step through r s at here = sym (step.to r) ∙ through r s (ap (λ z. slice_get z r) step.after ∙ at) here

  pub step_may : {xs : List RobotEdit} → IsHostStep g g' h ss ts ns ms es es' → AreTurns (addresses ss) h ss ts ns ms xs → MayTurn g h → MayTurn g' h
  step_may {xs = xs} step turns may = may_again g g' h xs (as_host step turns) may

  pub step_others : {xs : List RobotEdit} → IsHostStep g g' h ss ts ns ms es es' → AreTurns (addresses ss) h ss ts ns ms xs → AreOthersKept g g' h.name
  step_others {xs = xs} step turns = record {
    numbers = step.numbers;
    edits = λ other apart. ap (filter (is_of_there g'.robots)) (step.edits other apart) ∙ kept_still g.robots g'.robots (there_before g g' h xs (as_host step turns)) (g.edits other);
  }

-- ---- where nothing changes

idle_as : (robots robots' : List RobotOf) (m m' : tree.BTreeMap Key Progress) (h : HistoryOf) → robots' ≡ robots → AreSameWavelets m m' → HasTurnedAs (host_of robots m) (host_of robots' m') h []
idle_as robots robots' m m' h same wavelets = subst (λ z. HasTurnedAs (host_of robots m) (host_of z m') h []) (sym same) (record {
  length = refl;
  turned = λ r s t e f. moved r s t (number_in (progress_in m h.name) r) (number_in (progress_in m' h.name) r) (wavelets.numbers h.name r) (same_Some (sym e ∙ f));
})
  where
    moved : (r : ℕ) (s t : RobotOf) (n k : ℕ) → k ≡ n → s ≡ t → IsTurnOf (addresses robots) h r s t n k []
    moved r s t n k e f = subst (λ z. z) (λ i. IsTurnOf (addresses robots) h r s (f i) n (sym e i) []) (none_turned (addresses robots) h r n s)

module _ (robots robots' : List RobotOf) (m m' : tree.BTreeMap Key Progress) (h : HistoryOf) (same : robots' ≡ robots) (wavelets : AreSameWavelets m m') where
  pub idle_turn : HasTurned (host_of robots m) h (host_of robots' m') (kept (host_of robots' m') h.name)
  idle_turn = turned_all (host_of robots m) (host_of robots' m') h [] (kept (host_of robots' m') h.name) (idle_as robots robots' m m' h same wavelets) (ap (filter (is_of_there robots')) (wavelets.edits h.name ∙ sym (append-nil (edits_in (progress_in m h.name)))))

  pub idle_may : MayTurn (host_of robots m) h → MayTurn (host_of robots' m') h
  idle_may may = may_again (host_of robots m) (host_of robots' m') h [] (idle_as robots robots' m m' h same wavelets) may

  pub idle_others : AreOthersKept (host_of robots m) (host_of robots' m') h.name
  idle_others = record {
    numbers = λ other r apart. wavelets.numbers other r;
    edits = λ other apart. ap (filter (is_of_there robots')) (wavelets.edits other) ∙ kept_still robots robots' (there_before (host_of robots m) (host_of robots' m') h [] (idle_as robots robots' m m' h same wavelets)) (edits_in (progress_in m other));
  }

-- ---- of results

pub record HaveTurnsOf (robots : List Key) (h : HistoryOf) (ss ts : List RobotOf) (ns ms : List ℕ) : Type 0 where
  pub answered : List RobotEdit
  pub turns : AreTurns robots h ss ts ns ms answered

pub turns_of : {E A : Type 0} (r : Result A E) (items : A → List RobotEdit) (es es' : List RobotEdit) {robots : List Key} {h : HistoryOf} {ss ts : List RobotOf} {ns ms : List ℕ} → IfOk r (λ given. HaveAnswered robots h ss ts ns ms es (items given)) → OnErr r (HaveTurned robots h ss ts ns ms es es') → HaveTurnsOf robots h ss ts ns ms
turns_of (Ok x) items es es' ok err = record { answered = ok.answered; turns = ok.turns }
turns_of (Err e) items es es' ok err = record { answered = err.answered; turns = err.turns }

pub if_ok : {E A : Type 0} (r : Result A E) {P Q : A → Type 0} → IfOk r P → ((x : A) → P x → Q x) → IfOk r Q
if_ok (Ok x) p f = f x p
if_ok (Err e) p f = tt

pub whole_slice : {A : Type 0} (n : ℕ) (new old : List A) → n ≡ length old → length new ≡ length old → take n (new ++ drop (length new) old) ≡ new
whole_slice n new old e f = take-append-le n new (drop (length new) old) (omega (arith, e, f)) ∙ take_all n new (omega (arith, e, f))

pub sliced : {A B : Type 0} (f : A → B) (n : ℕ) (slice new old : List A) → n ≡ length old → slice ≡ old → length (map f new) ≡ length (map f slice) → map f new ≡ map f (take n (new ++ drop (length new) old))
sliced f n slice new old e same long = ap (map f) (sym (whole_slice n new old e (sym (length-map new f) ∙ long ∙ length-map slice f ∙ ap length same)))

-- ---- what a turn requires

number_here : (m b : tree.BTreeMap Key Progress) (name : Key) (h : HistoryOf) (p : Progress) → AreSameWavelets m b → name ≡ h.name → progress_in b name ≡ Some p → (r : ℕ) → number_in (progress_in m h.name) r ≡ number_of p.counts.items r
number_here m b name h p same named at r = sym (same.numbers h.name r) ∙ ap (λ z. number_in z r) (ap (progress_in b) (sym named) ∙ at)

pub turn_within : (robots ss : List RobotOf) (m b : tree.BTreeMap Key Progress) (name : Key) (h : HistoryOf) (p : Progress) → ss ≡ robots → AreSameWavelets m b → name ≡ h.name → progress_in b name ≡ Some p → MayTurn (host_of robots m) h → (r : ℕ) → is_there ss r ≡ true → number_of p.counts.items r ≤ length h.deltas
turn_within robots ss m b name h p is same named at may r there = go (slice_get robots r) refl
  where
    go : (o : Option RobotOf) → slice_get robots r ≡ o → number_of p.counts.items r ≤ length h.deltas
    go None e = absurd (true≢false (sym there ∙ ap (λ z. is_there z r) is ∙ ap (λ o. option_map_or (λ (z : RobotOf). z.here) o false) e))
    go (Some s) e =
        let here : s.here ≡ true = sym (ap (λ o. option_map_or (λ (z : RobotOf). z.here) o false) e) ∙ ap (λ z. is_there z r) (sym is) ∙ there in
        subst (λ n. n ≤ length h.deltas) (number_here m b name h p same named at r) (may r s e here).within
