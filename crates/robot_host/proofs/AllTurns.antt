-- The robots' parts in a turn, one robot after the other.
--     none_below             nobody had its turn yet
--     one_more               one robot more had its turn
--     turned_below           so everybody's part is known
--     all_through            those that are there went through all deltas
--     same_addresses         addresses stay
use Rattle.std.proofs.Common.{◌≡◌, ◌≢◌, ℕ, zero, suc, ◌+◌, ◌<◌, ◌≤◌, ◌==◌, true, false, cond, List, [], ◌∷◌, ◌++◌, length, map, slice_get, slice_set, Some, unwrap_or, refl, sym, ap, subst, ◌∙◌, arith, append_assoc, append-nil}
use Rattle.std.proofs.lemmas.Bool.Decides.{nat_tests}
use Rattle.std.proofs.lemmas.List.{length-set}
use Rattle.std.proofs.lemmas.List.Elements.{filter-append}
use Rattle.std.proofs.lemmas.Option.{slice_get_within, get_or_from_slice_get}
use Rattle.std.proofs.Math.Seq.{map-set_same}
use Rattle.doc_items.specs.Maps.{Key}
use Rattle.doc_op.proofs.Applying.{same_Some}
use Rattle.wavelet_op.specs.declared.op.WaveletOp.{WaveletOp}
use Rattle.delta_history.specs.Histories.{HistoryOf}
use Rattle.robot_host.specs.declared.edit.RobotEdit.{RobotEdit}
use Rattle.robot_host.specs.declared.reaction.Reaction.{Reaction}
use Rattle.robot_host.specs.declared.reaction.Reaction.TheVariants.{Quiet, Edit, Leave}
use Rattle.robot_host.specs.Reactions.{Answered, id_at, edit_of, edits_of}
use Rattle.robot_host.specs.Robots.{RobotOf}
use Rattle.robot_host.specs.Turns.{number_of, of_robot, IsTurnOf, IsOneTurn, IsThrough, AreTurnsBelow, HaveTurnedBelow, HaveTurned, AreThrough}
use Rattle.robot_host.specs.Views.{Seen}
use Rattle.robot_host.proofs.Turning.{none_turned}

-- ---- elements of lists

pub set_here : {A : Type 0} (xs : List A) (i : ℕ) (x : A) → i < length xs → slice_get (slice_set xs i x) i ≡ Some x
set_here [] i x w = absurd (omega (arith, w))
set_here (y ∷ ys) zero x w = refl
set_here (y ∷ ys) (suc i) x w = set_here ys i x (omega (arith, w))

pub set_apart : {A : Type 0} (xs : List A) (i j : ℕ) (x : A) → j ≢ i → slice_get (slice_set xs i x) j ≡ slice_get xs j
set_apart [] i j x h = refl
set_apart (y ∷ ys) zero zero x h = absurd (h refl)
set_apart (y ∷ ys) zero (suc j) x h = refl
set_apart (y ∷ ys) (suc i) zero x h = refl
set_apart (y ∷ ys) (suc i) (suc j) x h = set_apart ys i j x (λ e. h (ap suc e))

pub by_number : (r k : ℕ) {P : Type 0} → (r ≡ k → P) → (r ≢ k → P) → P
by_number zero zero f g = f refl
by_number zero (suc k) f g = g (λ e. let x : zero ≡ suc k = e in omega (arith, x))
by_number (suc r) zero f g = g (λ e. let x : suc r ≡ zero = e in omega (arith, x))
by_number (suc r) (suc k) f g = by_number r k (λ e. f (ap suc e)) (λ h. g (λ e. h (let x : suc r ≡ suc k = e in omega (arith, x))))

-- ---- edits by robot

same_number : (r : ℕ) → (r == r) ≡ true
same_number r = grind (arith, nat_tests)

other_number : (k r : ℕ) → r ≢ k → (k == r) ≡ false
other_number k r h = grind (arith, nat_tests, h)

abbrev edited : ℕ → Key → Seen → List WaveletOp → RobotEdit
edited r a x ops = record { robot = r; submission = record { id = id_at a x.after.at; at = x.after.at; ops = ops } }

own_edit : (r : ℕ) (a : Key) (x : Seen) (answer : Reaction) → of_robot r (edit_of r a x answer) ≡ edit_of r a x answer
own_edit r a x Quiet = refl
own_edit r a x (Edit ops) = ap (λ b. cond b (edited r a x ops ∷ []) []) (same_number r)
own_edit r a x Leave = refl

other_edit : (k r : ℕ) (a : Key) (x : Seen) (answer : Reaction) → r ≢ k → of_robot r (edit_of k a x answer) ≡ []
other_edit k r a x Quiet h = refl
other_edit k r a x (Edit ops) h = ap (λ b. cond b (edited k a x ops ∷ []) []) (other_number k r h)
other_edit k r a x Leave h = refl

own_edits : (r : ℕ) (a : Key) (xs : List Answered) → of_robot r (edits_of r a xs) ≡ edits_of r a xs
own_edits r a [] = refl
own_edits r a (x ∷ xs) = filter-append (λ e. e.robot == r) (edit_of r a x.seen x.answer) (edits_of r a xs) ∙ ap (λ z. z ++ of_robot r (edits_of r a xs)) (own_edit r a x.seen x.answer) ∙ ap (λ z. edit_of r a x.seen x.answer ++ z) (own_edits r a xs)

other_edits : (k r : ℕ) (a : Key) (xs : List Answered) → r ≢ k → of_robot r (edits_of k a xs) ≡ []
other_edits k r a [] h = refl
other_edits k r a (x ∷ xs) h = filter-append (λ e. e.robot == r) (edit_of k a x.seen x.answer) (edits_of k a xs) ∙ ap (λ z. z ++ of_robot r (edits_of k a xs)) (other_edit k r a x.seen x.answer h) ∙ other_edits k r a xs h

-- ---- one robot after the other

pub none_below : (robots : List Key) (h : HistoryOf) (ss : List RobotOf) (ns : List ℕ) (es : List RobotEdit) → HaveTurnedBelow 0 robots h ss ss ns ns es es
none_below robots h ss ns es = record {
  answered = [];
  below = record {
    turns = record { length = refl; turned = λ r s t e f. subst (λ z. IsTurnOf robots h r s z (number_of ns r) (number_of ns r) []) (same_Some (sym e ∙ f)) (none_turned robots h r (number_of ns r) s) };
    others = λ r w. refl;
    numbers = λ r w. refl;
    own = λ r w. refl;
    through = λ r w. absurd (omega (arith, w));
  };
  edits = sym (append-nil es);
}

module _ (robots : List Key) (h : HistoryOf) (k : ℕ) (ss ts us : List RobotOf) (ns ms ls : List ℕ) (es : List RobotEdit) where
  step_turn : (b : AreTurnsBelow k robots h ss ts ns ms es) (xs xs' : List RobotEdit) (o : IsOneTurn robots h k ts us ms ls xs xs') → k < length ms → (r : ℕ) (s t : RobotOf) → slice_get ss r ≡ Some s → slice_get us r ≡ Some t → IsTurnOf robots h r s t (number_of ns r) (number_of ls r) (of_robot r (es ++ o.added))
  step_turn b xs xs' o counted r s t e f = by_number r k
      (λ same.
      let was : o.before ≡ s = same_Some (sym o.was ∙ b.others k (omega arith) ∙ ap (slice_get ss) (sym same) ∙ e) in
      let is : o.after ≡ t = same_Some (sym (set_here ts k o.after (slice_get_within ts k o.before o.was)) ∙ ap (λ z. slice_get z k) (sym o.seats) ∙ ap (slice_get us) (sym same) ∙ f) in
      let from : number_of ms k ≡ number_of ns r = ap (λ z. unwrap_or z 0) (b.numbers k (omega arith)) ∙ ap (number_of ns) (sym same) in
      let to : o.number ≡ number_of ls r = sym (ap (λ z. number_of z r) o.numbers ∙ ap (number_of (slice_set ms k o.number)) same ∙ ap (λ z. unwrap_or z 0) (set_here ms k o.number counted)) in
      let mine : o.added ≡ of_robot r (es ++ o.added) = sym (filter-append (λ e. e.robot == r) es o.added ∙ ap (λ z. of_robot z es ++ of_robot z o.added) same ∙ ap (λ z. z ++ of_robot k o.added) (b.own k (omega arith)) ∙ ap (of_robot k) o.turn.edits ∙ own_edits k o.before.address o.turn.shown ∙ sym o.turn.edits) in
      moved o.turn (sym same) was is from to mine)
      (λ apart.
      let at : slice_get ts r ≡ Some t = sym (ap (λ z. slice_get z r) o.seats ∙ set_apart ts k r o.after apart) ∙ f in
      let to : number_of ms r ≡ number_of ls r = sym (ap (λ z. number_of z r) o.numbers ∙ ap (λ z. unwrap_or z 0) (set_apart ms k r o.number apart)) in
      let mine : of_robot r es ≡ of_robot r (es ++ o.added) = sym (filter-append (λ e. e.robot == r) es o.added ∙ ap (λ z. of_robot r es ++ z) (ap (of_robot r) o.turn.edits ∙ other_edits k r o.before.address o.turn.shown apart) ∙ append-nil (of_robot r es)) in
      moved (b.turns.turned r s t e at) refl refl refl refl to mine)
    where
      moved : {q : ℕ} {r : ℕ} {s s' t t' : RobotOf} {n n' m m' : ℕ} {xs xs' : List RobotEdit} → IsTurnOf robots h q s t n m xs → q ≡ r → s ≡ s' → t ≡ t' → n ≡ n' → m ≡ m' → xs ≡ xs' → IsTurnOf robots h r s' t' n' m' xs'
      moved turn q s t n m xs = subst (λ z. z) (λ i. IsTurnOf robots h (q i) (s i) (t i) (n i) (m i) (xs i)) turn

  pub one_more : (xs xs' xs'' : List RobotEdit) → (b : AreTurnsBelow k robots h ss ts ns ms es) → xs' ≡ xs ++ es → k < length ms → IsOneTurn robots h k ts us ms ls xs' xs'' → IsThrough h k us ls → HaveTurnedBelow (suc k) robots h ss us ns ls xs xs''
  one_more xs xs' xs'' b before counted o through = record {
    answered = es ++ o.added;
    below = record {
      turns = record {
        length = ap length o.seats ∙ length-set ts k o.after ∙ b.turns.length;
        turned = step_turn b xs' xs'' o counted;
      };
      others = λ r w. ap (λ z. slice_get z r) o.seats ∙ set_apart ts k r o.after (λ e. let x : r ≡ k = e in absurd (omega (arith, w, x))) ∙ b.others r (omega (arith, w));
      numbers = λ r w. ap (λ z. slice_get z r) o.numbers ∙ set_apart ms k r o.number (λ e. let x : r ≡ k = e in absurd (omega (arith, w, x))) ∙ b.numbers r (omega (arith, w));
      own = λ r w.
          let apart : r ≢ k = λ e. let x : r ≡ k = e in absurd (omega (arith, w, x)) in
          filter-append (λ e. e.robot == r) es o.added ∙ ap (λ z. z ++ of_robot r o.added) (b.own r (omega (arith, w))) ∙ ap (of_robot r) o.turn.edits ∙ other_edits k r o.before.address o.turn.shown apart;
      through = λ r w. by_number r k
          (λ same. subst (λ z. IsThrough h z us ls) (sym same) through)
          (λ apart t at here.
          ap (λ z. number_of z r) o.numbers ∙ ap (λ z. unwrap_or z 0) (set_apart ms k r o.number apart) ∙ b.through r (below r w apart) t (sym (ap (λ z. slice_get z r) o.seats ∙ set_apart ts k r o.after apart) ∙ at) here);
    };
    edits = o.edits ∙ ap (λ z. z ++ o.added) before ∙ append_assoc xs es o.added;
  }
    where
      below : (r : ℕ) → r < suc k → r ≢ k → r < k
      below r w h = grind (arith, nat_tests, w, h)

  pub one_less : (xs xs' xs'' : List RobotEdit) → (b : AreTurnsBelow k robots h ss ts ns ms es) → xs' ≡ xs ++ es → k < length ms → IsOneTurn robots h k ts us ms ls xs' xs'' → HaveTurned robots h ss us ns ls xs xs''
  one_less xs xs' xs'' b before counted o = record {
    answered = es ++ o.added;
    turns = record {
      length = ap length o.seats ∙ length-set ts k o.after ∙ b.turns.length;
      turned = step_turn b xs' xs'' o counted;
    };
    edits = o.edits ∙ ap (λ z. z ++ o.added) before ∙ append_assoc xs es o.added;
  }

pub same_addresses : (robots : List Key) (h : HistoryOf) (k : ℕ) (ss ts : List RobotOf) (ns ms : List ℕ) (es es' : List RobotEdit) → IsOneTurn robots h k ss ts ns ms es es' → map (λ (s : RobotOf). s.address) ts ≡ map (λ (s : RobotOf). s.address) ss
same_addresses robots h k ss ts ns ms es es' o =
    let same : o.after.address ≡ o.before.address = ap (λ (s : RobotOf). s.address) o.turn.robot in
    ap (map (λ (s : RobotOf). s.address)) o.seats ∙ map-set_same (λ (s : RobotOf). s.address) ss k o.after o.before (same ∙ sym (ap (λ (s : RobotOf). s.address) (get_or_from_slice_get ss k o.before o.before o.was)))

-- ---- as a loop goes on

pub next_turn : {robots names : List Key} {h : HistoryOf} {k : ℕ} {ss ts us : List RobotOf} {ns ms ls : List ℕ} {xs xs' xs'' : List RobotEdit} → HaveTurnedBelow k robots h ss ts ns ms xs xs' → names ≡ robots → k < length ms → IsOneTurn names h k ts us ms ls xs' xs'' → IsThrough h k us ls → HaveTurnedBelow (k + 1) robots h ss us ns ls xs xs''
next_turn {robots = robots} {names = names} {h = h} {k = k} {ss = ss} {ts = ts} {us = us} {ns = ns} {ms = ms} {ls = ls} {xs = xs} {xs' = xs'} {xs'' = xs''} turned same counted one through =
    subst (λ n. HaveTurnedBelow n robots h ss us ns ls xs xs'') (let e : suc k ≡ k + 1 = omega arith in e) (one_more robots h k ss ts us ns ms ls turned.answered xs xs' xs'' turned.below turned.edits counted (subst (λ z. IsOneTurn z h k ts us ms ls xs' xs'') same one) through)

pub last_turn : {robots names : List Key} {h : HistoryOf} {k : ℕ} {ss ts us : List RobotOf} {ns ms ls : List ℕ} {xs xs' xs'' : List RobotEdit} → HaveTurnedBelow k robots h ss ts ns ms xs xs' → names ≡ robots → k < length ms → IsOneTurn names h k ts us ms ls xs' xs'' → HaveTurned robots h ss us ns ls xs xs''
last_turn {robots = robots} {names = names} {h = h} {k = k} {ss = ss} {ts = ts} {us = us} {ns = ns} {ms = ms} {ls = ls} {xs = xs} {xs' = xs'} {xs'' = xs''} turned same counted one =
    one_less robots h k ss ts us ns ms ls turned.answered xs xs' xs'' turned.below turned.edits counted (subst (λ z. IsOneTurn z h k ts us ms ls xs' xs'') same one)

pub turned_below : {robots : List Key} {h : HistoryOf} {k : ℕ} {ss ts : List RobotOf} {ns ms : List ℕ} {xs xs' : List RobotEdit} → HaveTurnedBelow k robots h ss ts ns ms xs xs' → HaveTurned robots h ss ts ns ms xs xs'
turned_below turned = record { answered = turned.answered; turns = turned.below.turns; edits = turned.edits }

pub all_through : {robots : List Key} {h : HistoryOf} {k : ℕ} {ss ts : List RobotOf} {ns ms : List ℕ} {xs xs' : List RobotEdit} → HaveTurnedBelow k robots h ss ts ns ms xs xs' → length ss ≤ k → AreThrough h ts ms
all_through {ts = ts} turned all r s at here = let w = slice_get_within ts r s at in let e = turned.below.turns.length in turned.below.through r (omega (arith, w, e, all)) s at here

pub same_lengths : {robots : List Key} {h : HistoryOf} {k : ℕ} {ss ts : List RobotOf} {ns ms : List ℕ} {xs xs' : List RobotEdit} → IsOneTurn robots h k ss ts ns ms xs xs' → (length ts ≡ length ss) × (length ms ≡ length ns)
same_lengths {k = k} {ss = ss} {ns = ns} o = (ap length o.seats ∙ length-set ss k o.after, ap length o.numbers ∙ length-set ns k o.number)

-- ---- numbers that are 0

pub number_more : (ns : List ℕ) (r : ℕ) → number_of (ns ++ 0 ∷ []) r ≡ number_of ns r
number_more [] zero = refl
number_more [] (suc r) = refl
number_more (n ∷ ns) zero = refl
number_more (n ∷ ns) (suc r) = number_more ns r
