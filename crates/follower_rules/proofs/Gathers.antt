-- A submission that is taken keeps a follower sound.
--     fitted                what is compacted goes as it did before
--     IsGathered, gathered  what is gathered goes as the entries did
--     IsSubmitting, submitting_is     what a follower that takes a submission becomes
--     submit_is_sound
use Rattle.std.proofs.Common.{◌≡◌, ◌≤◌, Bool, true, false, ◌&&◌, nat_le, List, [], ◌∷◌, ◌++◌, length, Option, None, Some, Result, Ok, refl, sym, ap, subst, ◌∙◌, arith}
use Rattle.std.specs.Option.{option_map_or}
use Rattle.std.specs.Result.{result_ok}
use Rattle.std.proofs.lemmas.Bool.{and_parts}
use Rattle.doc_items.specs.Limits.{max_count}
use Rattle.doc_op.proofs.Applying.{same_Some, mapped, passed}
use Rattle.wavelet_op.specs.Acts.{Act, inserted}
use Rattle.wavelet_op.specs.Compacts.{bounded_compact}
use Rattle.wavelet_op.specs.Deltas.{is_count}
use Rattle.wavelet_op.specs.States.{State, run}
use Rattle.wavelet_op.specs.declared.delta.Submission.{Submission}
use Rattle.wavelet_op.proofs.Compacts.{compact_holds, bounded_compact_is_exact}
use Rattle.wavelet_op.proofs.Grids.{run_append, inserted_append}
use Rattle.wavelet_op.proofs.Partial.{and_then_some, ok_some}
use Rattle.wavelet_state.specs.Snapshots.{max_inserted}
use Rattle.delta_history.proofs.Points.{and_then_is}
use Rattle.follower_rules.specs.declared.fault.FollowerFault.{FollowerFault}
use Rattle.follower_rules.specs.Followers.{Flight, FollowerOf, run_all, inserted_all, flying, pending, screen}
use Rattle.follower_rules.specs.Submitting.{is_short, if_fits, fitting, Gathered, gather_on, gather, sent_by, submitting, take_numbered, take_gathered, take_queued, take_unless, submit}
use Rattle.follower_rules.specs.Laws.{IsSound, SubmitIsSound}
use Rattle.follower_rules.proofs.Sounds.{same_ok, no_ok, le_true}

-- ---- what fits

pub record IsFitting (acts fewer : List Act) : Type 0 where
  pub compacted : bounded_compact acts ≡ Ok fewer
  pub count : is_count (length fewer) ≡ true
  pub short : is_short fewer ≡ true

pub fitting_is : (acts fewer : List Act) → fitting acts ≡ Some fewer → IsFitting acts fewer
fitting_is acts fewer e =
    let m = and_then_some (result_ok (bounded_compact acts)) if_fits fewer e in
    let t = passed (is_count (length m.0) && is_short m.0) (Some m.0) fewer m.2 in
    let p = and_parts (is_count (length m.0)) (is_short m.0) t.test in
    subst (IsFitting acts) (same_Some t.rest) (record { compacted = ok_some (bounded_compact acts) m.0 m.1; count = p.0; short = p.1 })

pub record IsAsBefore (s t : State) (acts fewer : List Act) : Type 0 where
  pub goes : run s fewer ≡ Some t
  pub small : inserted fewer ≤ inserted acts

pub fitted : (s t : State) (acts fewer : List Act) → IsFitting acts fewer → run s acts ≡ Some t → IsAsBefore s t acts fewer
fitted s t acts fewer f r =
    let c = compact_holds s t acts r in
    let is : c.fewer ≡ fewer = same_Some (sym c.defined ∙ bounded_compact_is_exact acts fewer f.compacted) in
    subst (IsAsBefore s t acts) is (record { goes = c.goes; small = c.small })

-- ---- what is gathered

pub record IsGathered (s t : State) (raw : List Act) (rest : List (List Act)) (g : Gathered) : Type 0 where
  pub goes : run_all s (g.0 ∷ g.1) ≡ Some t
  pub small : inserted_all (g.0 ∷ g.1) ≤ inserted_all (raw ∷ rest)
  pub count : is_count (length g.0) ≡ true

gathered_on : (s m t : State) (raw acts : List Act) (rest : List (List Act)) → run s raw ≡ Some m → run s acts ≡ Some m → run_all m rest ≡ Some t → inserted acts ≤ inserted raw → is_count (length acts) ≡ true → IsGathered s t raw rest (gather_on raw acts rest)
gathered_on s m t raw acts [] r a v i c = record { goes = and_then_is (run s acts) (λ z. run_all z []) m a ∙ v; small = omega (arith, i); count = c }
gathered_on s m t raw acts (entry ∷ rest) r a v i c = go (fitting (raw ++ entry)) refl (λ more f. (let b = fitted s x.0 (raw ++ entry) more f whole in gathered_on s x.0 t (raw ++ entry) more rest whole b.goes x.2 b.small f.count))
  where
    x : (y : State) × (run m entry ≡ Some y) × (run_all y rest ≡ Some t)
    x = and_then_some (run m entry) (λ y. run_all y rest) t v

    whole : run s (raw ++ entry) ≡ Some x.0
    whole = run_append s raw entry ∙ and_then_is (run s raw) (λ z. run z entry) m r ∙ x.1

    go : (o : Option (List Act)) → fitting (raw ++ entry) ≡ o → ((more : List Act) → IsFitting (raw ++ entry) more → IsGathered s t (raw ++ entry) rest (gather_on (raw ++ entry) more rest)) → IsGathered s t raw (entry ∷ rest) (option_map_or (λ more. gather_on (raw ++ entry) more rest) o (acts, entry ∷ rest))
    go None f again = record { goes = and_then_is (run s acts) (λ z. run_all z (entry ∷ rest)) m a ∙ v; small = omega (arith, i); count = c }
    go (Some more) f again =
        let g = again more (fitting_is (raw ++ entry) more f) in
        record { goes = g.goes; small = omega (arith, g.small, inserted_append raw entry); count = g.count }

pub gathered : (s t : State) (entry : List Act) (rest : List (List Act)) (g : Gathered) → run_all s (entry ∷ rest) ≡ Some t → gather entry rest ≡ Some g → IsGathered s t entry rest g
gathered s t entry rest g v e =
    let m = and_then_some (run s entry) (λ z. run_all z rest) t v in
    let o = mapped (λ acts. gather_on entry acts rest) (fitting entry) g e in
    let f = fitting_is entry o.value o.had in
    let b = fitted s m.0 entry o.value f m.1 in
    subst (IsGathered s t entry rest) o.gives (gathered_on s m.0 t entry o.value rest m.1 b.goes m.2 b.small f.count)

-- ---- what a follower becomes

pub record IsSubmitting (f : FollowerOf) (o : Option Submission) (g : FollowerOf) : Type 0 where
  pub entry : List Act
  pub rest : List (List Act)
  pub taken : Gathered
  pub none : f.flight ≡ None
  pub is_queue : f.queue ≡ entry ∷ rest
  pub is_taken : gather entry rest ≡ Some taken
  pub numbered : f.next ≤ max_count
  pub is_sent : o ≡ Some (sent_by f taken.0)
  pub is_after : g ≡ submitting f taken

-- it stays as it is, or has a submission in flight
pub data Submits (f : FollowerOf) (o : Option Submission) (g : FollowerOf) : Type 0 where
  nothing : o ≡ None → g ≡ f → Submits f o g
  something : IsSubmitting f o g → Submits f o g

pub submitting_is : (f g : FollowerOf) (o : Option Submission) → submit f ≡ Ok (o, g) → Submits f o g
submitting_is f g o e = unless f.flight refl e
  where
    stays : ◌≡◌ {A = Result (Option Submission × FollowerOf) FollowerFault} (Ok (None, f)) (Ok (o, g)) → Submits f o g
    stays q = nothing (sym (ap (λ (z : Option Submission × FollowerOf). z.0) (same_ok q))) (sym (ap (λ (z : Option Submission × FollowerOf). z.1) (same_ok q)))

    numbered : (entry : List Act) (rest : List (List Act)) (t : Gathered) → f.flight ≡ None → f.queue ≡ entry ∷ rest → gather entry rest ≡ Some t → (b : Bool) → nat_le f.next max_count ≡ b → take_numbered f t b ≡ Ok (o, g) → Submits f o g
    numbered entry rest t n q i false h r = no_ok r
    numbered entry rest t n q i true h r = something (record {
      entry = entry;
      rest = rest;
      taken = t;
      none = n;
      is_queue = q;
      is_taken = i;
      numbered = le_true _ _ h;
      is_sent = sym (ap (λ (z : Option Submission × FollowerOf). z.0) (same_ok r));
      is_after = sym (ap (λ (z : Option Submission × FollowerOf). z.1) (same_ok r));
    })

    from : (entry : List Act) (rest : List (List Act)) → f.flight ≡ None → f.queue ≡ entry ∷ rest → (m : Option Gathered) → gather entry rest ≡ m → take_gathered f m ≡ Ok (o, g) → Submits f o g
    from entry rest n q None i r = no_ok r
    from entry rest n q (Some t) i r = numbered entry rest t n q i (nat_le f.next max_count) refl r

    waiting : f.flight ≡ None → (q : List (List Act)) → f.queue ≡ q → take_queued f q ≡ Ok (o, g) → Submits f o g
    waiting n [] q r = stays r
    waiting n (entry ∷ rest) q r = from entry rest n q (gather entry rest) refl r

    unless : (m : Option Flight) → f.flight ≡ m → take_unless f m ≡ Ok (o, g) → Submits f o g
    unless (Some x) n r = stays r
    unless None n r = waiting n f.queue refl r

pub record IsShowing (f g : FollowerOf) : Type 0 where
  pub sound : IsSound g
  pub same : screen g ≡ screen f

pub submitting_is_sound : (f g : FollowerOf) (o : Option Submission) → IsSound f → IsSubmitting f o g → IsShowing f g
submitting_is_sound f g o s x =
    let all : pending f ≡ x.entry ∷ x.rest = ap (λ m. flying m ++ f.queue) x.none ∙ x.is_queue in
    let ran : run_all f.here.state (x.entry ∷ x.rest) ≡ Some s.shown = subst (λ z. run_all f.here.state z ≡ Some s.shown) all s.is_shown in
    let few : inserted_all (x.entry ∷ x.rest) ≤ max_inserted = subst (λ z. inserted_all z ≤ max_inserted) all s.held in
    let y = gathered f.here.state s.shown x.entry x.rest x.taken ran x.is_taken in
    let t : IsSound (submitting f x.taken) = record { place = s.place; shown = s.shown; is_shown = y.goes; held = omega (arith, y.small, few) } in
    subst (IsShowing f) (sym x.is_after) (record { sound = t; same = y.goes ∙ sym s.is_shown })

pub submit_is_sound : SubmitIsSound
submit_is_sound f g o s e = elim (submitting_is f g o e) [
  | nothing n i ↦ (subst IsSound (sym i) s, ap screen i)
  | something x ↦ (let y = submitting_is_sound f g o s x in (y.sound, y.same))
]
