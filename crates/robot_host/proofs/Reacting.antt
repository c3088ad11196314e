-- A robot that is shown one delta.
--     asked_is           what is known of its seat
--     ended              where the delta ends
--     reacted            it was shown the delta, and its edit stands after the others
use Rattle.std.proofs.Common.{◌≡◌, ℕ, zero, suc, ◌+◌, ◌≤◌, List, [], ◌∷◌, ◌++◌, length, slice_get, Option, Some, None, Result, Ok, Err, refl, sym, ap, ◌∙◌, arith, MatchResult}
use Rattle.std.specs.declared.alloc.Global.{Global}
use Rattle.std.specs.declared.dyn_box.DynBox.{DynBox}
use Rattle.doc_items.specs.Maps.{Key}
use Rattle.doc_op.proofs.Applying.{no_value}
use Rattle.wave_base.specs.Versions.{VersionAt}
use Rattle.wavelet_op.specs.Deltas.{DeltaOf}
use Rattle.wavelet_op.specs.States.{State}
use Rattle.delta_history.specs.Histories.{HistoryOf, head_of}
use Rattle.delta_history.specs.Legal.{IsLegal}
use Rattle.delta_history.specs.Places.{from_or}
use Rattle.state_cache.specs.States.{state_after}
use Rattle.robot_host.specs.declared.edit.RobotEdit.{RobotEdit}
use Rattle.robot_host.specs.declared.reaction.Reaction.{Reaction}
use Rattle.robot_host.specs.declared.seat.Seat.{Seat}
use Rattle.robot_host.specs.declared.seat.Seated.TheVariants.{Here}
use Rattle.robot_host.specs.Calls.{Call, with_call}
use Rattle.robot_host.specs.Places.{IsSeenAt}
use Rattle.robot_host.specs.Reactions.{id_at, edit_by}
use Rattle.robot_host.specs.Robots.{RobotOf, robot_by, is_here, last_of}
use Rattle.robot_host.specs.Showing.{asked, after_answer, HasReacted}
use Rattle.robot_host.specs.Views.{Seen}
use Rattle.robot_host.proofs.Ends.{end_next, end_last, seen_there, state_seen}
use Rattle.robot_host.proofs.Prefixes.{seen_at}

pub asked_is : {V : Type 0} {T : V → Type 0} {E : Type 0} (calls : DynBox V Global T → Option (List Call)) (s : Seat V T) (b c : DynBox V Global T) (name : Key) (d : DeltaOf) (t : State) (result : Result Reaction E) → s.robot ≡ Here b
    → MatchResult result (λ r. calls c ≡ with_call (calls b) name d t r) (λ _. calls c ≡ calls b)
    → MatchResult result (λ r. robot_by calls (record { address = s.address; first = s.first; robot = Here c }) ≡ asked name (robot_by calls s) d t r) (λ _. robot_by calls (record { address = s.address; first = s.first; robot = Here c }) ≡ robot_by calls s)
asked_is calls s b c name d t (Ok r) e h =
    let called = h ∙ ap (λ z. with_call (calls (last_of z)) name d t r) (sym e) in
    λ i. record { address = s.address; here = is_here (sym e i); before = calls s.first.value; calls = called i }
asked_is calls s b c name d t (Err f) e h =
    let called = h ∙ ap (λ z. calls (last_of z)) (sym e) in
    λ i. record { address = s.address; here = is_here (sym e i); before = calls s.first.value; calls = called i }

pub ended : (h : HistoryOf) (i : ℕ) (x : Seen) → IsLegal h.name h.deltas → IsSeenAt h i x → from_or (head_of h).at (slice_get h.deltas (i + 1)) ≡ x.after.at
ended h i x l s =
    let next : i + 1 ≡ suc i = omega arith in
    ap (λ n. from_or (head_of h).at (slice_get h.deltas n)) next ∙ go (slice_get h.deltas (suc i)) refl
  where
    go : (o : Option DeltaOf) → slice_get h.deltas (suc i) ≡ o → from_or (head_of h).at o ≡ x.after.at
    go (Some d) e = end_next h i x d l s e
    go None e = end_last h i x l s (past h.deltas (suc i) e)
      where
        past : {A : Type 0} (xs : List A) (k : ℕ) → slice_get xs k ≡ None → length xs ≤ k
        past [] k e = omega arith
        past (x ∷ xs) zero e = no_value (sym e)
        past (x ∷ xs) (suc k) e = let w = past xs k e in omega (arith, w)

pub reacted : (h : HistoryOf) (r i : ℕ) (s t : RobotOf) (es es' : List RobotEdit) (d : DeltaOf) (state : State) (at : VersionAt) (name : Key) (answer : Reaction) → IsLegal h.name h.deltas → slice_get h.deltas i ≡ Some d
    → state_after h.deltas (i + 1) ≡ Some state → at ≡ from_or (head_of h).at (slice_get h.deltas (i + 1)) → name ≡ h.name
    → t ≡ after_answer (asked name s d state answer) answer → es' ≡ es ++ edit_by r (id_at s.address at) at answer → HasReacted h r i s t es es'
reacted h r i s t es es' d state at name answer l e behind from named is edits =
    let seen = seen_there h i d l e in
    let next : i + 1 ≡ suc i = omega arith in
    let here : state ≡ seen.0.state = state_seen h i (seen_at d seen.0) state seen.1 (ap (state_after h.deltas) (sym next) ∙ behind) in
    let end : at ≡ seen.0.at = from ∙ ended h i (seen_at d seen.0) l seen.1 in
    record {
      shown = record { seen = seen_at d seen.0; answer = answer };
      seen = seen.1;
      robot = is ∙ ap (λ z. after_answer (asked z s d state answer) answer) named ∙ ap (λ z. after_answer (asked h.name s d z answer) answer) here;
      edits = edits ∙ ap (λ z. es ++ edit_by r (id_at s.address z) z answer) end;
    }
