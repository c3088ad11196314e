-- What is decided, and the verdict.
--     invalid_told        operations that aren't valid at their base
--     refused_is          the refusal, from what is found at the base
--     no_room_told        the refusal where a bound is broken
--     can_pass, decided   its operations can be passed to the head, and become a delta
--     near_accepted       the delta may be next
--     near_refused        it can't be
--     no_room_full, near_full, early_full, ack_full     a bound is broken wherever `Full` is told
use Rattle.std.proofs.Common.{◌≡◌, ◌⊎◌, inl, inr, ℕ, ◌+◌, ◌<◌, ◌≤◌, Bool, true, false, ◌&&◌, nat_le, List, [], ◌∷◌, ◌++◌, length, take, drop, Option, Some, None, IsSome, true≢false, append-nil, refl, sym, ap, subst, ◌∙◌, arith}
use Rattle.std.specs.Option.{option_map}
use Rattle.std.proofs.lemmas.Bool.{and_parts}
use Rattle.std.proofs.lemmas.Bool.Decides.{nat_tests}
use Rattle.std.proofs.lemmas.List.{length-map, take_all, drop_all, take-append-drop}
use Rattle.doc_items.specs.Limits.{max_count}
use Rattle.doc_items.specs.Maps.{Key}
use Rattle.doc_op.proofs.Applying.{no_value, same_Some}
use Rattle.wave_base.specs.Versions.{IdOf, VersionAt}
use Rattle.wavelet_op.specs.Acts.{Act, meaning, meanings, inserted}
use Rattle.wavelet_op.specs.Deltas.{DeltaOf, is_count}
use Rattle.wavelet_op.specs.Grids.{pass}
use Rattle.wavelet_op.specs.States.{State, run, first_invalid}
use Rattle.wavelet_op.specs.declared.delta.Submission.{Submission}
use Rattle.wavelet_op.specs.declared.op.WaveletOp.{WaveletOp}
use Rattle.wavelet_op.specs.declared.verdict.Verdict.{Verdict}
use Rattle.wavelet_op.specs.declared.verdict.Verdict.TheVariants.{Ack, NotParticipant, ReadOnly, UnknownVersion, WrongHash, Invalid, Full}
use Rattle.wavelet_codec.specs.Spelling.{delta_bytes}
use Rattle.delta_history.specs.Histories.{HistoryOf, head_of}
use Rattle.wavelet_state.specs.Snapshots.{max_inserted}
use Rattle.delta_history.specs.Laws.{IsBroken, IsFull}
use Rattle.delta_history.specs.Legal.{has_id, max_delta, standing, may_write, IsNext, IsLegal}
use Rattle.delta_history.specs.Passing.{all_acts}
use Rattle.delta_history.specs.Points.{Point, start, acts_of, next_point, replay, cut}
use Rattle.delta_history.specs.Pushes.{IsAsked}
use Rattle.delta_history.specs.Verdicts.{accepted, is_within, judge_ops, judge_pass, judge_bounds, judge_next}
use Rattle.delta_history.proofs.Chains.{goes_on}
use Rattle.delta_history.proofs.Finding.{legal_end}
use Rattle.delta_history.proofs.Points.{after_point, replay_append, and_then_is, pass_through}
use Rattle.delta_history.proofs.Pushes.{ready}
use Rattle.delta_history.proofs.Versions.{cut_whole, pass_is}
use Rattle.wavelet_container.specs.Decisions.{judged, IsBase, IsInvalidAt, IsNear, IsRefusal, IsSubmitted, IsValidBelow, IsFullFor, IsEarly, has_room, refusal}
use Rattle.wavelet_container.specs.Passing.{CanPass, Passes}
use Rattle.wavelet_container.proofs.Bases.{state_at_base}
use Rattle.wavelet_container.proofs.Sizes.{empty_small, replay_sized}
use Rattle.wavelet_container.proofs.Ways.{spelled}

-- ---- at the base

pub invalid_told : (h : HistoryOf) (s : Submission) (k i : ℕ) → IsBase h s k → IsInvalidAt h k (meanings s.ops) (Some i) → (t : ℕ) → judged h s t ≡ (Invalid i, None)
invalid_told h s k i b bad t =
    let w = bad b.base.state (state_at_base h k b.base b.leads) in
    b.left t ∙ ap (judge_ops s t (head_of h) b.base (drop k h.deltas)) w.1 ∙ ap (λ z. (Invalid z, None)) (sym w.0)

abbrev pub told_of : VersionAt → Option ℕ → Verdict
told_of head None = Full head
told_of head (Some i) = Invalid i

abbrev IsInvalid : State → List Act → Option ℕ → Type 0
IsInvalid base acts None = IsSome (run base acts)
IsInvalid base acts (Some i) = (i ≡ first_invalid base acts) × (run base acts ≡ None)

refused_by : (head : VersionAt) (base : State) (acts : List Act) (o : Option State) → run base acts ≡ o → (f : Option ℕ) → IsInvalid base acts f → told_of head f ≡ refusal head base acts o
refused_by head base acts None e None f = absurd (true≢false (sym (subst IsSome e f)))
refused_by head base acts (Some u) e None f = refl
refused_by head base acts None e (Some i) f = ap Invalid f.0
refused_by head base acts (Some u) e (Some i) f = no_value (sym f.1 ∙ e)

pub refused_is : (h : HistoryOf) (s : Submission) (k : ℕ) (f : Option ℕ) → IsInvalidAt h k (meanings s.ops) f → IsRefusal h s k (told_of (head_of h).at f)
refused_is h s k None bad base leads = refused_by (head_of h).at base.state (meanings s.ops) (run base.state (meanings s.ops)) refl None (bad base.state (state_at_base h k base leads))
refused_is h s k (Some i) bad base leads = refused_by (head_of h).at base.state (meanings s.ops) (run base.state (meanings s.ops)) refl (Some i) (bad base.state (state_at_base h k base leads))

-- ---- bounds

and_false : (a b : Bool) → a ≡ false → (a && b) ≡ false
and_false a b e = ap (λ z. z && b) e

within_room : (p : Point) (s : Submission) (d : DeltaOf) (h : HistoryOf) → head_of h ≡ p → is_within p (meanings s.ops) d ≡ (has_room h s.ops && nat_le (length (delta_bytes d)) max_delta)
within_room p s d h e =
    let long : length (meanings s.ops) ≡ length s.ops = length-map s.ops meaning in
    ap (λ n. nat_le (p.at.version + n) max_count && nat_le (p.count + inserted (meanings s.ops)) max_inserted && nat_le (length (delta_bytes d)) max_delta) long
    ∙ ap (λ (q : Point). nat_le (q.at.version + length s.ops) max_count && nat_le (q.count + inserted (meanings s.ops)) max_inserted && nat_le (length (delta_bytes d)) max_delta) (sym e)

no_room_passed : (h : HistoryOf) (s : Submission) (t : ℕ) → has_room h s.ops ≡ false → (o : Option (List Act)) → judge_pass s t (head_of h) o ≡ (Full (head_of h).at, None)
no_room_passed h s t never None = refl
no_room_passed h s t never (Some acts) =
    let d = accepted (head_of h) s t acts in
    ap (judge_bounds (head_of h) d) (within_room (head_of h) s d h refl ∙ and_false (has_room h s.ops) (nat_le (length (delta_bytes d)) max_delta) never)

no_room_ops : (h : HistoryOf) (s : Submission) (t : ℕ) (base : Point) (since : List DeltaOf) → has_room h s.ops ≡ false → (o : Option State) → judge_ops s t (head_of h) base since o ≡ (refusal (head_of h).at base.state (meanings s.ops) o, None)
no_room_ops h s t base since never None = refl
no_room_ops h s t base since never (Some u) = no_room_passed h s t never (pass (meanings s.ops) (all_acts since))

pub no_room_told : (h : HistoryOf) (s : Submission) (k : ℕ) (v : Verdict) → IsBase h s k → has_room h s.ops ≡ false → IsRefusal h s k v → (t : ℕ) → judged h s t ≡ (v, None)
no_room_told h s k v b never r t =
    b.left t ∙ no_room_ops h s t b.base (drop k h.deltas) never (run b.base.state (meanings s.ops)) ∙ ap (λ z. (z, None)) (sym (r b.base b.leads))

-- ---- the delta

is_accepted : (h : HistoryOf) (s : Submission) (t k : ℕ) (d : DeltaOf) → IsNear h s t k d → accepted (head_of h) s t (meanings d.ops) ≡ d
is_accepted h s t k d n = λ i. record { id = sym n.submitted.id i; from = sym n.submitted.from i; time = sym n.submitted.time i; ops = spelled d.ops n.passed.normal i }

base_leads : (h : HistoryOf) (k : ℕ) (b : Point) → IsLegal h.name h.deltas → replay (start h.name) (take k h.deltas) ≡ Some b → replay b (drop k h.deltas) ≡ Some (head_of h)
base_leads h k b l e =
    let all : replay (start h.name) (take k h.deltas ++ drop k h.deltas) ≡ Some (head_of h) = ap (replay (start h.name)) (take-append-drop k h.deltas) ∙ legal_end h.name h.deltas l in
    sym (replay_append (start h.name) (take k h.deltas) (drop k h.deltas) ∙ and_then_is (replay (start h.name) (take k h.deltas)) (λ z. replay z (drop k h.deltas)) b e) ∙ all

abbrev first_of : List DeltaOf → Option DeltaOf
first_of [] = None
first_of (d ∷ ds) = Some d

-- in an empty history the acts stay as they are, and in another the author goes by the state
author_stays : (h : List DeltaOf) (k : ℕ) (p : Point) (a : Key) (acts acts' : List Act) → pass acts (all_acts (drop k h)) ≡ Some acts' → may_write (standing h p a acts) ≡ true → may_write (standing h p a acts') ≡ true
author_stays (d ∷ h) k p a acts acts' e m = m
author_stays [] k p a acts acts' e m =
    let same = same_Some (sym (ap (λ z. pass acts (all_acts z)) (drop_all k [] (omega arith))) ∙ e) in
    subst (λ z. may_write (standing [] p a z) ≡ true) same m

true_le : (a b : ℕ) → nat_le a b ≡ true → a ≤ b
true_le a b h = grind (arith, nat_tests)

le_true : (a b : ℕ) → a ≤ b → nat_le a b ≡ true
le_true a b h = grind (arith, nat_tests)

le_false : (a b : ℕ) → (a ≤ b → ⊥) → nat_le a b ≡ false
le_false a b h = go (nat_le a b) refl
  where
    go : (c : Bool) → nat_le a b ≡ c → c ≡ false
    go false e = refl
    go true e = absurd (h (true_le a b e))

-- where the operations are valid at their base and the bytes are few enough, the delta may be next
is_next : (h : HistoryOf) (s : Submission) (t k : ℕ) (d : DeltaOf) (u : State) → (n : IsNear h s t k d) → run n.made.base.state (meanings s.ops) ≡ Some u → length (delta_bytes d) ≤ max_delta → IsNext h.name h.deltas d
is_next h s t k d u n v short =
    let b = n.made in
    let th = pass_through b.base (head_of h) (meanings s.ops) (drop k h.deltas) u v (base_leads h k b.base n.legal b.leads) in
    let is : th.acts' ≡ acts_of d = same_Some (sym th.defined ∙ n.passed.is) in
    let goes : run (head_of h).state (acts_of d) ≡ Some th.end = ap (run (head_of h).state) (sym is) ∙ th.goes in
    let wide : length (meanings s.ops) ≡ length s.ops = length-map s.ops meaning in
    let long : length d.ops ≡ length s.ops = n.passed.long ∙ wide in
    let few : inserted (acts_of d) ≤ inserted (meanings s.ops) = subst (λ z. inserted z ≤ inserted (meanings s.ops)) is th.small in
    let room = and_parts (nat_le ((head_of h).at.version + length s.ops) max_count) (nat_le ((head_of h).count + inserted (meanings s.ops)) max_inserted) n.room in
    let counted = true_le _ _ room.0 in
    let held = true_le _ _ room.1 in
    let asked : IsAsked h d = record {
      fitting = record {
        starts = n.submitted.from;
        new = ap (λ i. has_id i h.deltas) n.submitted.id ∙ b.new;
        within = record { counted = omega (arith, counted, long); held = omega (arith, held, few); short = short };
      };
      some_ops = ap is_count long ∙ n.some_ops;
      normal = n.passed.normal;
      author = ap (λ (a : Key). may_write (standing h.deltas (head_of h) a (acts_of d))) (ap (λ (i : IdOf). i.author) n.submitted.id) ∙ author_stays h.deltas k (head_of h) s.id.author (meanings s.ops) (acts_of d) n.passed.is b.author;
    } in
    (ready h d th.end n.legal asked goes).next

judged_pass : (h : HistoryOf) (s : Submission) (t k : ℕ) (d : DeltaOf) (u : State) → (n : IsNear h s t k d) → run n.made.base.state (meanings s.ops) ≡ Some u → judged h s t ≡ judge_bounds (head_of h) d (nat_le (length (delta_bytes d)) max_delta)
judged_pass h s t k d u n v =
    n.made.left t ∙ ap (judge_ops s t (head_of h) n.made.base (drop k h.deltas)) v ∙ ap (judge_pass s t (head_of h)) n.passed.is
    ∙ ap (λ z. judge_bounds (head_of h) z (is_within (head_of h) (meanings s.ops) z)) (is_accepted h s t k d n)
    ∙ ap (judge_bounds (head_of h) d) (within_room (head_of h) s d h refl ∙ ap (λ z. z && nat_le (length (delta_bytes d)) max_delta) n.room)

-- at the head a delta that may be next is valid, and so the submission is
valid_near : (h : HistoryOf) (s : Submission) (t k : ℕ) (d : DeltaOf) → (n : IsNear h s t k d) → IsNext h.name h.deltas d → (k < length h.deltas) ⊎ (length h.deltas ≤ k) → IsSome (run n.made.base.state (meanings s.ops))
valid_near h s t k d n next (inl below) = n.valid below n.made.base.state (state_at_base h k n.made.base n.made.leads)
valid_near h s t k d n next (inr at) =
    let head : n.made.base ≡ head_of h = same_Some (sym n.made.leads ∙ ap (replay (start h.name)) (take_all k h.deltas at) ∙ legal_end h.name h.deltas n.legal) in
    let here : next.here ≡ head_of h = same_Some (sym next.is_head ∙ legal_end h.name h.deltas n.legal) in
    let acts : meanings s.ops ≡ acts_of d = same_Some (sym (ap (λ z. pass (meanings s.ops) (all_acts z)) (drop_all k h.deltas at)) ∙ n.passed.is) in
    let g = after_point next.here next.after d next.goes in
    subst IsSome (sym ((λ i. run ((head ∙ sym here) i).state (acts i)) ∙ g.goes)) refl

lt_or_le : (a b : ℕ) → (a < b) ⊎ (b ≤ a)
lt_or_le a b = go (nat_le b a) refl
  where
    go : (c : Bool) → nat_le b a ≡ c → (a < b) ⊎ (b ≤ a)
    go true e = inr (true_le b a e)
    go false e = inl (grind (arith, nat_tests))

some_of : {A : Type 0} (o : Option A) → IsSome o → (x : A) × (o ≡ Some x)
some_of (Some x) h = (x, refl)
some_of None h = absurd (true≢false (sym h))

pub near_accepted : (h : HistoryOf) (s : Submission) (t k : ℕ) (d : DeltaOf) → IsNear h s t k d → (next : IsNext h.name h.deltas d) → judged h s t ≡ (Ack (head_of h).at.version next.after.at, Some d)
near_accepted h s t k d n next =
    let v = some_of _ (valid_near h s t k d n next (lt_or_le k (length h.deltas))) in
    let here : next.here ≡ head_of h = same_Some (sym next.is_head ∙ legal_end h.name h.deltas n.legal) in
    judged_pass h s t k d v.0 n v.1 ∙ ap (judge_bounds (head_of h) d) (le_true _ _ next.short)
    ∙ ap (judge_next (head_of h) d) (ap (λ (p : Point). next_point p d) (sym here) ∙ next.goes)

refused_valid : (h : HistoryOf) (s : Submission) (t k : ℕ) (d : DeltaOf) → (n : IsNear h s t k d) → (IsLegal h.name (h.deltas ++ d ∷ []) → ⊥) → (o : Option State) → run n.made.base.state (meanings s.ops) ≡ o → judged h s t ≡ (refusal (head_of h).at n.made.base.state (meanings s.ops) o, None)
refused_valid h s t k d n never None e = n.made.left t ∙ ap (judge_ops s t (head_of h) n.made.base (drop k h.deltas)) e
refused_valid h s t k d n never (Some u) e =
    judged_pass h s t k d u n e ∙ ap (judge_bounds (head_of h) d) (le_false _ _ (λ short. never (goes_on h.name h.deltas d n.legal (is_next h s t k d u n e short))))

pub near_refused : (h : HistoryOf) (s : Submission) (t k : ℕ) (d : DeltaOf) (v : Verdict) → IsNear h s t k d → (IsLegal h.name (h.deltas ++ d ∷ []) → ⊥) → IsRefusal h s k v → judged h s t ≡ (v, None)
near_refused h s t k d v n never r = refused_valid h s t k d n never (run n.made.base.state (meanings s.ops)) refl ∙ ap (λ z. (z, None)) (sym (r n.made.base n.made.leads))

-- ---- the way to the head

pub can_pass : (h : HistoryOf) (s : Submission) (k : ℕ) (since : List DeltaOf) → IsLegal h.name h.deltas → IsBase h s k → IsValidBelow h s k → has_room h s.ops ≡ true → since ≡ drop k h.deltas → (since ≡ []) ⊎ CanPass (meanings s.ops) since
can_pass h s k since l b valid room is = go (lt_or_le k (length h.deltas))
  where
    go : (k < length h.deltas) ⊎ (length h.deltas ≤ k) → (since ≡ []) ⊎ CanPass (meanings s.ops) since
    go (inr at) = inl (is ∙ drop_all k h.deltas at)
    go (inl below) =
        let v = some_of _ (valid below b.base.state (state_at_base h k b.base b.leads)) in
        let both = and_parts (nat_le ((head_of h).at.version + length s.ops) max_count) (nat_le ((head_of h).count + inserted (meanings s.ops)) max_inserted) room in
        let held : (head_of h).count + inserted (meanings s.ops) ≤ max_inserted = true_le _ _ both.1 in
        inr (record {
          base = b.base;
          end = head_of h;
          leads = ap (replay b.base) is ∙ base_leads h k b.base l b.leads;
          after = v.0;
          valid = v.1;
          small = replay_sized (start h.name) b.base (take k h.deltas) empty_small b.leads;
          room = omega (arith, held);
        })

pub decided : (h : HistoryOf) (s : Submission) (t k : ℕ) (since : List DeltaOf) (ops : List WaveletOp) (d : DeltaOf) → IsLegal h.name h.deltas → is_count (length s.ops) ≡ true → IsBase h s k → IsValidBelow h s k → has_room h s.ops ≡ true → since ≡ drop k h.deltas → Passes (meanings s.ops) since ops → IsSubmitted h s t ops d → IsNear h s t k d
decided h s t k since ops d l some b valid room is passes made = record {
  made = b;
  legal = l;
  some_ops = some;
  room = room;
  valid = valid;
  passed = subst (λ ds. Passes (meanings s.ops) ds d.ops) is (subst (λ o. Passes (meanings s.ops) since o) (sym made.ops_are) passes);
  submitted = record { id = made.id; from = made.from; time = made.time; ops_are = refl };
}

-- ---- where there is no room

abbrev head_in : VersionAt → Verdict → VersionAt
head_in z (Ack at to) = z
head_in z NotParticipant = z
head_in z ReadOnly = z
head_in z (UnknownVersion head) = z
head_in z (WrongHash host) = z
head_in z (Invalid index) = z
head_in z (Full head) = head

abbrev is_full : Verdict → Bool
is_full (Ack at to) = false
is_full NotParticipant = false
is_full ReadOnly = false
is_full (UnknownVersion head) = false
is_full (WrongHash host) = false
is_full (Invalid index) = false
is_full (Full head) = true

pub ack_full : (h : HistoryOf) (s : Submission) (t at : ℕ) (to : VersionAt) (v : Verdict) → v ≡ Ack at to → IsFullFor h s t v
ack_full h s t at to v is head e = absurd (true≢false (sym (ap is_full (sym is ∙ e))))

pub invalid_full : (h : HistoryOf) (s : Submission) (t i : ℕ) → IsFullFor h s t (Invalid i)
invalid_full h s t i head e = absurd (true≢false (sym (ap is_full e)))

pub early_full : (h : HistoryOf) (s : Submission) (t : ℕ) (v : Verdict) → IsEarly v → IsFullFor h s t v
early_full h s t (Ack at to) i head e = absurd (true≢false (sym (ap is_full e)))
early_full h s t NotParticipant i head e = absurd (true≢false (sym (ap is_full e)))
early_full h s t ReadOnly i head e = absurd (true≢false (sym (ap is_full e)))
early_full h s t (UnknownVersion x) i head e = absurd (true≢false (sym (ap is_full e)))
early_full h s t (WrongHash x) i head e = absurd (true≢false (sym (ap is_full e)))
early_full h s t (Invalid x) i head e = absurd i
early_full h s t (Full x) i head e = absurd i

lt_of : (a b : ℕ) → nat_le a b ≡ false → b < a
lt_of a b h = grind (arith, nat_tests)

full_at : (h : HistoryOf) (s : Submission) (t k : ℕ) (u : State) (acts : List Act) → IsLegal h.name h.deltas → (b : IsBase h s k) → run b.base.state (meanings s.ops) ≡ Some u → pass (meanings s.ops) (all_acts (drop k h.deltas)) ≡ Some acts
    → IsBroken (head_of h) (meanings s.ops) (accepted (head_of h) s t acts) → IsFull h.name h.deltas s t (head_of h).at
full_at h s t k u acts l b v pa broken =
    let whole : take k h.deltas ++ drop k h.deltas ≡ h.deltas = take-append-drop k h.deltas in
    let found : cut (start h.name) s.at.version h.deltas ≡ Some (b.base, drop k h.deltas) = subst (λ (z : VersionAt). cut (start h.name) z.version h.deltas ≡ Some (b.base, drop k h.deltas)) b.made (cut_whole h.name h.deltas (take k h.deltas) (drop k h.deltas) b.base l whole b.leads) in
    record {
      here = head_of h;
      leads = legal_end h.name h.deltas l;
      at = refl;
      base = b.base;
      is_base = ap (option_map (λ (c : Point × List DeltaOf). c.0)) found;
      at_base = b.made;
      end = u;
      valid = v;
      acts = acts;
      passed = pass_is h.name h.deltas s.at (head_of h).at (meanings s.ops) acts l (record {
        before = take k h.deltas;
        between = drop k h.deltas;
        behind = [];
        base = b.base;
        end = head_of h;
        whole = ap (λ z. take k h.deltas ++ z) (append-nil (drop k h.deltas)) ∙ whole;
        is_base = b.leads;
        at_base = b.made;
        is_end = base_leads h k b.base l b.leads;
        at_end = refl;
        passed = pa;
      });
      broken = broken;
    }

-- a refusal that tells `Full`
told_full : (h : HistoryOf) (s : Submission) (t k : ℕ) (v : Verdict) → (b : IsBase h s k) → IsRefusal h s k v → ((u : State) → run b.base.state (meanings s.ops) ≡ Some u → IsFull h.name h.deltas s t (head_of h).at) → IsFullFor h s t v
told_full h s t k v b r f head e = go (run b.base.state (meanings s.ops)) refl
  where
    is : (o : Option State) → run b.base.state (meanings s.ops) ≡ o → Full head ≡ refusal (head_of h).at b.base.state (meanings s.ops) o
    is o q = sym e ∙ r b.base b.leads ∙ ap (refusal (head_of h).at b.base.state (meanings s.ops)) q

    go : (o : Option State) → run b.base.state (meanings s.ops) ≡ o → IsFull h.name h.deltas s t head
    go None q = absurd (true≢false (ap is_full (is None q)))
    go (Some u) q = subst (IsFull h.name h.deltas s t) (sym (ap (head_in head) (is (Some u) q))) (f u q)

room_broken : (h : HistoryOf) (s : Submission) (d : DeltaOf) → has_room h s.ops ≡ false → IsBroken (head_of h) (meanings s.ops) d
room_broken h s d e = go (nat_le ((head_of h).at.version + length s.ops) max_count) refl (nat_le ((head_of h).count + inserted (meanings s.ops)) max_inserted) refl e
  where
    go : (a : Bool) → nat_le ((head_of h).at.version + length s.ops) max_count ≡ a → (b : Bool) → nat_le ((head_of h).count + inserted (meanings s.ops)) max_inserted ≡ b → (a && b) ≡ false → IsBroken (head_of h) (meanings s.ops) d
    go false p b q f = inl (subst (λ n. max_count < (head_of h).at.version + n) (sym (length-map s.ops meaning)) (lt_of _ _ p))
    go true p false q f = inr (inl (lt_of _ _ q))
    go true p true q f = absurd (true≢false f)

pub no_room_full : (h : HistoryOf) (s : Submission) (t k : ℕ) (v : Verdict) → IsLegal h.name h.deltas → IsBase h s k → has_room h s.ops ≡ false → IsRefusal h s k v → IsFullFor h s t v
no_room_full h s t k v l b never r = told_full h s t k v b r (λ u q. (let th = pass_through b.base (head_of h) (meanings s.ops) (drop k h.deltas) u q (base_leads h k b.base l b.leads) in full_at h s t k u th.acts' l b q th.defined (room_broken h s (accepted (head_of h) s t th.acts') never)))

pub near_full : (h : HistoryOf) (s : Submission) (t k : ℕ) (d : DeltaOf) (v : Verdict) → IsNear h s t k d → (IsLegal h.name (h.deltas ++ d ∷ []) → ⊥) → IsRefusal h s k v → IsFullFor h s t v
near_full h s t k d v n never r = told_full h s t k v n.made r (λ u q. full_at h s t k u (meanings d.ops) n.legal n.made q n.passed.is (subst (IsBroken (head_of h) (meanings s.ops)) (sym (is_accepted h s t k d n)) (inr (inr (long u q (lt_or_le max_delta (length (delta_bytes d))))))))
  where
    long : (u : State) → run n.made.base.state (meanings s.ops) ≡ Some u → (max_delta < length (delta_bytes d)) ⊎ (length (delta_bytes d) ≤ max_delta) → max_delta < length (delta_bytes d)
    long u q (inl more) = more
    long u q (inr short) = absurd (never (goes_on h.name h.deltas d n.legal (is_next h s t k d u n q short)))
