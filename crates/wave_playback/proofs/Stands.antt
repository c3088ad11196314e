-- Where a playback stands.
--     ends_at              a delta of a legal history ends where the next one starts, or at the head
--     count_is, is_place   how many deltas lead up to the version after the first k: k
--     there_shown          what is shown there
--     end_shown            a version is a delta end exactly where so many deltas lead up to it
--     start_shown, counted what is shown after the first k deltas; the version that so many deltas lead up to
--     goes_on, next_at     a delta on: it applies, and leads to the state after it
--     back_at, kept_more   a delta back: its inverse leads to the state before it; one more that is kept
--     as_ops               an inverse as operations of a delta leads back, too
--     not_none             what is there isn't absent
--     at_the_start         where a playback begins
--     IsOn, IsOff, IsSought     what a move answers, and where the playback is then
use Rattle.std.proofs.Common.{◌≡◌, ◌≢◌, ℕ, zero, suc, ◌+◌, ◌-◌, ◌<◌, ◌≤◌, Bool, true, false, cond, ◌==◌, IsFalse, List, [], ◌∷◌, ◌++◌, length, take, get_or, slice_get, Option, Some, None, IsSome, is_some, refl, sym, ap, subst, ◌∙◌, arith, le_refl, true≢false, IfSome, option_and_then}
use Rattle.std.specs.Option.{option_map}
use Rattle.std.proofs.lemmas.Bool.Decides.{Decides-eqb}
use Rattle.std.proofs.lemmas.List.{take_all}
use Rattle.std.proofs.lemmas.Option.{slice_get_within, slice_get_past, slice_get_read, get_or_from_slice_get}
use Rattle.std.proofs.Math.Seq.{take-suc}
use Rattle.doc_op.proofs.Applying.{no_value, same_Some}
use Rattle.wave_base.specs.Versions.{VersionAt}
use Rattle.wavelet_op.specs.Acts.{meanings}
use Rattle.wavelet_op.specs.Deltas.{DeltaOf, is_count}
use Rattle.wavelet_op.specs.States.{State, empty_state, run}
use Rattle.wavelet_op.specs.declared.op.WaveletOp.{WaveletOp}
use Rattle.delta_history.specs.Histories.{HistoryOf, head_of}
use Rattle.delta_history.specs.Legal.{IsLegalFrom, IsLegal}
use Rattle.delta_history.specs.Places.{started_below, from_or, if_at, count_at}
use Rattle.delta_history.specs.Points.{Point, start, acts_of, next_point, replay, run_all, end_of}
use Rattle.delta_history.proofs.Chains.{starts_at, goes_from, some_ops}
use Rattle.delta_history.proofs.Finding.{rising, at_start, behind_start, started_within, state_is, front_runs, legal_end}
use Rattle.delta_history.proofs.Points.{and_then_is, after_point, replay_more, run_some}
use Rattle.state_cache.specs.States.{state_after}
use Rattle.state_cache.proofs.Runs.{run_all_append, split}
use Rattle.wave_playback.specs.Places.{version_at, IsThere, IsBack, AreBacks}
use Rattle.wave_playback.specs.Playing.{PlaybackOf, shown_at, next_end, last_of, last_start, at_version, moved, forward, back, sought}

-- ---- versions

pub record IsEnding (at : ℕ) (d : DeltaOf) : Type 0 where
  pub some : 0 < length d.ops
  pub end : at ≡ d.from.version + length d.ops

ending_from : (name : List ℕ) (b ds : List DeltaOf) (p q : Point) (k : ℕ) (d : DeltaOf) → IsLegalFrom name b ds → replay (start name) b ≡ Some p → replay p ds ≡ Some q → slice_get ds k ≡ Some d → IsEnding (from_or q.at (slice_get ds (suc k))).version d
ending_from name b [] p q k d l e r h = no_value h
ending_from name b (x ∷ ds) p q zero d l e r h =
    let z = goes_from name b x p e l.0 in
    let a = after_point p l.0.after x z in
    let from = ap (λ (y : VersionAt). y.version) (starts_at name b x p e l.0) in
    let rest : replay l.0.after ds ≡ Some q = sym (and_then_is (next_point p x) (λ y. replay y ds) l.0.after z) ∙ r in
    let next = first_from name (b ++ x ∷ []) ds l.0.after q l.1 (replay_more (start name) p l.0.after b x e z) rest in
    subst (IsEnding (from_or q.at (slice_get ds 0)).version) (same_Some h) (record {
      some = some_ops name b x l.0;
      end = ap (λ (y : VersionAt). y.version) next ∙ a.version ∙ ap (λ n. n + length x.ops) (sym from);
    })
  where
    first_from : (name : List ℕ) (b ds : List DeltaOf) (p q : Point) → IsLegalFrom name b ds → replay (start name) b ≡ Some p → replay p ds ≡ Some q → from_or q.at (slice_get ds 0) ≡ p.at
    first_from name b [] p q l e r = ap (λ (z : Point). z.at) (sym (same_Some r))
    first_from name b (d ∷ ds) p q l e r = starts_at name b d p e l.0
ending_from name b (x ∷ ds) p q (suc k) d l e r h =
    let z = goes_from name b x p e l.0 in
    let rest : replay l.0.after ds ≡ Some q = sym (and_then_is (next_point p x) (λ y. replay y ds) l.0.after z) ∙ r in
    ending_from name (b ++ x ∷ []) ds l.0.after q k d l.1 (replay_more (start name) p l.0.after b x e z) rest h

pub ends_at : (h : HistoryOf) (k : ℕ) (d : DeltaOf) → IsLegal h.name h.deltas → slice_get h.deltas k ≡ Some d → IsEnding (version_at h (suc k)) d
ends_at h k d l e = ending_from h.name [] h.deltas (start h.name) (head_of h) k d l refl (legal_end h.name h.deltas l) e

some_at : {A : Type 0} (xs : List A) (k : ℕ) → k < length xs → (x : A) × (slice_get xs k ≡ Some x)
some_at [] k h = absurd (omega (arith, h))
some_at (x ∷ xs) zero h = (x, refl)
some_at (x ∷ xs) (suc k) h = some_at xs k (omega (arith, h))

-- at least k deltas start below the version after the first k, and not one more
least : (h : HistoryOf) (k : ℕ) → IsLegal h.name h.deltas → k ≤ length h.deltas → k ≤ started_below (version_at h k) h.deltas
least h zero l w = omega arith
least h (suc k) l w =
    let d = some_at h.deltas k (omega (arith, w)) in
    let n = ends_at h k d.0 l d.1 in
    let low : d.0.from.version < version_at h (suc k) = omega (arith, n.some, n.end) in
    let x = at_start (version_at h (suc k)) 0 k h.deltas d.0 (rising h.name h.deltas l) d.1 low in
    omega (arith, x)

most : (h : HistoryOf) (k : ℕ) → k ≤ length h.deltas → started_below (version_at h k) h.deltas ≤ k
most h k w = go (slice_get h.deltas k) refl
  where
    go : (o : Option DeltaOf) → slice_get h.deltas k ≡ o → started_below (version_at h k) h.deltas ≤ k
    go (Some d) e = behind_start (version_at h k) k h.deltas d e (let is : version_at h k ≡ d.from.version = ap (λ o. (from_or (head_of h).at o).version) e in omega (arith, is))
    go None e =
        let all : length h.deltas ≤ k = past h.deltas k e in
        let x = started_within (version_at h k) h.deltas in
        omega (arith, all, x)
      where
        past : {A : Type 0} (xs : List A) (k : ℕ) → slice_get xs k ≡ None → length xs ≤ k
        past [] k e = omega arith
        past (x ∷ xs) zero e = no_value (sym e)
        past (x ∷ xs) (suc k) e = let y = past xs k e in omega (arith, y)

pub is_place : (h : HistoryOf) (k v : ℕ) → IsLegal h.name h.deltas → k ≤ length h.deltas → version_at h k ≡ v → started_below v h.deltas ≡ k
is_place h k v l w e =
    let x = least h k l w in
    let y = most h k w in
    let z : started_below (version_at h k) h.deltas ≡ k = omega (arith, x, y) in
    subst (λ u. started_below u h.deltas ≡ k) e z

pub count_is : (h : HistoryOf) (k v : ℕ) → IsLegal h.name h.deltas → k ≤ length h.deltas → version_at h k ≡ v → count_at v (head_of h).at h.deltas ≡ Some k
count_is h k v l w e =
    let place = is_place h k v l w e in
    let same : (version_at h k == v) ≡ true = (Decides-eqb (version_at h k) v).1 e in
    ap (λ s. option_map (λ (at : VersionAt). s) (if_at v (from_or (head_of h).at (slice_get h.deltas s)))) place ∙ ap (λ b. option_map (λ (at : VersionAt). k) (cond b (Some (from_or (head_of h).at (slice_get h.deltas k))) None)) same

-- ---- what is shown

pub there_shown : (h : HistoryOf) (k v : ℕ) (s : State) → IsLegal h.name h.deltas → IsThere h k v s → shown_at h v ≡ Some s
there_shown h k v s l t =
    state_is h.name h.deltas v l ∙ ap (option_and_then (λ (j : ℕ). run_all empty_state (take j h.deltas))) (count_is h k v l t.within t.version) ∙ t.state

pub counted_shown : (h : HistoryOf) (k v : ℕ) (s : State) → IsLegal h.name h.deltas → count_at v (head_of h).at h.deltas ≡ Some k → state_after h.deltas k ≡ Some s → shown_at h v ≡ Some s
counted_shown h k v s l c e = state_is h.name h.deltas v l ∙ ap (option_and_then (λ (j : ℕ). run_all empty_state (take j h.deltas))) c ∙ e

pub none_shown : (h : HistoryOf) (v : ℕ) → IsLegal h.name h.deltas → count_at v (head_of h).at h.deltas ≡ None → shown_at h v ≡ None
none_shown h v l c = state_is h.name h.deltas v l ∙ ap (option_and_then (λ (j : ℕ). run_all empty_state (take j h.deltas))) c

-- ---- a delta on

one_more : (ds : List DeltaOf) (k : ℕ) (d : DeltaOf) → slice_get ds k ≡ Some d → take (suc k) ds ≡ take k ds ++ d ∷ []
one_more ds k d e = take-suc ds k d (slice_get_within ds k d e) ∙ ap (λ x. take k ds ++ x ∷ []) (get_or_from_slice_get ds k d d e)

alone : (s : State) (d : DeltaOf) → run_all s (d ∷ []) ≡ run s (acts_of d)
alone s d = go (run s (acts_of d))
  where
    go : (o : Option State) → option_and_then (λ t. Some t) o ≡ o
    go None = refl
    go (Some t) = refl

pub goes_on : (h : HistoryOf) (k : ℕ) (s : State) (d : DeltaOf) → IsLegal h.name h.deltas → state_after h.deltas k ≡ Some s → slice_get h.deltas k ≡ Some d → IsSome (run s (meanings d.ops))
goes_on h k s d l e at =
    let whole = subst (λ z. IsSome (run_all empty_state z)) (one_more h.deltas k d at) (front_runs h.name h.deltas (suc k) l) in
    let x = split empty_state (take k h.deltas) (d ∷ []) whole in
    let y : IsSome (run_all s (d ∷ [])) = subst (λ z. IsSome (run_all z (d ∷ []))) (same_Some (sym x.leads ∙ e)) x.rest in
    subst IsSome (alone s d) y

pub next_state : (ds : List DeltaOf) (k : ℕ) (s : State) (d : DeltaOf) → state_after ds k ≡ Some s → slice_get ds k ≡ Some d → state_after ds (suc k) ≡ run s (meanings d.ops)
next_state ds k s d e at =
    ap (run_all empty_state) (one_more ds k d at) ∙ run_all_append empty_state (take k ds) (d ∷ []) ∙ ap (option_and_then (λ t. run_all t (d ∷ []))) e ∙ alone s d

-- ---- a delta back

-- the state before a delta leads to the one after it, to which the kept inverse applies
pub before_some : (h : HistoryOf) (k : ℕ) → IsLegal h.name h.deltas → (s : State) × (state_after h.deltas k ≡ Some s)
before_some h k l = go (state_after h.deltas k) refl (front_runs h.name h.deltas k l)
  where
    go : (o : Option State) → state_after h.deltas k ≡ o → IsSome (state_after h.deltas k) → (s : State) × (state_after h.deltas k ≡ Some s)
    go (Some s) e i = (s, e)
    go None e i = absurd (true≢false (sym i ∙ ap is_some e))

pub back_applies : (h : HistoryOf) (backs : List (Option (List WaveletOp))) (k : ℕ) (ops : List WaveletOp) (t : State) → IsLegal h.name h.deltas → AreBacks h.deltas backs
    → slice_get backs k ≡ Some (Some ops) → state_after h.deltas (suc k) ≡ Some t → run t (meanings ops) ≡ state_after h.deltas k
back_applies h backs k ops t l a e at =
    let s = before_some h k l in
    a k (Some ops) e s.0 t s.1 at ∙ sym s.1

pub is_back : (ds : List DeltaOf) (k : ℕ) (d : DeltaOf) (o : Option (List WaveletOp)) (s t : State) → state_after ds k ≡ Some s → slice_get ds k ≡ Some d → run s (meanings d.ops) ≡ Some t
    → IfSome o (λ ops. run t (meanings ops) ≡ Some s) → IsBack ds k o
is_back ds k d None s t e at goes b = tt
is_back ds k d (Some ops) s t e at goes b = λ x y ex ey.
    let same_s : s ≡ x = same_Some (sym e ∙ ex) in
    let same_t : t ≡ y = same_Some (sym (next_state ds k s d e at ∙ goes) ∙ ey) in
    subst (λ z. run z (meanings ops) ≡ Some x) same_t (subst (λ z. run t (meanings ops) ≡ Some z) same_s b)

-- what a delta's inverse is as operations of a delta
pub as_ops : (b : List WaveletOp) (o : Option (List WaveletOp)) (s t : State) → o ≡ cond (is_count (length b)) (Some b) None → run t (meanings b) ≡ Some s → IfSome o (λ ops. run t (meanings ops) ≡ Some s)
as_ops b o s t is h = subst (λ x. IfSome x (λ ops. run t (meanings ops) ≡ Some s)) (sym is) (go (is_count (length b)))
  where
    go : (c : Bool) → IfSome (cond c (Some b) None) (λ ops. run t (meanings ops) ≡ Some s)
    go true = h
    go false = tt

pub not_none : (o : Option State) → IsSome o → o ≢ None
not_none o some none = true≢false (sym some ∙ ap is_some none)

last_of_more : {A : Type 0} (xs : List A) (x y : A) (k : ℕ) (P : ℕ → A → Type 0) → ((j : ℕ) (z : A) → slice_get xs j ≡ Some z → P j z) → P (length xs) x → slice_get (xs ++ x ∷ []) k ≡ Some y → P k y
last_of_more [] x y zero P h l e = subst (P 0) (same_Some e) l
last_of_more [] x y (suc k) P h l e = no_value e
last_of_more (z ∷ xs) x y zero P h l e = h zero y e
last_of_more (z ∷ xs) x y (suc k) P h l e = last_of_more xs x y k (λ j. P (suc j)) (λ j w g. h (suc j) w g) l e

pub kept_more : (ds : List DeltaOf) (backs : List (Option (List WaveletOp))) (o : Option (List WaveletOp)) (k : ℕ) → AreBacks ds backs → length backs ≡ k → IsBack ds k o → AreBacks ds (backs ++ o ∷ [])
kept_more ds backs o k a n b j p e = last_of_more backs o p j (λ i q. IsBack ds i q) a (subst (λ i. IsBack ds i o) (sym n) b) e

-- ---- the ends

pub head_state : (h : HistoryOf) → IsLegal h.name h.deltas → state_after h.deltas (length h.deltas) ≡ Some (head_of h).state
head_state h l = ap (run_all empty_state) (take_all (length h.deltas) h.deltas (le_refl _)) ∙ run_some (start h.name) (head_of h) h.deltas (legal_end h.name h.deltas l)

-- ---- as the code has it

pub got_at : (xs ys : List DeltaOf) (k : ℕ) (d : DeltaOf) → xs ≡ ys → k < length ys → d ≡ get_or xs k d → slice_get ys k ≡ Some d
got_at xs ys k d e h is = subst (λ z. slice_get z k ≡ Some d) e (slice_get_read xs (length xs) k d refl (subst (λ z. k < length z) (sym e) h) is)

pub start_shown : (h : HistoryOf) (k : ℕ) → IsLegal h.name h.deltas → k ≤ length h.deltas → shown_at h (version_at h k) ≡ state_after h.deltas k
start_shown h k l w = state_is h.name h.deltas (version_at h k) l ∙ ap (option_and_then (λ (j : ℕ). run_all empty_state (take j h.deltas))) (count_is h k (version_at h k) l w refl)

pub never_lost : (h : HistoryOf) (k : ℕ) (o : Option State) → IsLegal h.name h.deltas → k ≤ length h.deltas → o ≡ shown_at h (version_at h k) → o ≡ None → ⊥
never_lost h k o l w is none =
    let s = before_some h k l in
    no_value (sym (sym s.1 ∙ sym (start_shown h k l w) ∙ sym is ∙ none))

pub next_at : (ds : List DeltaOf) (k : ℕ) (s t : State) (d : DeltaOf) → state_after ds k ≡ Some s → slice_get ds k ≡ Some d → run s (meanings d.ops) ≡ Some t → state_after ds (k + 1) ≡ Some t
next_at ds k s t d e at goes =
    let one : suc k ≡ k + 1 = omega arith in
    subst (λ n. state_after ds n ≡ Some t) one (next_state ds k s d e at ∙ goes)

pub back_at : (h : HistoryOf) (backs : List (Option (List WaveletOp))) (k : ℕ) (ops : List WaveletOp) (t : State) → IsLegal h.name h.deltas → AreBacks h.deltas backs → 0 < k
    → slice_get backs (k - 1) ≡ Some (Some ops) → state_after h.deltas k ≡ Some t → run t (meanings ops) ≡ state_after h.deltas (k - 1)
back_at h backs k ops t l a some e at =
    let one : k ≡ suc (k - 1) = omega (arith, some) in
    back_applies h backs (k - 1) ops t l a e (subst (λ n. state_after h.deltas n ≡ Some t) one at)

pub back_goes : (h : HistoryOf) (k : ℕ) (t : State) (o : Option State) → IsLegal h.name h.deltas → o ≡ state_after h.deltas k → IsSome o
back_goes h k t o l e = ap is_some (e ∙ (before_some h k l).1)

-- ---- versions that are counted

pub counted : (h : HistoryOf) (k v : ℕ) → count_at v (head_of h).at h.deltas ≡ Some k → (version_at h k ≡ v) × (k ≤ length h.deltas)
counted h k v e = go (version_at h (started_below v h.deltas) == v) refl e
  where
    go : (t : Bool) → (version_at h (started_below v h.deltas) == v) ≡ t → option_map (λ (at : VersionAt). started_below v h.deltas) (cond t (Some (from_or (head_of h).at (slice_get h.deltas (started_below v h.deltas)))) None) ≡ Some k
        → (version_at h k ≡ v) × (k ≤ length h.deltas)
    go true is c =
        let same : started_below v h.deltas ≡ k = same_Some c in
        let within = started_within v h.deltas in
        (subst (λ j. version_at h j ≡ v) same ((Decides-eqb (version_at h (started_below v h.deltas)) v).0 is), omega (arith, same, within))
    go false is c = no_value c

pub counted_there : (h : HistoryOf) (k v : ℕ) (s : State) → IsLegal h.name h.deltas → count_at v (head_of h).at h.deltas ≡ Some k → state_after h.deltas k ≡ Some s → IsThere h k v s
counted_there h k v s l c e = let x = counted h k v c in record { legal = l; within = x.1; version = x.0; state = e }

head_version : (h : HistoryOf) → version_at h (length h.deltas) ≡ (head_of h).at.version
head_version h = ap (λ o. (from_or (head_of h).at o).version) (slice_get_past h.deltas (length h.deltas) (le_refl _))

start_version : (h : HistoryOf) → IsLegal h.name h.deltas → version_at h 0 ≡ 0
start_version h l = go h.name h.deltas l
  where
    go : (name : List ℕ) (ds : List DeltaOf) → IsLegal name ds → (from_or (end_of name ds).at (slice_get ds 0)).version ≡ 0
    go name [] l = refl
    go name (d ∷ ds) l = ap (λ (y : VersionAt). y.version) (starts_at name [] d (start name) refl l.0)

pub at_the_start : (h : HistoryOf) → IsLegal h.name h.deltas → IsThere h 0 0 empty_state
at_the_start h l = record { legal = l; within = omega arith; version = start_version h l; state = refl }

pub no_backs : (ds : List DeltaOf) → AreBacks ds []
no_backs ds k o e = no_value e

-- ---- moves

pub record IsOn (p : PlaybackOf) (went : Bool) (q : PlaybackOf) : Type 0 where
  pub ok : (went, q) ≡ forward p
  pub head : (IsFalse went → p.version ≡ (head_of p.history).at.version) × (p.version ≡ (head_of p.history).at.version → IsFalse went)

pub stays_on : (h : HistoryOf) (k v : ℕ) (s : State) → IsThere h k v s → k ≡ length h.deltas → IsOn (at_version h v) false (at_version h v)
stays_on h k v s t e =
    let past : slice_get h.deltas k ≡ None = slice_get_past h.deltas k (omega (arith, e)) in
    let place = is_place h k v t.legal t.within t.version in
    let none : next_end h v ≡ None = ap (λ j. option_map (λ (d : DeltaOf). d.from.version + length d.ops) (slice_get h.deltas j)) place ∙ ap (option_map (λ (d : DeltaOf). d.from.version + length d.ops)) past in
    record {
      ok = sym (ap (moved (at_version h v)) none);
      head = (λ f. sym t.version ∙ ap (λ o. (from_or (head_of h).at o).version) past, λ f. refl);
    }

pub goes_forward : (h : HistoryOf) (k v : ℕ) (s : State) → IsThere h k v s → k < length h.deltas → IsOn (at_version h v) true (at_version h (version_at h (k + 1)))
goes_forward h k v s t inside =
    let d = some_at h.deltas k inside in
    let place = is_place h k v t.legal t.within t.version in
    let n = ends_at h k d.0 t.legal d.1 in
    let one : suc k ≡ k + 1 = omega arith in
    let next : next_end h v ≡ Some (d.0.from.version + length d.0.ops) = ap (λ j. option_map (λ (x : DeltaOf). x.from.version + length x.ops) (slice_get h.deltas j)) place ∙ ap (option_map (λ (x : DeltaOf). x.from.version + length x.ops)) d.1 in
    record {
      ok = ap (λ (w : ℕ). (true, at_version h w)) (ap (version_at h) (sym one) ∙ n.end) ∙ sym (ap (moved (at_version h v)) next);
      head = (
        λ f. absurd (true≢false f),
        λ e. absurd (let whole = is_place h (length h.deltas) v t.legal (le_refl _) (head_version h ∙ sym e) in omega (arith, whole, place, inside)),
      );
    }

pub record IsOff (p : PlaybackOf) (went : Bool) (q : PlaybackOf) : Type 0 where
  pub ok : (went, q) ≡ back p
  pub start : (IsFalse went → p.version ≡ 0) × (p.version ≡ 0 → IsFalse went)

pub stays_back : (h : HistoryOf) (k v : ℕ) (s : State) → IsThere h k v s → k ≡ 0 → IsOff (at_version h v) false (at_version h v)
stays_back h k v s t e =
    let place = is_place h k v t.legal t.within t.version ∙ e in
    let none : last_start h v ≡ None = ap (λ j. option_map (λ (d : DeltaOf). d.from.version) (last_of j h.deltas)) place in
    record {
      ok = sym (ap (moved (at_version h v)) none);
      start = (λ f. sym t.version ∙ ap (version_at h) e ∙ start_version h t.legal, λ f. refl);
    }

pub goes_back : (h : HistoryOf) (k v : ℕ) (s : State) → IsThere h k v s → 0 < k → IsOff (at_version h v) true (at_version h (version_at h (k - 1)))
goes_back h zero v s t some = absurd (omega (arith, some))
goes_back h (suc k) v s t some =
    let inside : k < length h.deltas = (let w = t.within in omega (arith, w)) in
    let d = some_at h.deltas k inside in
    let place = is_place h (suc k) v t.legal t.within t.version in
    let less : suc k - 1 ≡ k = omega arith in
    let last : last_start h v ≡ Some d.0.from.version = ap (λ j. option_map (λ (x : DeltaOf). x.from.version) (last_of j h.deltas)) place ∙ ap (option_map (λ (x : DeltaOf). x.from.version)) d.1 in
    record {
      ok = ap (λ (w : ℕ). (true, at_version h w)) (ap (version_at h) less ∙ ap (λ o. (from_or (head_of h).at o).version) d.1) ∙ sym (ap (moved (at_version h v)) last);
      start = (
        λ f. absurd (true≢false f),
        λ e. absurd (let none = is_place h 0 v t.legal (omega arith) (start_version h t.legal ∙ sym e) in omega (arith, none, place)),
      );
    }

pub record IsSought (p : PlaybackOf) (v : ℕ) (went : Bool) (q : PlaybackOf) : Type 0 where
  pub ok : (went, q) ≡ sought p v
  pub end : went ≡ is_some (shown_at p.history v)

pub goes_to : (p : PlaybackOf) (k v : ℕ) (s : State) → IsLegal p.history.name p.history.deltas → count_at v (head_of p.history).at p.history.deltas ≡ Some k → state_after p.history.deltas k ≡ Some s → IsSought p v true (at_version p.history v)
goes_to p k v s l c e =
    let shown = counted_shown p.history k v s l c e in
    record { ok = sym (ap (λ o. moved p (option_map (λ (x : State). v) o)) shown); end = sym (ap is_some shown) }

pub no_end : (p : PlaybackOf) (v : ℕ) → IsLegal p.history.name p.history.deltas → count_at v (head_of p.history).at p.history.deltas ≡ None → IsSought p v false p
no_end p v l c =
    let shown = none_shown p.history v l c in
    record { ok = sym (ap (λ o. moved p (option_map (λ (x : State). v) o)) shown); end = sym (ap is_some shown) }
