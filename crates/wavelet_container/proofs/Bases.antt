-- Where a submission was made.
--     state_at_base        so it is after the first k deltas of a history
--     at_end               it is the one at the head after all of them
--     valid_all            the deltas of a legal history are valid in turn
--     opened, based        what is left to test once the id is new, and once the author may write
--     not_found, found     no delta ends at a version; one does
--     started_cut          the place of a point among the deltas
--     hash_turned          the test of hashes, the other way round
--     is_base, is_other    the hash there is that of the submission, or another
use Rattle.std.proofs.Common.{◌≡◌, ℕ, suc, ◌+◌, ◌<◌, ◌≤◌, Bool, true, false, cond, nat_lt, List, [], ◌∷◌, ◌++◌, length, take, drop, Option, Some, None, IsSome, true≢false, refl, sym, ap, subst, ◌∙◌, arith}
use Rattle.std.specs.Cmp.Lexicographic.{bytes_decides}
use Rattle.std.specs.Option.{option_map}
use Rattle.std.proofs.lemmas.Bool.Decides.{nat_tests}
use Rattle.std.proofs.lemmas.List.{take_all, take_at, drop_at, length-append}
use Rattle.doc_op.proofs.Applying.{no_value, same_Some, mapped}
use Rattle.wave_base.specs.Versions.{VersionAt}
use Rattle.wavelet_op.specs.Acts.{meanings}
use Rattle.wavelet_op.specs.Deltas.{DeltaOf}
use Rattle.wavelet_op.specs.States.{State, empty_state, run}
use Rattle.wavelet_op.specs.declared.delta.Submission.{Submission}
use Rattle.wavelet_op.specs.declared.verdict.Verdict.TheVariants.{UnknownVersion, WrongHash}
use Rattle.wavelet_op.proofs.Partial.{and_then_some}
use Rattle.delta_history.specs.Histories.{HistoryOf, head_of, hash_found}
use Rattle.delta_history.specs.Legal.{standing, may_write, IsLegalFrom, IsLegal}
use Rattle.delta_history.specs.Places.{started_below}
use Rattle.delta_history.specs.Points.{Point, start, next_point, replay, cut, point_at}
use Rattle.delta_history.specs.Verdicts.{kept, same_hash, judge_kept, judge_head, judge_author, judge_base, judge_hash, judge_ops}
use Rattle.delta_history.proofs.Chains.{some_ops, starts_at, goes_from}
use Rattle.delta_history.proofs.Finding.{legal_end}
use Rattle.delta_history.proofs.Keeping.{kept_there}
use Rattle.delta_history.proofs.Points.{after_point, replay_more, rises, run_some}
use Rattle.delta_history.proofs.Versions.{cut_is}
use Rattle.delta_history.specs.Points.{run_all}
use Rattle.state_cache.specs.States.{state_after}
use Rattle.wavelet_container.specs.Decisions.{judged, MayWrite, IsBase}

-- ---- states

pub state_at_base : (h : HistoryOf) (k : ℕ) (p : Point) → replay (start h.name) (take k h.deltas) ≡ Some p → state_after h.deltas k ≡ Some p.state
state_at_base h k p e = run_some (start h.name) p (take k h.deltas) e

pub valid_all : (name : List ℕ) (ds : List DeltaOf) → IsLegal name ds → IsSome (run_all empty_state ds)
valid_all name ds l = subst IsSome (sym (run_some (start name) _ ds (legal_end name ds l))) refl

pub valid_here : (name : List ℕ) (ds es : List DeltaOf) → es ≡ ds → IsLegal name ds → IsSome (run_all empty_state es)
valid_here name ds es e l = subst (λ z. IsSome (run_all empty_state z)) (sym e) (valid_all name ds l)

pub at_end : (h g : HistoryOf) (k : ℕ) (ds : List DeltaOf) (s t : State) → h ≡ g → ds ≡ h.deltas → IsLegal h.name h.deltas → k ≡ length ds → t ≡ (head_of h).state → s ≡ t → state_after g.deltas k ≡ Some s
at_end h g k ds s t same is l long head e =
    let here : take k h.deltas ≡ h.deltas = take_all k h.deltas (let n = ap length is in omega (arith, n, long)) in
    ap (λ (z : HistoryOf). state_after z.deltas k) (sym same) ∙ ap (run_all empty_state) here ∙ run_some (start h.name) (head_of h) h.deltas (legal_end h.name h.deltas l) ∙ ap Some (sym (e ∙ head))

-- ---- the first tests

pub opened : (h : HistoryOf) (s : Submission) (t : ℕ) → IsLegal h.name h.deltas → kept s.id (start h.name) h.deltas ≡ None → judged h s t ≡ judge_author h.name h.deltas s t (head_of h) (standing h.deltas (head_of h) s.id.author (meanings s.ops))
opened h s t l e = ap (judge_kept h.name h.deltas s t) e ∙ ap (judge_head h.name h.deltas s t) (legal_end h.name h.deltas l)

pub based : (h : HistoryOf) (s : Submission) (t : ℕ) → MayWrite h s → judged h s t ≡ judge_base s t (head_of h) (cut (start h.name) s.at.version h.deltas)
based h s t m = opened h s t m.legal m.new ∙ ap (judge_author h.name h.deltas s t (head_of h)) m.author

none_under : {A B : Type 0} (f : A → B) (o : Option A) → option_map f o ≡ None → o ≡ None
none_under f None e = refl
none_under f (Some x) e = no_value (sym e)

pub not_found : (h : HistoryOf) (s : Submission) → MayWrite h s → hash_found h s.at.version ≡ None → (t : ℕ) → judged h s t ≡ (UnknownVersion (head_of h).at, None)
not_found h s m e t =
    let point = none_under (λ (p : Point). p.at.hash) (point_at h.name h.deltas s.at.version) e in
    let none = none_under (λ (c : Point × List DeltaOf). c.0) (cut (start h.name) s.at.version h.deltas) point in
    based h s t m ∙ ap (judge_base s t (head_of h)) none

pub record IsFound (h : HistoryOf) (s : Submission) (host : List ℕ) : Type 0 where
  pub base : Point
  pub since : List DeltaOf
  pub found : cut (start h.name) s.at.version h.deltas ≡ Some (base, since)
  pub hash : base.at.hash ≡ host

pub found : (h : HistoryOf) (s : Submission) (host : List ℕ) → hash_found h s.at.version ≡ Some host → IsFound h s host
found h s host e =
    let m = mapped (λ (p : Point). p.at.hash) (point_at h.name h.deltas s.at.version) host e in
    let c = mapped (λ (c : Point × List DeltaOf). c.0) (cut (start h.name) s.at.version h.deltas) m.value m.had in
    record { base = (c.value).0; since = (c.value).1; found = c.had; hash = ap (λ (p : Point). p.at.hash) c.gives ∙ m.gives }

pub is_other : (h : HistoryOf) (s : Submission) (host : List ℕ) → MayWrite h s → hash_found h s.at.version ≡ Some host → same_hash s.at.hash host ≡ false → (t : ℕ) → judged h s t ≡ (WrongHash host, None)
is_other h s host m e differs t =
    let f = found h s host e in
    based h s t m ∙ ap (judge_base s t (head_of h)) f.found
    ∙ ap (judge_hash s t (head_of h) f.base f.since) (ap (same_hash s.at.hash) f.hash ∙ differs)
    ∙ ap (λ z. (WrongHash z, None)) f.hash

pub hash_turned : (a b : List ℕ) → same_hash a b ≡ false → same_hash b a ≡ false
hash_turned a b e = go (same_hash b a) refl
  where
    go : (c : Bool) → same_hash b a ≡ c → c ≡ false
    go false f = refl
    go true f = absurd (true≢false (sym ((bytes_decides a b).1 (sym ((bytes_decides b a).0 f))) ∙ e))

-- ---- the place

false_lt : (a b : ℕ) → b ≤ a → nat_lt a b ≡ false
false_lt a b h = grind (arith, nat_tests)

true_lt : (a b : ℕ) → a < b → nat_lt a b ≡ true
true_lt a b h = grind (arith, nat_tests)

started_from : (name : List ℕ) (b before since : List DeltaOf) (p q : Point) → IsLegalFrom name b (before ++ since) → replay (start name) b ≡ Some p → replay p before ≡ Some q → started_below q.at.version (before ++ since) ≡ length before
started_from name b [] [] p q l e r = refl
started_from name b [] (d ∷ since) p q l e r =
    let from : d.from.version ≡ p.at.version = ap (λ (y : VersionAt). y.version) (starts_at name b d p e l.0) in
    let here : p.at.version ≡ q.at.version = ap (λ (z : Point). z.at.version) (same_Some r) in
    ap (λ t. cond t (suc (started_below q.at.version since)) 0) (false_lt d.from.version q.at.version (omega (arith, from, here)))
started_from name b (d ∷ before) since p q l e r =
    let n = l.0 in
    let z = goes_from name b d p e n in
    let m = and_then_some (next_point p d) (λ y. replay y before) q r in
    let same : n.after ≡ m.0 = same_Some (sym z ∙ m.1) in
    let a = after_point p m.0 d m.1 in
    let up : (m.0).at.version ≤ q.at.version = rises m.0 q before m.2 in
    let some = some_ops name b d n in
    let from : d.from.version ≡ p.at.version = ap (λ (y : VersionAt). y.version) (starts_at name b d p e n) in
    let rest = started_from name (b ++ d ∷ []) before since m.0 q l.1 (replay_more (start name) p m.0 b d e m.1) m.2 in
    ap (λ t. cond t (suc (started_below q.at.version (before ++ since))) 0) (true_lt d.from.version q.at.version (omega (arith, from, a.version, up, some))) ∙ ap suc rest

pub is_base : (h : HistoryOf) (s : Submission) (host : List ℕ) → MayWrite h s → hash_found h s.at.version ≡ Some host → host ≡ s.at.hash → same_hash s.at.hash host ≡ true → IsBase h s (started_below s.at.version h.deltas)
is_base h s host m e is same =
    let f = found h s host e in
    let c = cut_is (start h.name) s.at.version h.deltas f.base f.since f.found in
    let whole : c.before ++ f.since ≡ h.deltas = c.whole in
    let legal : IsLegalFrom h.name [] (c.before ++ f.since) = subst (λ z. IsLegalFrom h.name [] z) (sym whole) m.legal in
    let place : started_below s.at.version h.deltas ≡ length c.before =
    ap (started_below s.at.version) (sym whole) ∙ ap (λ v. started_below v (c.before ++ f.since)) (sym c.version) ∙ started_from h.name [] c.before f.since (start h.name) f.base legal refl c.leads in
    let long : length h.deltas ≡ length c.before + length f.since = ap length (sym whole) ∙ length-append c.before f.since in
    let front : take (started_below s.at.version h.deltas) h.deltas ≡ c.before = (λ i. take (place i) (sym whole i)) ∙ take_at c.before f.since (length c.before) refl in
    let back : drop (started_below s.at.version h.deltas) h.deltas ≡ f.since = (λ i. drop (place i) (sym whole i)) ∙ drop_at c.before f.since (length c.before) refl in
    record {
      inside = omega (arith, place, long);
      base = f.base;
      leads = ap (replay (start h.name)) front ∙ c.leads;
      made = λ i. record { version = c.version i; hash = (f.hash ∙ is) i };
      new = kept_there h.name h.deltas s.id m.legal m.new;
      author = ap may_write m.author;
      left = λ t.
          based h s t m ∙ ap (judge_base s t (head_of h)) f.found
          ∙ ap (judge_hash s t (head_of h) f.base f.since) (ap (same_hash s.at.hash) f.hash ∙ same)
          ∙ ap (λ z. judge_ops s t (head_of h) f.base z (run f.base.state (meanings s.ops))) (sym back);
    }
