-- Where deltas stand in a legal history, and what stays as it grows.
--     below, above          a delta before a point starts below it, one after it there or above
--     IsHere, find_at, find_here    a delta that starts at the version of a point comes next there
--     next_at, at_more, passed_more, kept_more    points, passes and what is kept, as the history grows
--     IsAnswer, IsBased, IsFrom, IsFlying     messages, submissions, deltas and flights that agree with the history
use Rattle.std.proofs.Common.{◌≡◌, ◌⊎◌, inl, inr, ℕ, ◌<◌, ◌≤◌, List, [], ◌∷◌, ◌++◌, Some, refl, sym, ap, subst, ◌∙◌, arith, append_assoc}
use Rattle.doc_items.specs.Maps.{Key}
use Rattle.wave_base.specs.Versions.{IdOf, VersionAt}
use Rattle.wavelet_op.specs.Acts.{Act, meanings}
use Rattle.wavelet_op.specs.Deltas.{DeltaOf}
use Rattle.wavelet_op.specs.Grids.{Lists, grid, pass}
use Rattle.wavelet_op.specs.States.{State, run}
use Rattle.wavelet_op.specs.declared.delta.Submission.{Submission}
use Rattle.wavelet_op.specs.declared.verdict.Verdict.TheVariants.{Ack}
use Rattle.wavelet_op.proofs.Grids.{pass_appends}
use Rattle.wavelet_op.proofs.Partial.{and_then_some}
use Rattle.delta_history.specs.declared.kept.Kept.{Kept}
use Rattle.delta_history.specs.Laws.{IsKept}
use Rattle.delta_history.specs.Legal.{IsNext, IsLegalFrom, IsLegal}
use Rattle.delta_history.specs.Passing.{all_acts, IsPassed}
use Rattle.delta_history.specs.Points.{Point, start, acts_of, version_after, next_point, replay, IsAt}
use Rattle.delta_history.proofs.Chains.{legal_front, legal_after, starts_at, goes_from, some_ops, at_longer}
use Rattle.delta_history.proofs.Points.{and_then_is, after_point, replay_append, replay_more, rises}
use Rattle.follower_rules.specs.Followers.{ClientOf, client_of, Flight}
use Rattle.wave_world.specs.Worlds.{Mem, Answer}
use Rattle.wave_world.proofs.Members.{mem_split, whole_more}

-- ---- deltas and points

pub below : (name : Key) (b xs : List DeltaOf) (p q : Point) → IsLegalFrom name b xs → replay (start name) b ≡ Some p → replay p xs ≡ Some q → (d : DeltaOf) → Mem d xs → d.from.version < q.at.version
below name b [] p q l e r d m = absurd m
below name b (x ∷ xs) p q l e r d m =
    let n = l.0 in
    let z = and_then_some (next_point p x) (λ y. replay y xs) q r in
    let a = after_point p z.0 x z.1 in
    let up : z.0.at.version ≤ q.at.version = rises z.0 q xs z.2 in
    let at : x.from.version ≡ p.at.version = ap (λ (y : VersionAt). y.version) (starts_at name b x p e n) in
    let some = some_ops name b x n in
    let first : x.from.version < q.at.version = omega (arith, a.version, some, up, at) in
    let rest : (y : DeltaOf) → Mem y xs → y.from.version < q.at.version = below name (b ++ x ∷ []) xs z.0 q l.1 (replay_more (start name) p z.0 b x e z.1) z.2 in
    elim m [ inl s ↦ subst (λ (y : DeltaOf). y.from.version < q.at.version) (sym s) first | inr t ↦ rest d t ]

pub above : (name : Key) (b xs : List DeltaOf) (p : Point) → IsLegalFrom name b xs → replay (start name) b ≡ Some p → (d : DeltaOf) → Mem d xs → p.at.version ≤ d.from.version
above name b [] p l e d m = absurd m
above name b (x ∷ xs) p l e d m =
    let n = l.0 in
    let z = goes_from name b x p e n in
    let a = after_point p n.after x z in
    let at : x.from.version ≡ p.at.version = ap (λ (y : VersionAt). y.version) (starts_at name b x p e n) in
    let first : p.at.version ≤ x.from.version = omega (arith, at) in
    let rest : (y : DeltaOf) → Mem y xs → n.after.at.version ≤ y.from.version = above name (b ++ x ∷ []) xs n.after l.1 (replay_more (start name) p n.after b x e z) in
    elim m [ inl s ↦ subst (λ (y : DeltaOf). p.at.version ≤ y.from.version) (sym s) first | inr t ↦ let u : n.after.at.version ≤ d.from.version = rest d t in omega (arith, a.version, u) ]

-- a delta of the history that starts at the version of a point comes next there
pub record IsHere (name : Key) (h : List DeltaOf) (p : Point) (d : DeltaOf) : Type 0 where
  pub before : List DeltaOf
  pub behind : List DeltaOf
  pub whole : before ++ d ∷ behind ≡ h
  pub leads : replay (start name) before ≡ Some p
  pub next : IsNext name before d

find_after : (name : Key) (b xs : List DeltaOf) (p : Point) (d : DeltaOf) → IsLegalFrom name b xs → replay (start name) b ≡ Some p → d.from.version ≡ p.at.version → Mem d xs → (rest : List DeltaOf) × (xs ≡ d ∷ rest)
find_after name b [] p d l e v m = absurd m
find_after name b (x ∷ xs) p d l e v (inl s) = (xs, ap (λ y. y ∷ xs) (sym s))
find_after name b (x ∷ xs) p d l e v (inr t) =
    let n = l.0 in
    let z = goes_from name b x p e n in
    let a = after_point p n.after x z in
    let u : n.after.at.version ≤ d.from.version = above name (b ++ x ∷ []) xs n.after l.1 (replay_more (start name) p n.after b x e z) d t in
    let some = some_ops name b x n in
    absurd (omega (arith, a.version, some, u, v))

-- it is the first after the point
pub find_at : (name : Key) (h : List DeltaOf) (p : Point) (d : DeltaOf) (before behind : List DeltaOf) → IsLegal name h → before ++ behind ≡ h → replay (start name) before ≡ Some p → Mem d h → d.from.version ≡ p.at.version → (rest : List DeltaOf) × (behind ≡ d ∷ rest)
find_at name h p d before behind l w e m v =
    let l' : IsLegalFrom name [] (before ++ behind) = subst (λ z. IsLegalFrom name [] z) (sym w) l in
    let m' : Mem d (before ++ behind) = subst (λ z. Mem d z) (sym w) m in
    let low = legal_front name [] before behind l' in
    let back = legal_after name [] before behind l' in
    elim (mem_split d before behind m') [
      | inl a ↦ (let u : d.from.version < p.at.version = below name [] before (start name) p low refl e d a in absurd (omega (arith, u, v)))
      | inr b ↦ find_after name before behind p d back e v b
    ]

pub find_here : (name : Key) (h : List DeltaOf) (p : Point) (d : DeltaOf) → IsLegal name h → IsAt name h p → Mem d h → d.from.version ≡ p.at.version → IsHere name h p d
find_here name h p d l at m v =
    let found = find_at name h p d at.before at.behind l at.whole at.leads m v in
    let l' : IsLegalFrom name [] (at.before ++ at.behind) = subst (λ z. IsLegalFrom name [] z) (sym at.whole) l in
    let back = legal_after name [] at.before at.behind l' in
    record {
      before = at.before;
      behind = found.0;
      whole = ap (λ z. at.before ++ z) (sym found.1) ∙ at.whole;
      leads = at.leads;
      next = (subst (λ z. IsLegalFrom name at.before z) found.1 back).0;
    }

-- the point after it
pub next_at : (name : Key) (h : List DeltaOf) (p q : Point) (d : DeltaOf) → IsHere name h p d → next_point p d ≡ Some q → IsAt name h q
next_at name h p q d f n = record {
  before = f.before ++ d ∷ [];
  behind = f.behind;
  whole = append_assoc f.before (d ∷ []) f.behind ∙ f.whole;
  leads = replay_more (start name) p q f.before d f.leads n;
}

-- ---- what agrees with a history

abbrev pub IsAnswer : Key → List DeltaOf → Answer → Type 0
IsAnswer name h a = (at : ℕ) (to : VersionAt) → a.verdict ≡ Ack at to → IsKept name h a.id (record { at = at; to = to })

-- the submission is valid at its base, which the history leads through
pub record IsBased (name : Key) (h : List DeltaOf) (s : Submission) : Type 0 where
  pub base : Point
  pub end : State
  pub is_base : IsAt name h base
  pub at_base : base.at ≡ s.at
  pub valid : run base.state (meanings s.ops) ≡ Some end

-- the delta is a pooled submission, passed to where the delta starts
pub record IsFrom (name : Key) (h : List DeltaOf) (subs : List Submission) (d : DeltaOf) : Type 0 where
  pub sent : Submission
  pub is_sent : Mem sent subs
  pub same : sent.id ≡ d.id
  pub passed : IsPassed name h sent.at d.from (meanings sent.ops) (acts_of d)

-- the flight is the submission as first taken, passed to where the follower is, and no delta before that has its id
pub record IsFlying (name : Key) (h : List DeltaOf) (subs : List Submission) (k : ClientOf) (here : Point) (g : Flight) : Type 0 where
  pub is_sent : Mem g.sent subs
  pub own : client_of g.sent.id ≡ k
  pub fresh : (d : DeltaOf) → Mem d h → d.from.version < here.at.version → d.id ≡ g.sent.id → ⊥
  pub passed : IsPassed name h g.sent.at here.at (meanings g.sent.ops) g.acts

-- ---- a longer history

pub at_more : (name : Key) (h : List DeltaOf) (d : DeltaOf) (p : Point) → IsAt name h p → IsAt name (h ++ d ∷ []) p
at_more name h d p a = at_longer name h (d ∷ []) p a

pub passed_more : (name : Key) (h : List DeltaOf) (d : DeltaOf) (b e : VersionAt) (acts acts' : List Act) → IsPassed name h b e acts acts' → IsPassed name (h ++ d ∷ []) b e acts acts'
passed_more name h d b e acts acts' p = record {
  before = p.before;
  between = p.between;
  behind = p.behind ++ d ∷ [];
  base = p.base;
  end = p.end;
  whole = ap (λ z. p.before ++ z) (sym (append_assoc p.between p.behind (d ∷ []))) ∙ whole_more p.before (p.between ++ p.behind) h d p.whole;
  is_base = p.is_base;
  at_base = p.at_base;
  is_end = p.is_end;
  at_end = p.at_end;
  passed = p.passed;
}

-- what is kept in the beginning of a history
pub kept_more : (name : Key) (h rest : List DeltaOf) (i : IdOf) (k : Kept) → IsKept name h i k → IsKept name (h ++ rest) i k
kept_more name h rest i k x = record {
  before = x.before;
  delta = x.delta;
  behind = x.behind ++ rest;
  after = x.after;
  whole = sym (append_assoc x.before (x.delta ∷ x.behind) rest) ∙ ap (λ z. z ++ rest) x.whole;
  is_id = x.is_id;
  is_at = x.is_at;
  leads = x.leads;
  is_to = x.is_to;
}

pub based_more : (name : Key) (h : List DeltaOf) (d : DeltaOf) (s : Submission) → IsBased name h s → IsBased name (h ++ d ∷ []) s
based_more name h d s x = record { base = x.base; end = x.end; is_base = at_more name h d x.base x.is_base; at_base = x.at_base; valid = x.valid }

pub from_more : (name : Key) (h : List DeltaOf) (subs : List Submission) (d e : DeltaOf) → IsFrom name h subs e → IsFrom name (h ++ d ∷ []) subs e
from_more name h subs d e x = record { sent = x.sent; is_sent = x.is_sent; same = x.same; passed = passed_more name h d x.sent.at e.from (meanings x.sent.ops) (acts_of e) x.passed }

pub from_sent : (name : Key) (h : List DeltaOf) (s : Submission) (subs : List Submission) (d : DeltaOf) → IsFrom name h subs d → IsFrom name h (s ∷ subs) d
from_sent name h s subs d x = record { sent = x.sent; is_sent = inr x.is_sent; same = x.same; passed = x.passed }

-- ---- acts on their way

-- the hashed version after a delta goes by the one before it and by the delta
same_after : (p q p' q' : Point) (d : DeltaOf) → p.at ≡ p'.at → next_point p d ≡ Some q → next_point p' d ≡ Some q' → q.at ≡ q'.at
same_after p q p' q' d e n n' =
    let a = after_point p q d n in
    let b = after_point p' q' d n' in
    ap (λ (x : Point). x.at) a.is ∙ ap (λ (x : VersionAt). version_after x d) e ∙ sym (ap (λ (x : Point). x.at) b.is)

all_acts_append : (xs ys : List DeltaOf) → all_acts (xs ++ ys) ≡ all_acts xs ++ all_acts ys
all_acts_append [] ys = refl
all_acts_append (x ∷ xs) ys = ap (λ z. acts_of x ∷ z) (all_acts_append xs ys)

-- acts passed to where the delta starts, passed through it too
pub passed_on : (name : Key) (h : List DeltaOf) (b : VersionAt) (p q : Point) (d : DeltaOf) (acts now : List Act) (g : Lists) → IsLegal name h → Mem d h → d.from ≡ p.at → next_point p d ≡ Some q → IsPassed name h b p.at acts now → grid now (acts_of d) ≡ Some g → IsPassed name h b q.at acts g.0
passed_on name h b p q d acts now g l m v n x e =
    let whole' : (x.before ++ x.between) ++ x.behind ≡ h = append_assoc x.before x.between x.behind ∙ x.whole in
    let leads : replay (start name) (x.before ++ x.between) ≡ Some x.end = replay_append (start name) x.before x.between ∙ and_then_is (replay (start name) x.before) (λ z. replay z x.between) x.base x.is_base ∙ x.is_end in
    let l' : IsLegalFrom name (x.before ++ x.between) x.behind = legal_after name [] (x.before ++ x.between) x.behind (subst (λ z. IsLegalFrom name [] z) (sym whole') l) in
    let found = find_at name h x.end d (x.before ++ x.between) x.behind l whole' leads m (ap (λ (z : VersionAt). z.version) (v ∙ sym x.at_end)) in
    let next : IsNext name (x.before ++ x.between) d = (subst (λ z. IsLegalFrom name (x.before ++ x.between) z) found.1 l').0 in
    let goes = goes_from name (x.before ++ x.between) d x.end leads next in
    record {
      before = x.before;
      between = x.between ++ d ∷ [];
      behind = found.0;
      base = x.base;
      end = next.after;
      whole = ap (λ z. x.before ++ z) (append_assoc x.between (d ∷ []) found.0 ∙ ap (λ z. x.between ++ z) (sym found.1)) ∙ x.whole;
      is_base = x.is_base;
      at_base = x.at_base;
      is_end = replay_more x.base x.end next.after x.between d x.is_end goes;
      at_end = same_after x.end next.after p q d x.at_end goes n;
      passed = ap (pass acts) (all_acts_append x.between (d ∷ [])) ∙ pass_appends acts (all_acts x.between) (all_acts (d ∷ [])) ∙ and_then_is (pass acts (all_acts x.between)) (λ o. pass o (all_acts (d ∷ []))) now x.passed ∙ and_then_is (grid now (acts_of d)) (λ z. pass z.0 []) g e;
    }

-- a delta with another id leaves an id fresh
pub fresh_on : (name : Key) (h : List DeltaOf) (p q : Point) (d : DeltaOf) (i : IdOf) → IsLegal name h → IsHere name h p d → next_point p d ≡ Some q → (d.id ≡ i → ⊥) → ((e : DeltaOf) → Mem e h → e.from.version < p.at.version → e.id ≡ i → ⊥) → (e : DeltaOf) → Mem e h → e.from.version < q.at.version → e.id ≡ i → ⊥
fresh_on name h p q d i l f n other old e m v same =
    let l' : IsLegalFrom name [] (f.before ++ d ∷ f.behind) = subst (λ z. IsLegalFrom name [] z) (sym f.whole) l in
    let back : IsLegalFrom name f.before (d ∷ f.behind) = legal_after name [] f.before (d ∷ f.behind) l' in
    let led = replay_more (start name) p q f.before d f.leads n in
    go l' back led (mem_split e f.before (d ∷ f.behind) (subst (λ z. Mem e z) (sym f.whole) m))
  where
    go : IsLegalFrom name [] (f.before ++ d ∷ f.behind) → IsLegalFrom name f.before (d ∷ f.behind) → replay (start name) (f.before ++ d ∷ []) ≡ Some q → Mem e f.before ⊎ Mem e (d ∷ f.behind) → ⊥
    go l' back led (inl a) = old e m (below name [] f.before (start name) p (legal_front name [] f.before (d ∷ f.behind) l') refl f.leads e a) same
    go l' back led (inr (inl b)) = other (ap (λ (z : DeltaOf). z.id) (sym b) ∙ same)
    go l' back led (inr (inr b)) =
        let u : q.at.version ≤ e.from.version = above name (f.before ++ d ∷ []) f.behind q back.1 led e b in
        absurd (omega (arith, u, v))
