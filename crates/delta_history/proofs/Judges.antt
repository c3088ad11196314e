-- The verdict: what it keeps, and what it adds.
--     judged_is     each verdict on a legal history
use Rattle.std.proofs.Common.{◌≡◌, inl, inr, ℕ, ◌+◌, ◌≤◌, Bool, true, false, ◌&&◌, nat_le, List, [], ◌∷◌, ◌++◌, length, Option, Some, None, refl, sym, ap, subst, ◌∙◌, arith, append-nil, true≢false}
use Rattle.std.proofs.lemmas.Bool.{and_parts}
use Rattle.std.proofs.lemmas.Bool.Decides.{nat_tests}
use Rattle.std.proofs.lemmas.List.{length-map}
use Rattle.std.specs.Cmp.Lexicographic.{bytes_decides}
use Rattle.doc_items.specs.Limits.{max_count}
use Rattle.doc_items.specs.Maps.{Key}
use Rattle.doc_op.proofs.Applying.{no_value, same_Some}
use Rattle.wave_base.specs.Versions.{VersionAt}
use Rattle.wavelet_op.specs.Acts.{Act, meaning, meanings, inserted}
use Rattle.wavelet_op.specs.Deltas.{DeltaOf, is_count}
use Rattle.wavelet_op.specs.Grids.{pass}
use Rattle.wavelet_op.specs.States.{State, run, first_invalid}
use Rattle.wavelet_op.specs.declared.delta.Submission.{Submission}
use Rattle.wavelet_op.specs.declared.role.Role.{Role}
use Rattle.wavelet_op.specs.declared.role.Role.TheVariants as role
use Rattle.wavelet_op.specs.declared.verdict.Verdict.{Verdict}
use Rattle.wavelet_op.specs.declared.verdict.Verdict.TheVariants.{Ack, NotParticipant, ReadOnly, UnknownVersion, WrongHash, Invalid, Full}
use Rattle.wavelet_codec.specs.Spelling.{delta_bytes}
use Rattle.delta_history.specs.declared.kept.Kept.{Kept}
use Rattle.delta_history.specs.Points.{Point, start, next_point, replay, cut}
use Rattle.delta_history.specs.Passing.{all_acts}
use Rattle.delta_history.specs.Legal.{has_id, standing, may_write, max_delta, IsLegal}
use Rattle.wavelet_state.specs.Snapshots.{max_inserted}
use Rattle.delta_history.specs.Verdicts.{kept, op_of, ops_of, accepted, is_within, same_hash, judge_kept, judge_head, judge_author, judge_base, judge_hash, judge_ops, judge_pass, judge_bounds, judge_next}
use Rattle.delta_history.specs.Laws.{IsKept, IsAdded, IsJudged, IsSpelled, EndsSpelled, JudgedIs}
use Rattle.delta_history.proofs.Points.{and_then_is, replay_append, after_point, pass_through}
use Rattle.delta_history.proofs.Keeping.{kept_is, kept_there}
use Rattle.delta_history.proofs.Versions.{IsCut, cut_is}

-- ---- verdicts that add nothing

abbrev Spells : Submission → List DeltaOf → Type 0
Spells s ds = (acts : List Act) → pass (meanings s.ops) (all_acts ds) ≡ Some acts → IsSpelled acts

abbrev is_ack : Verdict → Bool
is_ack (Ack at to) = true
is_ack NotParticipant = false
is_ack ReadOnly = false
is_ack (UnknownVersion head) = false
is_ack (WrongHash host) = false
is_ack (Invalid index) = false
is_ack (Full head) = false

refused : (name : List ℕ) (h : List DeltaOf) (s : Submission) (v : Verdict) → is_ack v ≡ false → IsJudged name h s (v, None)
refused name h s v n = inl (refl, λ at to e. absurd (true≢false (sym (ap is_ack e) ∙ n)))

-- ---- what is known once the base is found

record IsFound (name : List ℕ) (h : List DeltaOf) (s : Submission) (p b : Point) (ds : List DeltaOf) : Type 0 where
  is_head : replay (start name) h ≡ Some p
  new : has_id s.id h ≡ false
  author : may_write (standing h p s.id.author (meanings s.ops)) ≡ true
  count : is_count (length s.ops) ≡ true
  before : List DeltaOf
  whole : before ++ ds ≡ h
  is_base : replay (start name) before ≡ Some b
  at_base : b.at ≡ s.at

found_end : (name : List ℕ) (h : List DeltaOf) (s : Submission) (p b : Point) (ds : List DeltaOf) → IsFound name h s p b ds → replay b ds ≡ Some p
found_end name h s p b ds f =
    let e = subst (λ z. replay (start name) z ≡ Some p) (sym f.whole) f.is_head in
    sym (replay_append (start name) f.before ds ∙ and_then_is (replay (start name) f.before) (λ z. replay z ds) b f.is_base) ∙ e

-- in an empty history the acts stay as they are; in another the author goes by the state
abbrev first_of : List DeltaOf → Option DeltaOf
first_of [] = None
first_of (d ∷ ds) = Some d

author_stays : (h before : List DeltaOf) (p : Point) (a : Key) (acts acts' : List Act) (ds : List DeltaOf) → before ++ ds ≡ h → pass acts (all_acts ds) ≡ Some acts' → may_write (standing h p a acts) ≡ true → may_write (standing h p a acts') ≡ true
author_stays (d ∷ h) before p a acts acts' ds w e m = m
author_stays [] [] p a acts acts' ds w e m =
    let same = same_Some (sym (ap (λ z. pass acts (all_acts z)) w) ∙ e) in
    subst (λ z. may_write (standing [] p a z) ≡ true) same m
author_stays [] (x ∷ before) p a acts acts' ds w e m = no_value (sym (ap first_of w))

le_true : (a b : ℕ) → nat_le a b ≡ true → a ≤ b
le_true a b h = grind (arith, nat_tests)

record IsBounded (p : Point) (acts : List Act) (d : DeltaOf) : Type 0 where
  version : p.at.version + length acts ≤ max_count
  items : p.count + inserted acts ≤ max_inserted
  bytes : length (delta_bytes d) ≤ max_delta

bounded : (p : Point) (acts : List Act) (d : DeltaOf) → is_within p acts d ≡ true → IsBounded p acts d
bounded p acts d w =
    let x = and_parts (nat_le (p.at.version + length acts) max_count && nat_le (p.count + inserted acts) max_inserted) (nat_le (length (delta_bytes d)) max_delta) w in
    let y = and_parts (nat_le (p.at.version + length acts) max_count) (nat_le (p.count + inserted acts) max_inserted) x.0 in
    record { version = le_true _ _ y.0; items = le_true _ _ y.1; bytes = le_true _ _ x.1 }

added : (name : List ℕ) (h : List DeltaOf) (s : Submission) (t : ℕ) (p b : Point) (ds : List DeltaOf) (x : State) (acts : List Act) → IsFound name h s p b ds → run b.state (meanings s.ops) ≡ Some x → pass (meanings s.ops) (all_acts ds) ≡ Some acts → IsSpelled acts
    → IsBounded p (meanings s.ops) (accepted p s t acts) → (q : Point) → next_point p (accepted p s t acts) ≡ Some q → IsAdded name h s (Ack p.at.version q.at) (accepted p s t acts)
added name h s t p b ds x acts f v pa sp w q n =
    let th = pass_through b p (meanings s.ops) ds x v (found_end name h s p b ds f) in
    let is : th.acts' ≡ acts = same_Some (sym th.defined ∙ pa) in
    let a = after_point p q (accepted p s t acts) n in
    let long : length (ops_of acts) ≡ length s.ops = length-map acts op_of ∙ sym (ap length is) ∙ th.long ∙ length-map s.ops meaning in
    let wide : length (meanings s.ops) ≡ length s.ops = length-map s.ops meaning in
    let small : inserted acts ≤ inserted (meanings s.ops) = subst (λ z. inserted z ≤ inserted (meanings s.ops)) is th.small in
    let items : inserted (meanings (ops_of acts)) ≡ inserted acts = ap inserted sp.same in
    let pass' = pa ∙ ap Some (sym sp.same) in
    record {
      next = record {
        here = p;
        after = q;
        is_head = f.is_head;
        starts = refl;
        goes = n;
        some_ops = ap is_count long ∙ f.count;
        normal = sp.normal;
        new = f.new;
        author = author_stays h f.before p s.id.author (meanings s.ops) (meanings (ops_of acts)) ds f.whole pass' f.author;
        counted = omega (arith, a.version, w.version, long, wide);
        held = omega (arith, a.count, w.items, items, small);
        short = w.bytes;
      };
      same = refl;
      passed = record {
        before = f.before;
        between = ds;
        behind = [];
        base = b;
        end = p;
        whole = ap (λ z. f.before ++ z) (append-nil ds) ∙ f.whole;
        is_base = f.is_base;
        at_base = f.at_base;
        is_end = found_end name h s p b ds f;
        at_end = refl;
        passed = pass';
      };
      answer = refl;
    }

-- ---- test by test

judged_next : (name : List ℕ) (h : List DeltaOf) (s : Submission) (p : Point) (d : DeltaOf) (q : Option Point) → ((z : Point) → q ≡ Some z → IsAdded name h s (Ack p.at.version z.at) d) → IsJudged name h s (judge_next p d q)
judged_next name h s p d None f = refused name h s (Full p.at) refl
judged_next name h s p d (Some q) f = inr (d, refl, f q refl)

judged_bounds : (name : List ℕ) (h : List DeltaOf) (s : Submission) (p : Point) (d : DeltaOf) (o : Bool) → (o ≡ true → (z : Point) → next_point p d ≡ Some z → IsAdded name h s (Ack p.at.version z.at) d) → IsJudged name h s (judge_bounds p d o)
judged_bounds name h s p d false f = refused name h s (Full p.at) refl
judged_bounds name h s p d true f = judged_next name h s p d (next_point p d) (f refl)

judged_pass : (name : List ℕ) (h : List DeltaOf) (s : Submission) (t : ℕ) (p b : Point) (ds : List DeltaOf) (x : State) → IsFound name h s p b ds → Spells s ds → run b.state (meanings s.ops) ≡ Some x → (o : Option (List Act)) → pass (meanings s.ops) (all_acts ds) ≡ o → IsJudged name h s (judge_pass s t p o)
judged_pass name h s t p b ds x f sp v None e = refused name h s (Full p.at) refl
judged_pass name h s t p b ds x f sp v (Some acts) e = judged_bounds name h s p (accepted p s t acts) (is_within p (meanings s.ops) (accepted p s t acts)) (λ w q n. added name h s t p b ds x acts f v e (sp acts e) (bounded p (meanings s.ops) (accepted p s t acts) w) q n)

judged_ops : (name : List ℕ) (h : List DeltaOf) (s : Submission) (t : ℕ) (p b : Point) (ds : List DeltaOf) → IsFound name h s p b ds → Spells s ds → (o : Option State) → run b.state (meanings s.ops) ≡ o → IsJudged name h s (judge_ops s t p b ds o)
judged_ops name h s t p b ds f sp None e = refused name h s (Invalid (first_invalid b.state (meanings s.ops))) refl
judged_ops name h s t p b ds f sp (Some x) e = judged_pass name h s t p b ds x f sp e (pass (meanings s.ops) (all_acts ds)) refl

-- what is known once the author may write
record IsOpen (name : List ℕ) (h : List DeltaOf) (s : Submission) (p : Point) : Type 0 where
  is_head : replay (start name) h ≡ Some p
  new : has_id s.id h ≡ false
  author : may_write (standing h p s.id.author (meanings s.ops)) ≡ true
  count : is_count (length s.ops) ≡ true
  spelled : EndsSpelled name h s

judged_hash : (name : List ℕ) (h : List DeltaOf) (s : Submission) (t : ℕ) (p b : Point) (ds : List DeltaOf) → IsOpen name h s p → Spells s ds → IsCut (start name) s.at.version h b ds → (o : Bool) → same_hash s.at.hash b.at.hash ≡ o → IsJudged name h s (judge_hash s t p b ds o)
judged_hash name h s t p b ds f sp c false e = refused name h s (WrongHash b.at.hash) refl
judged_hash name h s t p b ds f sp c true e =
    let hash = sym ((bytes_decides s.at.hash b.at.hash).0 e) in
    let at : b.at ≡ s.at = λ i. record { version = c.version i; hash = hash i } in
    judged_ops name h s t p b ds (record { is_head = f.is_head; new = f.new; author = f.author; count = f.count; before = c.before; whole = c.whole; is_base = c.leads; at_base = at }) sp (run b.state (meanings s.ops)) refl

judged_base : (name : List ℕ) (h : List DeltaOf) (s : Submission) (t : ℕ) (p : Point) → IsOpen name h s p → (o : Option (Point × List DeltaOf)) → cut (start name) s.at.version h ≡ o → IsJudged name h s (judge_base s t p o)
judged_base name h s t p f None e = refused name h s (UnknownVersion p.at) refl
judged_base name h s t p f (Some c) e = judged_hash name h s t p c.0 c.1 f (λ acts g. f.spelled c.0 c.1 acts e g) (cut_is (start name) s.at.version h c.0 c.1 e) (same_hash s.at.hash c.0.at.hash) refl

judged_author : (name : List ℕ) (h : List DeltaOf) (s : Submission) (t : ℕ) (p : Point) → (o : Option Role) → (may_write o ≡ true → IsOpen name h s p) → IsJudged name h s (judge_author name h s t p o)
judged_author name h s t p None f = refused name h s NotParticipant refl
judged_author name h s t p (Some role.ReadOnly) f = refused name h s ReadOnly refl
judged_author name h s t p (Some role.Full) f = judged_base name h s t p (f refl) (cut (start name) s.at.version h) refl

judged_head : (name : List ℕ) (h : List DeltaOf) (s : Submission) (t : ℕ) → has_id s.id h ≡ false → is_count (length s.ops) ≡ true → EndsSpelled name h s → (o : Option Point) → replay (start name) h ≡ o → IsJudged name h s (judge_head name h s t o)
judged_head name h s t n c sp None e = refused name h s NotParticipant refl
judged_head name h s t n c sp (Some p) e = judged_author name h s t p (standing h p s.id.author (meanings s.ops)) (λ a. record { is_head = e; new = n; author = a; count = c; spelled = sp })

-- ---- acknowledgements

abbrev ack_at : Verdict → ℕ
ack_at (Ack at to) = at
ack_at NotParticipant = 0
ack_at ReadOnly = 0
ack_at (UnknownVersion head) = 0
ack_at (WrongHash host) = 0
ack_at (Invalid index) = 0
ack_at (Full head) = 0

abbrev ack_to : VersionAt → Verdict → VersionAt
ack_to d (Ack at to) = to
ack_to d NotParticipant = d
ack_to d ReadOnly = d
ack_to d (UnknownVersion head) = d
ack_to d (WrongHash host) = d
ack_to d (Invalid index) = d
ack_to d (Full head) = d

same_ack : (k : Kept) (at : ℕ) (to : VersionAt) → Ack k.at k.to ≡ Ack at to → k ≡ record { at = at; to = to }
same_ack k at to e = λ i. record { at = ack_at (e i); to = ack_to k.to (e i) }

judged_kept : (name : List ℕ) (h : List DeltaOf) (s : Submission) (t : ℕ) → IsLegal name h → is_count (length s.ops) ≡ true → EndsSpelled name h s → (o : Option Kept) → kept s.id (start name) h ≡ o → IsJudged name h s (judge_kept name h s t o)
judged_kept name h s t l c sp (Some k) e = inl (refl, λ at to v. subst (λ z. IsKept name h s.id z) (same_ack k at to v) (kept_is name h s.id k l e))
judged_kept name h s t l c sp None e = judged_head name h s t (kept_there name h s.id l e) c sp (replay (start name) h) refl

pub judged_is : JudgedIs
judged_is name h s t l c sp = judged_kept name h s t l c sp (kept s.id (start name) h) refl
