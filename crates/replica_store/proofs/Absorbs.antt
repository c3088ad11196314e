-- The one definition of the delta that may come next: that of histories is that of copies in the world.
--     next_of           the delta by which a history grew could come next
--     takes             a copy in the world absorbs the delta that may come next
--     takes_next        what it absorbs may come next
--     absorbed_illegal  the answer to a delta that starts at the head and may not come next
use Rattle.std.proofs.Common.{◌≡◌, ◌<◌, ◌≤◌, ℕ, Bool, true, false, not, cond, ◌&&◌, nat_le, nat_lt, List, [], ◌∷◌, ◌++◌, length, Option, Some, None, refl, sym, ap, subst, ◌∙◌, arith}
use Rattle.std.specs.Cmp.Lexicographic.{bytes_decides}
use Rattle.std.proofs.lemmas.Bool.{and_parts, and_from}
use Rattle.std.proofs.lemmas.Bool.Decides.{nat_tests}
use Rattle.doc_items.specs.Maps.{Key}
use Rattle.doc_op.proofs.Applying.{no_value}
use Rattle.wave_base.specs.Versions.{VersionAt, same_version}
use Rattle.wave_base.proofs.Same.{same_version-is, same_version-refl}
use Rattle.wavelet_op.specs.Acts.{AreNormal}
use Rattle.wavelet_op.specs.Deltas.{DeltaOf, is_count}
use Rattle.wavelet_op.proofs.Partial.{and_then_some}
use Rattle.delta_history.specs.Histories.{HistoryOf, head_of, IsGrown}
use Rattle.delta_history.specs.Legal.{has_id, standing, may_write, IsNext, IsLegal}
use Rattle.delta_history.specs.Verdicts.{same_hash}
use Rattle.delta_history.specs.Points.{Point, start, acts_of, next_point, replay}
use Rattle.delta_history.proofs.Chains.{legal_after, goes_on}
use Rattle.delta_history.proofs.Points.{and_then_is}
use Rattle.follower_rules.specs.Followers.{FollowerOf}
use Rattle.follower_rules.specs.Receiving.{Over, over, is_within, advance_with, advance_within, advance_to, advance, receive_hash, receive_gap, receive_old}
use Rattle.follower_rules.specs.Replicas.{ReplicaOf, may_follow, grown, absorb_to, absorb_at, absorb}
use Rattle.peer_turns.specs.declared.absorbed.Absorbed.{Absorbed}
use Rattle.peer_turns.specs.declared.absorbed.Absorbed.TheVariants.{NotLegal}
use Rattle.replica_store.specs.Absorbing.{onlooker, taken_if, answer_as, absorbed}
use Rattle.replica_store.specs.Copies.{CopyOf, in_world}

pub next_of : (g h : HistoryOf) (d : DeltaOf) → IsGrown g d h → IsLegal h.name h.deltas → IsNext g.name g.deltas d
next_of g h d w l =
    let here : IsLegal g.name (g.deltas ++ d ∷ []) = subst (λ n. IsLegal n (g.deltas ++ d ∷ [])) w.name (subst (IsLegal h.name) w.deltas l) in
    (legal_after g.name [] g.deltas (d ∷ []) here).0

-- ---- the copy in the world

true_le : (a b : ℕ) → a ≤ b → nat_le a b ≡ true
true_le a b h = grind (arith, nat_tests)

le_true : (a b : ℕ) → nat_le a b ≡ true → a ≤ b
le_true a b h = grind (arith, nat_tests)

not_true : (b : Bool) → not b ≡ true → b ≡ false
not_true true e = sym e
not_true false e = refl

within_next : (name : Key) (ds : List DeltaOf) (d : DeltaOf) (n : IsNext name ds d) → is_within n.after d ≡ true
within_next name ds d n = and_from _ _ (and_from _ _ (true_le _ _ n.counted) (true_le _ _ n.held)) (true_le _ _ n.short)

pub takes : (name : Key) (r : ReplicaOf) (d : DeltaOf) → IsNext name r.deltas d → absorb name r d ≡ Some (grown r d)
takes name r d n =
    let p : Point = n.here in
    let q : Point = n.after in
    let may : may_follow r.deltas d p q ≡ true = and_from _ _ n.some_ops (and_from _ _ (ap not n.new) (and_from _ _ n.author (within_next name r.deltas d n))) in
    let version : same_version d.from p.at ≡ true = subst (λ z. same_version d.from z ≡ true) n.starts (same_version-refl d.from) in
    let is : absorb_at r d p ≡ Some (grown r d) = ap (λ t. cond t (absorb_to r d p (next_point p d)) None) version ∙ (ap (absorb_to r d p) n.goes ∙ ap (λ t. cond t (Some (grown r d)) None) may) in
    and_then_is (replay (start name) r.deltas) (absorb_at r d) p n.is_head ∙ is

-- a test that was passed, and what stood under it
record Passed {A : Type 0} (b : Bool) (o : Option A) (x : A) : Type 0 where
  test : b ≡ true
  rest : o ≡ Some x

passed : {A : Type 0} (b : Bool) (o : Option A) (x : A) → cond b o None ≡ Some x → Passed b o x
passed true o x h = record { test = refl; rest = h }
passed false o x h = no_value h

pub takes_next : (name : Key) (r g : ReplicaOf) (d : DeltaOf) → AreNormal d.ops → absorb name r d ≡ Some g → IsNext name r.deltas d
takes_next name r g d normal e =
    let x = and_then_some (replay (start name) r.deltas) (absorb_at r d) g e in
    let y = passed (same_version d.from x.0.at) (absorb_to r d x.0 (next_point x.0 d)) g x.2 in
    go x.0 x.1 (same_version-is d.from x.0.at y.test) (next_point x.0 d) refl y.rest
  where
    go : (p : Point) → replay (start name) r.deltas ≡ Some p → d.from ≡ p.at → (o : Option Point) → next_point p d ≡ o → absorb_to r d p o ≡ Some g → IsNext name r.deltas d
    go p head starts None goes h = no_value h
    go p head starts (Some q) goes h =
        let may = (passed (may_follow r.deltas d p q) (Some (grown r d)) g h).test in
        let a = and_parts (is_count (length d.ops)) (not (has_id d.id r.deltas) && (may_write (standing r.deltas p d.id.author (acts_of d)) && is_within q d)) may in
        let b = and_parts (not (has_id d.id r.deltas)) (may_write (standing r.deltas p d.id.author (acts_of d)) && is_within q d) a.1 in
        let c = and_parts (may_write (standing r.deltas p d.id.author (acts_of d))) (is_within q d) b.1 in
        let w = and_parts (nat_le q.at.version _ && nat_le q.count _) (nat_le (length _) _) c.1 in
        let v = and_parts (nat_le q.at.version _) (nat_le q.count _) w.0 in
        record {
          here = p;
          after = q;
          is_head = head;
          starts = starts;
          goes = goes;
          some_ops = a.0;
          normal = normal;
          new = not_true (has_id d.id r.deltas) b.0;
          author = c.0;
          counted = le_true _ _ v.0;
          held = le_true _ _ v.1;
          short = le_true _ _ w.1;
        }

-- ---- the answer

true_lt : (a b : ℕ) → a < b → nat_lt a b ≡ true
true_lt a b h = grind (arith, nat_tests)

false_lt : (a b : ℕ) → b ≤ a → nat_lt a b ≡ false
false_lt a b h = grind (arith, nat_tests)

abbrev answer_old : CopyOf → DeltaOf → Bool → Absorbed
answer_old c d b = answer_as (receive_old (onlooker c.history) d b).0 (absorb c.history.name (in_world c) d)

abbrev answer_gap : CopyOf → DeltaOf → Bool → Absorbed
answer_gap c d b = answer_as (receive_gap (onlooker c.history) d b).0 (absorb c.history.name (in_world c) d)

abbrev answer_hash : CopyOf → DeltaOf → Bool → Absorbed
answer_hash c d b = answer_as (receive_hash (onlooker c.history) d b).0 (absorb c.history.name (in_world c) d)

at_version : (c : CopyOf) (d : DeltaOf) → (head_of c.history).at.version ≤ d.from.version → d.from.version ≤ (head_of c.history).at.version → absorbed c d ≡ answer_hash c d (same_hash d.from.hash (head_of c.history).at.hash)
at_version c d low high = ap (answer_old c d) (false_lt d.from.version (head_of c.history).at.version low) ∙ ap (answer_gap c d) (false_lt (head_of c.history).at.version d.from.version high)

-- a follower with nothing pending refuses a delta that starts where it is, or advances
stays_or_moves : (f : FollowerOf) (d : DeltaOf) (o : Option Over) (r : Option ReplicaOf) → answer_as (advance f d o).0 r ≡ taken_if r
stays_or_moves f d o r = go (next_point f.here d)
  where
    moves : (q : Point) (o : Option Over) → answer_as (advance_with f d q o).0 r ≡ taken_if r
    moves q None = refl
    moves q (Some x) = refl

    fits : (q : Point) (b : Bool) → answer_as (advance_within f d o q b).0 r ≡ taken_if r
    fits q false = refl
    fits q true = moves q o

    go : (p : Option Point) → answer_as (advance_to f d o p).0 r ≡ taken_if r
    go None = refl
    go (Some q) = fits q (is_within q d)

absorbed_here : (c : CopyOf) (d : DeltaOf) → d.from ≡ (head_of c.history).at → absorbed c d ≡ taken_if (absorb c.history.name (in_world c) d)
absorbed_here c d e =
    let version : d.from.version ≡ (head_of c.history).at.version = ap (λ (v : VersionAt). v.version) e in
    let hash : same_hash d.from.hash (head_of c.history).at.hash ≡ true = (bytes_decides d.from.hash (head_of c.history).at.hash).1 (ap (λ (v : VersionAt). v.hash) e) in
    at_version c d (omega (arith, version)) (omega (arith, version)) ∙ ap (answer_hash c d) hash
    ∙ stays_or_moves (onlooker c.history) d (over None [] (acts_of d)) (absorb c.history.name (in_world c) d)

pub absorbed_illegal : (c : CopyOf) (d : DeltaOf) → d.from ≡ (head_of c.history).at → IsLegal c.history.name c.history.deltas → AreNormal d.ops → ¬ (IsLegal c.history.name (c.history.deltas ++ d ∷ [])) → absorbed c d ≡ NotLegal
absorbed_illegal c d e l normal other = absorbed_here c d e ∙ go (absorb c.history.name (in_world c) d) refl
  where
    go : (o : Option ReplicaOf) → absorb c.history.name (in_world c) d ≡ o → taken_if o ≡ NotLegal
    go None h = refl
    go (Some g) h = absurd (other (goes_on c.history.name c.history.deltas d l (takes_next c.history.name (in_world c) g d normal h)))
