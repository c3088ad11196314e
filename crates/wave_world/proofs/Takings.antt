-- A delta of the host that starts where a node stands is taken there.
use Rattle.std.proofs.Common.{◌≡◌, true, cond, not, List, [], ◌∷◌, Some, None, sym, ap, subst, ◌∙◌}
use Rattle.std.proofs.lemmas.Bool.{and_from}
use Rattle.doc_items.specs.Maps.{Key}
use Rattle.doc_op.proofs.Applying.{same_Some}
use Rattle.wave_base.specs.Versions.{same_version}
use Rattle.wave_base.proofs.Same.{same_version-refl}
use Rattle.wavelet_op.specs.Deltas.{DeltaOf}
use Rattle.delta_history.specs.Legal.{standing, may_write, IsNext, IsLegalFrom, IsLegal}
use Rattle.delta_history.specs.Points.{Point, start, acts_of, next_point, replay}
use Rattle.delta_history.proofs.Chains.{legal_after, starts_at, goes_from}
use Rattle.delta_history.proofs.Points.{and_then_is}
use Rattle.follower_rules.specs.Replicas.{ReplicaOf, may_follow, grown, absorb_to, absorb_at, absorb}
use Rattle.wave_world.specs.Worlds.{Mem, IsBegin, world_of}
use Rattle.wave_world.specs.Converged.{DeltaIsTaken, DeltaIsAbsorbed}
use Rattle.wave_world.proofs.Places.{find_at}
use Rattle.wave_world.proofs.Clients.{within_next, meets}
use Rattle.wave_world.proofs.Events.{good}

pub delta_is_taken : DeltaIsTaken
delta_is_taken name events k f d e m v =
    let c = good name events in
    let w = world_of name events in
    let x = meets name w.host w.submissions k f d c.legal (c.deltas d m) (c.followers k f e) v in
    (x.advance.after, x.advance.is, x.advance.moves)

absorbs : (name : Key) (h : List DeltaOf) (r : ReplicaOf) (p : Point) (d : DeltaOf) → IsLegal name h → IsBegin r.deltas h → Mem d h → replay (start name) r.deltas ≡ Some p → d.from.version ≡ p.at.version → (g : ReplicaOf) × (absorb name r d ≡ Some g)
absorbs name h r p d l b m e v =
    let rest = find_at name h p d r.deltas b.0 l b.1 e m v in
    let l' : IsLegalFrom name r.deltas (d ∷ rest.0) = subst (λ z. IsLegalFrom name r.deltas z) rest.1 (legal_after name [] r.deltas b.0 (subst (λ z. IsLegalFrom name [] z) (sym b.1) l)) in
    let next : IsNext name r.deltas d = l'.0 in
    let same : next.here ≡ p = same_Some (sym next.is_head ∙ e) in
    let q : Point = next.after in
    let n = goes_from name r.deltas d p e next in
    let author : may_write (standing r.deltas p d.id.author (acts_of d)) ≡ true = subst (λ z. may_write (standing r.deltas z d.id.author (acts_of d)) ≡ true) same next.author in
    let may : may_follow r.deltas d p q ≡ true = and_from _ _ next.some_ops (and_from _ _ (ap not next.new) (and_from _ _ author (within_next name r.deltas d next))) in
    let at : d.from ≡ p.at = starts_at name r.deltas d p e next in
    let version : same_version d.from p.at ≡ true = subst (λ z. same_version d.from z ≡ true) at (same_version-refl d.from) in
    let g : ReplicaOf = grown r d in
    let is : absorb_at r d p ≡ Some g = ap (λ t. cond t (absorb_to r d p (next_point p d)) None) version ∙ (ap (absorb_to r d p) n ∙ ap (λ t. cond t (Some g) None) may) in
    (g, and_then_is (replay (start name) r.deltas) (absorb_at r d) p e ∙ is)

pub delta_is_absorbed : DeltaIsAbsorbed
delta_is_absorbed name events at p d m e v =
    let c = good name events in
    let w = world_of name events in
    absorbs name w.host (w.replicas at) p d c.legal (c.replicas at) (c.deltas d m) e v
