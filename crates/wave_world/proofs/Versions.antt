-- What holds after all events, said by versions of the history.
use Rattle.std.proofs.Common.{◌≡◌, inl, ℕ, ◌+◌, ◌≤◌, List, [], ◌∷◌, ◌++◌, length, Some, refl, sym, ap, subst, ◌∙◌, arith, append_assoc}
use Rattle.doc_items.specs.Maps.{Key}
use Rattle.doc_op.proofs.Applying.{same_Some}
use Rattle.wave_base.specs.Versions.{IdOf, VersionAt}
use Rattle.wavelet_op.specs.Acts.{Act, meanings}
use Rattle.wavelet_op.specs.Deltas.{DeltaOf}
use Rattle.wavelet_op.specs.declared.delta.Submission.{Submission}
use Rattle.wavelet_op.proofs.Partial.{and_then_some}
use Rattle.delta_history.specs.Laws.{IsKept}
use Rattle.delta_history.specs.Legal.{IsLegalFrom, IsLegal}
use Rattle.delta_history.specs.Passing.{IsPassed}
use Rattle.delta_history.specs.Points.{Point, start, acts_of, next_point, replay, point_at}
use Rattle.delta_history.proofs.Chains.{legal_after, starts_at}
use Rattle.delta_history.proofs.Points.{after_point, replay_append, rises}
use Rattle.delta_history.proofs.Versions.{point_is, pass_is}
use Rattle.follower_rules.specs.Followers.{ClientOf, Flight, FollowerOf}
use Rattle.wave_world.specs.Worlds.{Mem, World, world_of}
use Rattle.wave_world.specs.Converged.{IsAckOf, IsValidAt, IsSentAs, IsInFlight, IsFollowing, IsConverged, WorldConverges}
use Rattle.wave_world.proofs.Members.{mem_right}
use Rattle.wave_world.proofs.Places.{IsBased, IsFrom, IsFlying}
use Rattle.wave_world.proofs.Clients.{IsFollower}
use Rattle.wave_world.proofs.Events.{IsGood, good}

base_below : (name : Key) (h : List DeltaOf) (b e : VersionAt) (acts now : List Act) → IsPassed name h b e acts now → b.version ≤ e.version
base_below name h b e acts now x =
    let u : x.base.at.version ≡ b.version = ap (λ (z : VersionAt). z.version) x.at_base in
    let v : x.end.at.version ≡ e.version = ap (λ (z : VersionAt). z.version) x.at_end in
    omega (arith, rises x.base x.end x.between x.is_end, u, v)

ack_of : (name : Key) (h : List DeltaOf) (i : IdOf) (at : ℕ) (to : VersionAt) → IsLegal name h → IsKept name h i (record { at = at; to = to }) → IsAckOf name h i at to
ack_of name h i at to l k =
    let p = and_then_some (replay (start name) k.before) (λ q. replay q (k.delta ∷ [])) k.after (sym (replay_append (start name) k.before (k.delta ∷ [])) ∙ k.leads) in
    let n = and_then_some (next_point p.0 k.delta) (λ q. Some q) k.after p.2 in
    let l' : IsLegalFrom name [] (k.before ++ k.delta ∷ k.behind) = subst (λ z. IsLegalFrom name [] z) (sym k.whole) l in
    let next = (legal_after name [] k.before (k.delta ∷ k.behind) l').0 in
    let v : k.delta.from.version ≡ p.0.at.version = ap (λ (z : VersionAt). z.version) (starts_at name k.before k.delta p.0 p.1 next) in
    let a = after_point p.0 n.0 k.delta n.1 in
    let same : n.0.at.version ≡ k.after.at.version = ap (λ (z : Point). z.at.version) (same_Some n.2) in
    let version : k.after.at.version ≡ at + length k.delta.ops = omega (arith, a.version, v, same, k.is_at) in
    let there : point_at name h k.after.at.version ≡ Some k.after = point_is name h k.after l (record { before = k.before ++ k.delta ∷ []; behind = k.behind; whole = append_assoc k.before (k.delta ∷ []) k.behind ∙ k.whole; leads = k.leads }) in
    record {
      delta = k.delta;
      is_kept = subst (λ z. Mem k.delta z) k.whole (mem_right k.delta k.before (k.delta ∷ k.behind) (inl refl));
      is_id = k.is_id;
      is_at = k.is_at;
      after = k.after;
      is_after = subst (λ z. point_at name h z ≡ Some k.after) version there;
      is_to = k.is_to;
    }

valid_at : (name : Key) (h : List DeltaOf) (s : Submission) → IsLegal name h → IsBased name h s → IsValidAt name h s
valid_at name h s l x = record { base = x.base; is_base = subst (λ (z : VersionAt). point_at name h z.version ≡ Some x.base) x.at_base (point_is name h x.base l x.is_base); at_base = x.at_base; end = x.end; valid = x.valid }

sent_as : (name : Key) (h : List DeltaOf) (subs : List Submission) (d : DeltaOf) → IsLegal name h → IsFrom name h subs d → IsSentAs name h subs d
sent_as name h subs d l x = record {
  sent = x.sent;
  is_sent = x.is_sent;
  same = x.same;
  below = base_below name h x.sent.at d.from (meanings x.sent.ops) (acts_of d) x.passed;
  passed = pass_is name h x.sent.at d.from (meanings x.sent.ops) (acts_of d) l x.passed;
}

in_flight : (name : Key) (h : List DeltaOf) (subs : List Submission) (k : ClientOf) (here : Point) (g : Flight) → IsLegal name h → IsFlying name h subs k here g → IsInFlight name h subs k here.at.version g
in_flight name h subs k here g l x = record {
  is_sent = x.is_sent;
  own = x.own;
  below = base_below name h g.sent.at here.at (meanings g.sent.ops) g.acts x.passed;
  fresh = x.fresh;
  passed = pass_is name h g.sent.at here.at (meanings g.sent.ops) g.acts l x.passed;
}

following : (name : Key) (h : List DeltaOf) (subs : List Submission) (k : ClientOf) (f : FollowerOf) → IsLegal name h → IsFollower name h subs k f → IsFollowing name h subs k f
following name h subs k f l c = record {
  once = c.once;
  numbers = c.numbers;
  sound = λ s m p. valid_at name h s l (c.based s m p);
  own = λ d m p. sent_as name h subs d l (c.own d m p);
  here = point_is name h f.here l c.here;
  flight = λ g e. in_flight name h subs k f.here g l (c.flight g e);
  shown = c.sound.shown;
  is_shown = c.sound.is_shown;
  held = c.sound.held;
}

pub by_versions : (name : Key) (w : World) → IsGood name w → IsConverged name w
by_versions name w c = record {
  legal = c.legal;
  deltas = c.deltas;
  answers = λ a m at to e. ack_of name w.host a.id at to c.legal (c.answers a m at to e);
  replicas = c.replicas;
  sources = c.sources;
  snapshots = λ p m. point_is name w.host p c.legal (c.snapshots p m);
  followers = λ k f e. following name w.host w.submissions k f c.legal (c.followers k f e);
}

pub world_converges : WorldConverges
world_converges name events = by_versions name (world_of name events) (good name events)
