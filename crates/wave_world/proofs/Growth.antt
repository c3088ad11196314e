-- The host's history only grows.
use Rattle.std.proofs.Common.{◌≡◌, ℕ, Bool, true, false, cond, not, ◌&&◌, List, [], ◌∷◌, ◌++◌, length, Option, Some, None, slice_get, is_none, refl, sym, ap, subst, ◌∙◌, append_assoc, append-nil}
use Rattle.doc_items.specs.Maps.{Key}
use Rattle.wave_base.specs.Versions.{IdOf}
use Rattle.wavelet_op.specs.Deltas.{DeltaOf, is_count}
use Rattle.wavelet_op.specs.declared.delta.Submission.{Submission}
use Rattle.delta_history.specs.declared.kept.Kept.{Kept}
use Rattle.delta_history.specs.Points.{Point}
use Rattle.delta_history.specs.Verdicts.{judge}
use Rattle.follower_rules.specs.Followers.{ClientOf, client_of, FollowerOf, new_follower}
use Rattle.follower_rules.specs.Replicas.{ReplicaOf}
use Rattle.wave_world.specs.Worlds.{IsBegin, World, first_world, Event, Starts, Edits, Submits, TakesDelta, TakesRefusal, TakesSnapshot, Drops, Pools, HostTakes, HostSnapshot, HostRestarts, Queues, Absorbs, Notes, NotesDrop, Restarts, ReplicaSnapshot, ReplicaAcks, Cuts, Opens, set_follower, to_follower, to_replica, has_client, pool, submitted, grown, host_takes, shown, acked, happens, world_after, world_of}
use Rattle.wave_world.specs.Converged.{OnlyGrows}

begins_on : {A : Type 0} (xs ys zs : List A) → IsBegin xs ys → IsBegin ys zs → IsBegin xs zs
begins_on xs ys zs a b = (a.0 ++ b.0, sym (append_assoc xs a.0 b.0) ∙ ap (λ z. z ++ b.0) a.1 ∙ b.1)

same_begins : {A : Type 0} (xs : List A) → IsBegin xs xs
same_begins xs = ([], append-nil xs)

to_grows : (w : World) (k : ClientOf) (m : Option FollowerOf) → IsBegin w.host (to_follower w k m).host
to_grows w k None = same_begins w.host
to_grows w k (Some f) = same_begins w.host

to_replica_grows : (w : World) (d : Key) (m : Option ReplicaOf) → IsBegin w.host (to_replica w d m).host
to_replica_grows w d None = same_begins w.host
to_replica_grows w d (Some r) = same_begins w.host

pool_grows : (w : World) (m : Option Submission) → IsBegin w.host (pool w m).host
pool_grows w None = same_begins w.host
pool_grows w (Some s) = same_begins w.host

submitted_grows : (w : World) (k : ClientOf) (m : Option (Option Submission × FollowerOf)) → IsBegin w.host (submitted w k m).host
submitted_grows w k None = same_begins w.host
submitted_grows w k (Some t) = pool_grows w t.0

shown_grows : (w : World) (m : Option Point) → IsBegin w.host (shown w m).host
shown_grows w None = same_begins w.host
shown_grows w (Some p) = same_begins w.host

acked_grows : (w : World) (i : IdOf) (m : Option Kept) → IsBegin w.host (acked w i m).host
acked_grows w i None = same_begins w.host
acked_grows w i (Some k) = same_begins w.host

cond_grows : (w u : World) (b : Bool) → IsBegin w.host u.host → IsBegin w.host (cond b u w).host
cond_grows w u true e = e
cond_grows w u false e = same_begins w.host

grown_begins : (h : List DeltaOf) (m : Option DeltaOf) → IsBegin h (grown h m)
grown_begins h None = same_begins h
grown_begins h (Some d) = (d ∷ [], refl)

host_grows : (name : Key) (w : World) (m : Option Submission) (reading : ℕ) → IsBegin w.host (host_takes name w reading m).host
host_grows name w None reading = same_begins w.host
host_grows name w (Some s) reading = grown_begins w.host (judge name w.host s reading).1

happens_grows : (name : Key) (w : World) (e : Event) → IsBegin w.host (happens name w e).host
happens_grows name w (Starts k) = cond_grows w (set_follower w k (new_follower name k)) (is_none (w.followers k) && not (has_client k w.submissions)) (same_begins w.host)
happens_grows name w (Edits k acts t) = cond_grows w _ (is_count (length acts)) (to_grows w k _)
happens_grows name w (Submits k) = submitted_grows w k _
happens_grows name w (TakesDelta k which) = to_grows w k _
happens_grows name w (TakesRefusal k which) = to_grows w k _
happens_grows name w (TakesSnapshot k which) = to_grows w k _
happens_grows name w (Drops k) = to_grows w k _
happens_grows name w (Pools s t) = cond_grows w (pool w (Some s)) (is_count (length s.ops) && is_none (w.followers (client_of s.id))) (same_begins w.host)
happens_grows name w (HostTakes which reading) = host_grows name w (slice_get w.submissions which) reading
happens_grows name w HostSnapshot = shown_grows w _
happens_grows name w HostRestarts = same_begins w.host
happens_grows name w (Queues d which) = to_replica_grows w d _
happens_grows name w (Absorbs d which) = to_replica_grows w d _
happens_grows name w (Notes d which) = to_replica_grows w d _
happens_grows name w (NotesDrop d) = same_begins w.host
happens_grows name w (Restarts d) = same_begins w.host
happens_grows name w (ReplicaSnapshot d) = shown_grows w _
happens_grows name w (ReplicaAcks d i) = acked_grows w i _
happens_grows name w Cuts = same_begins w.host
happens_grows name w Opens = same_begins w.host

-- from any world on
all_grows : (name : Key) (w : World) (more : List Event) → IsBegin w.host (world_after name more w).host
all_grows name w [] = same_begins w.host
all_grows name w (e ∷ es) = begins_on w.host (happens name w e).host (world_after name es (happens name w e)).host (happens_grows name w e) (all_grows name (happens name w e) es)

pub two_runs : (name : Key) (events more : List Event) (w : World) → world_after name (events ++ more) w ≡ world_after name more (world_after name events w)
two_runs name [] more w = refl
two_runs name (e ∷ es) more w = two_runs name es more (happens name w e)

pub only_grows : OnlyGrows
only_grows name events more = subst (λ (z : World). IsBegin (world_of name events).host z.host) (sym (two_runs name events more first_world)) (all_grows name (world_of name events) more)
