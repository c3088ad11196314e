-- The world of one wavelet: the host's history, the copies of other servers, the followers of clients, and the pool of every message
-- ever sent. A pooled message may be taken never, often and in any order.
--     Mem x xs                x is one of the list
--     IsBegin xs ys           ys goes on where xs ends
--     Answer                  a verdict on the submission of an id
--     World, first_world      as it starts: empty histories, no follower and nothing pooled
--     Event                   what may happen; a message is named by its place in the pool
--     has_client k ss         a pooled submission is of the client
--     happens name w e        the world after an event
--     world_after name es w   the world after events
use Rattle.std.specs.Prelude.{◌≡◌, ◌⊎◌, ℕ, Bool, true, false, cond, not, ◌&&◌, ◌||◌, List, [], ◌∷◌, ◌++◌, length, slice_get, is_none, Option, Some, None, option_and_then}
use Rattle.std.specs.Option.{option_map}
use Rattle.std.specs.Result.{result_ok}
use Rattle.doc_items.specs.Maps.{Key, same_text}
use Rattle.wave_base.specs.Versions.{IdOf}
use Rattle.wavelet_op.specs.Acts.{Act, meanings}
use Rattle.wavelet_op.specs.Deltas.{DeltaOf, is_count}
use Rattle.wavelet_op.specs.declared.delta.Submission.{Submission}
use Rattle.wavelet_op.specs.declared.verdict.Verdict.{Verdict}
use Rattle.wavelet_op.specs.declared.verdict.Verdict.TheVariants.{Ack, NotParticipant, ReadOnly, UnknownVersion, WrongHash, Invalid, Full}
use Rattle.delta_history.specs.declared.kept.Kept.{Kept}
use Rattle.delta_history.specs.Points.{Point, start, replay}
use Rattle.delta_history.specs.Verdicts.{kept, Judged, judge}
use Rattle.follower_rules.specs.Followers.{ClientOf, client_of, same_client, FollowerOf, new_follower, dropped, refuse, take_snapshot}
use Rattle.follower_rules.specs.Submitting.{edit, submit}
use Rattle.follower_rules.specs.Receiving.{receive}
use Rattle.follower_rules.specs.Replicas.{ReplicaOf, empty_replica, absorb, queue, settle}
use Rattle.wave_world.specs.Texts.{AreTextActs}

abbrev pub Mem : {A : Type 0} → A → List A → Type 0
Mem x [] = ⊥
Mem x (y ∷ ys) = (x ≡ y) ⊎ Mem x ys

abbrev pub IsBegin : {A : Type 0} → List A → List A → Type 0
IsBegin {A} xs ys = (rest : List A) × (xs ++ rest ≡ ys)

-- ---- the world

pub record Answer : Type 0 where
  pub id : IdOf
  pub verdict : Verdict

pub record World : Type 0 where
  pub host : List DeltaOf
  pub replicas : Key → ReplicaOf
  pub followers : ClientOf → Option FollowerOf
  -- every message ever sent
  pub submissions : List Submission
  pub deltas : List DeltaOf
  pub answers : List Answer
  pub snapshots : List Point

abbrev pub first_world : World
first_world = record {
  host = [];
  replicas = λ d. empty_replica;
  followers = λ k. None;
  submissions = [];
  deltas = [];
  answers = [];
  snapshots = [];
}

pub data Event : Type 0 where
  -- a client starts; it edits, takes a submission, which is pooled, takes a pooled message, or drops what is pending
  Starts : (k : ClientOf) → Event
  Edits : (k : ClientOf) → (acts : List Act) → AreTextActs acts → Event
  Submits : (k : ClientOf) → Event
  TakesDelta : (k : ClientOf) → (which : ℕ) → Event
  TakesRefusal : (k : ClientOf) → (which : ℕ) → Event
  TakesSnapshot : (k : ClientOf) → (which : ℕ) → Event
  Drops : (k : ClientOf) → Event
  -- somebody without a follower pools any submission
  Pools : (s : Submission) → AreTextActs (meanings s.ops) → Event
  -- the host takes a pooled submission, and pools the answer and the accepted delta; it pools the snapshot of its head
  HostTakes : (which : ℕ) → (reading : ℕ) → Event
  HostSnapshot : Event
  HostRestarts : Event
  -- the copy of a domain queues a pooled submission, absorbs a pooled delta, notes a pooled answer or a drop, or starts again; it
  -- pools the snapshot of its head, or what it keeps for an id
  Queues : (d : Key) → (which : ℕ) → Event
  Absorbs : (d : Key) → (which : ℕ) → Event
  Notes : (d : Key) → (which : ℕ) → Event
  NotesDrop : (d : Key) → Event
  Restarts : (d : Key) → Event
  ReplicaSnapshot : (d : Key) → Event
  ReplicaAcks : (d : Key) → (i : IdOf) → Event
  -- a link is cut, or opens again
  Cuts : Event
  Opens : Event

-- ---- one place of a map given anew

abbrev pub with_follower : (ClientOf → Option FollowerOf) → ClientOf → FollowerOf → ClientOf → Option FollowerOf
with_follower map k f at = cond (same_client k at) (Some f) (map at)

abbrev pub with_replica : (Key → ReplicaOf) → Key → ReplicaOf → Key → ReplicaOf
with_replica map d r at = cond (same_text d at) r (map at)

abbrev pub set_follower : World → ClientOf → FollowerOf → World
set_follower w k f = record w { followers = with_follower w.followers k f }

abbrev pub to_follower : World → ClientOf → Option FollowerOf → World
to_follower w k None = w
to_follower w k (Some f) = set_follower w k f

abbrev pub set_replica : World → Key → ReplicaOf → World
set_replica w d r = record w { replicas = with_replica w.replicas d r }

abbrev pub to_replica : World → Key → Option ReplicaOf → World
to_replica w d None = w
to_replica w d (Some r) = set_replica w d r

-- ---- submissions

abbrev pub has_client : ClientOf → List Submission → Bool
has_client k [] = false
has_client k (s ∷ rest) = same_client k (client_of s.id) || has_client k rest

abbrev pub pool : World → Option Submission → World
pool w None = w
pool w (Some s) = record w { submissions = s ∷ w.submissions }

abbrev pub submitted : World → ClientOf → Option (Option Submission × FollowerOf) → World
submitted w k None = w
submitted w k (Some t) = set_follower (pool w t.0) k t.1

-- ---- answers

abbrev pub is_refusal : Verdict → Bool
is_refusal (Ack at to) = false
is_refusal NotParticipant = true
is_refusal ReadOnly = true
is_refusal (UnknownVersion head) = true
is_refusal (WrongHash host) = true
is_refusal (Invalid index) = true
is_refusal (Full head) = true

abbrev pub take_answer : FollowerOf → Answer → FollowerOf
take_answer f a = cond (is_refusal a.verdict) (refuse f a.id).1 f

-- ---- the host

abbrev pub grown : List DeltaOf → Option DeltaOf → List DeltaOf
grown h None = h
grown h (Some d) = h ++ d ∷ []

abbrev pub pooled : List DeltaOf → Option DeltaOf → List DeltaOf
pooled ds None = ds
pooled ds (Some d) = d ∷ ds

abbrev pub host_answers : World → Submission → Judged → World
host_answers w s j = record w {
  host = grown w.host j.1;
  deltas = pooled w.deltas j.1;
  answers = record { id = s.id; verdict = j.0 }
      ∷ w.answers;
}

abbrev pub host_takes : Key → World → ℕ → Option Submission → World
host_takes name w reading None = w
host_takes name w reading (Some s) = host_answers w s (judge name w.host s reading)

abbrev pub shown : World → Option Point → World
shown w None = w
shown w (Some p) = record w { snapshots = p ∷ w.snapshots }

abbrev pub acked : World → IdOf → Option Kept → World
acked w i None = w
acked w i (Some k) = record w { answers = record { id = i; verdict = Ack k.at k.to } ∷ w.answers }

-- ---- events

abbrev pub happens : Key → World → Event → World
happens name w (Starts k) = cond (is_none (w.followers k) && not (has_client k w.submissions)) (set_follower w k (new_follower name k)) w
happens name w (Edits k acts text) = cond (is_count (length acts))
    (to_follower w k (option_and_then (λ f. result_ok (edit f acts)) (w.followers k))) w
happens name w (Submits k) = submitted w k (option_and_then (λ f. result_ok (submit f)) (w.followers k))
happens name w (TakesDelta k which) = to_follower w k
    (option_and_then (λ f. option_map (λ d. (receive f d).1) (slice_get w.deltas which)) (w.followers k))
happens name w (TakesRefusal k which) = to_follower w k
    (option_and_then (λ f. option_map (λ a. take_answer f a) (slice_get w.answers which)) (w.followers k))
happens name w (TakesSnapshot k which) = to_follower w k
    (option_and_then (λ f. option_map (λ p. (take_snapshot f p).1) (slice_get w.snapshots which)) (w.followers k))
happens name w (Drops k) = to_follower w k (option_map dropped (w.followers k))
happens name w (Pools s text) = cond (is_count (length s.ops) && is_none (w.followers (client_of s.id))) (pool w (Some s)) w
happens name w (HostTakes which reading) = host_takes name w reading (slice_get w.submissions which)
happens name w HostSnapshot = shown w (replay (start name) w.host)
happens name w HostRestarts = w
happens name w (Queues d which) = to_replica w d (option_map (queue (w.replicas d)) (slice_get w.submissions which))
happens name w (Absorbs d which) = to_replica w d (option_and_then (absorb name (w.replicas d)) (slice_get w.deltas which))
happens name w (Notes d which) = to_replica w d (option_map (λ a. settle (w.replicas d) a.id) (slice_get w.answers which))
happens name w (NotesDrop d) = set_replica w d (record (w.replicas d) { dropped = true })
happens name w (Restarts d) = set_replica w d empty_replica
happens name w (ReplicaSnapshot d) = shown w (replay (start name) (w.replicas d).deltas)
happens name w (ReplicaAcks d i) = acked w i (kept i (start name) (w.replicas d).deltas)
happens name w Cuts = w
happens name w Opens = w

abbrev pub world_after : Key → List Event → World → World
world_after name [] w = w
world_after name (e ∷ es) w = world_after name es (happens name w e)

abbrev pub world_of : Key → List Event → World
world_of name events = world_after name events first_world
