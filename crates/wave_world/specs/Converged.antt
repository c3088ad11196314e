-- What holds after every list of events.
--     IsAckOf name h i at to      an acknowledgement names the delta of h with that id, its version and the hashed version after it
--     IsValidAt name h s          a submission is valid at its base, whose hashed version is the history's
--     IsSentAs name h ss d        a delta is a pooled submission, passed from its base to where the delta starts
--     IsInFlight name h ss k v g  a flight is a pooled submission of the client, passed from its base to version v, and no delta below v
--                                 has its id
--     IsFollowing name h ss k f   a follower has the host's state, hash and number of items at its version; what is pending is valid
--                                 there, and inserts no more than may be inserted; its submissions differ in their numbers
--     IsConverged name w          the host's history is legal; every message and copy agrees with it, and so does each follower
--     WorldConverges              so after all events
--     OnlyGrows                   the host's history only grows
--     DeltaIsTaken                a pooled delta that starts at a follower's version is taken, and moves the screen as it should
--     DeltaIsAbsorbed             one that starts at the head of a copy is absorbed
--     KeptIsAnswered              a submission whose id the history has is answered by an acknowledgement, and adds nothing
--     RefusedIsCaused             a pooled submission that is answered by a verdict which adds nothing is told its cause
--     IsFair v, FollowerIsHeard   a follower's submission is refused for its author's access or for a bound only
--     GoesOnAlike, AcceptedIsOneEvent     a host that goes on with its history does so by no event; one that goes on with its
--                                 history and the delta that it accepted, by one: it took the submission
use Rattle.std.specs.Prelude.{◌≡◌, ◌+◌, ◌<◌, ◌≤◌, ℕ, List, [], ◌∷◌, ◌++◌, length, Some, None}
use Rattle.doc_items.specs.Maps.{Key}
use Rattle.wave_base.specs.Versions.{IdOf, VersionAt}
use Rattle.wavelet_op.specs.Acts.{meanings}
use Rattle.wavelet_op.specs.Deltas.{DeltaOf}
use Rattle.wavelet_op.specs.States.{State, run}
use Rattle.wavelet_op.specs.declared.delta.Submission.{Submission}
use Rattle.wavelet_op.specs.declared.verdict.Verdict.{Verdict}
use Rattle.wavelet_op.specs.declared.verdict.Verdict.TheVariants.{Ack, NotParticipant, ReadOnly, UnknownVersion, WrongHash, Invalid, Full}
use Rattle.delta_history.specs.Laws.{IsCaused}
use Rattle.delta_history.specs.Legal.{IsLegal}
use Rattle.wavelet_state.specs.Snapshots.{max_inserted}
use Rattle.delta_history.specs.Passing.{pass_between}
use Rattle.delta_history.specs.Points.{Point, start, acts_of, replay, point_at}
use Rattle.delta_history.specs.Verdicts.{judge}
use Rattle.follower_rules.specs.declared.received.Received.TheVariants.{Advanced}
use Rattle.follower_rules.specs.Followers.{ClientOf, client_of, Flight, FollowerOf, inserted_all, pending, screen}
use Rattle.follower_rules.specs.Laws.{IsMoved}
use Rattle.follower_rules.specs.Receiving.{receive}
use Rattle.follower_rules.specs.Replicas.{ReplicaOf, absorb}
use Rattle.wave_world.specs.Worlds.{Mem, IsBegin, Answer, World, Event, HostRestarts, happens, world_of}

-- ---- one message

pub record IsAckOf (name : Key) (h : List DeltaOf) (i : IdOf) (at : ℕ) (to : VersionAt) : Type 0 where
  pub delta : DeltaOf
  pub is_kept : Mem delta h
  pub is_id : delta.id ≡ i
  pub is_at : delta.from.version ≡ at
  pub after : Point
  pub is_after : point_at name h (at + length delta.ops) ≡ Some after
  pub is_to : after.at ≡ to

pub record IsValidAt (name : Key) (h : List DeltaOf) (s : Submission) : Type 0 where
  pub base : Point
  pub is_base : point_at name h s.at.version ≡ Some base
  pub at_base : base.at ≡ s.at
  pub end : State
  pub valid : run base.state (meanings s.ops) ≡ Some end

pub record IsSentAs (name : Key) (h : List DeltaOf) (subs : List Submission) (d : DeltaOf) : Type 0 where
  pub sent : Submission
  pub is_sent : Mem sent subs
  pub same : sent.id ≡ d.id
  pub below : sent.at.version ≤ d.from.version
  pub passed : pass_between name h sent.at.version d.from.version (meanings sent.ops) ≡ Some (acts_of d)

-- ---- one follower

pub record IsInFlight (name : Key) (h : List DeltaOf) (subs : List Submission) (k : ClientOf) (v : ℕ) (g : Flight) : Type 0 where
  pub is_sent : Mem g.sent subs
  pub own : client_of g.sent.id ≡ k
  pub below : g.sent.at.version ≤ v
  pub fresh : (d : DeltaOf) → Mem d h → d.from.version < v → d.id ≡ g.sent.id → ⊥
  pub passed : pass_between name h g.sent.at.version v (meanings g.sent.ops) ≡ Some g.acts

pub record IsFollowing (name : Key) (h : List DeltaOf) (subs : List Submission) (k : ClientOf) (f : FollowerOf) : Type 0 where
  pub once : (s t : Submission) → Mem s subs → Mem t subs → client_of s.id ≡ k → client_of t.id ≡ k → s.id.number ≡ t.id.number → s ≡ t
  pub numbers : (s : Submission) → Mem s subs → client_of s.id ≡ k → s.id.number < f.next
  pub sound : (s : Submission) → Mem s subs → client_of s.id ≡ k → IsValidAt name h s
  pub own : (d : DeltaOf) → Mem d h → client_of d.id ≡ k → IsSentAs name h subs d
  pub here : point_at name h f.here.at.version ≡ Some f.here
  pub flight : (g : Flight) → f.flight ≡ Some g → IsInFlight name h subs k f.here.at.version g
  pub shown : State
  pub is_shown : screen f ≡ Some shown
  pub held : inserted_all (pending f) ≤ max_inserted

-- ---- the whole

pub record IsConverged (name : Key) (w : World) : Type 0 where
  pub legal : IsLegal name w.host
  pub deltas : (d : DeltaOf) → Mem d w.deltas → Mem d w.host
  pub answers : (a : Answer) → Mem a w.answers → (at : ℕ) (to : VersionAt) → a.verdict ≡ Ack at to → IsAckOf name w.host a.id at to
  pub replicas : (d : Key) → IsBegin (w.replicas d).deltas w.host
  pub sources : (d : DeltaOf) → Mem d w.host → (s : Submission) × Mem s w.submissions × (s.id ≡ d.id)
  pub snapshots : (p : Point) → Mem p w.snapshots → point_at name w.host p.at.version ≡ Some p
  pub followers : (k : ClientOf) (f : FollowerOf) → w.followers k ≡ Some f → IsFollowing name w.host w.submissions k f

abbrev pub WorldConverges : Type 0
WorldConverges = (name : Key) (events : List Event) → IsConverged name (world_of name events)

-- ---- further laws

abbrev pub OnlyGrows : Type 0
OnlyGrows = (name : Key) (events more : List Event) → IsBegin (world_of name events).host (world_of name (events ++ more)).host

abbrev pub DeltaIsTaken : Type 0
DeltaIsTaken = (name : Key) (events : List Event) (k : ClientOf) (f : FollowerOf) (d : DeltaOf) → (world_of name events).followers k
    ≡ Some f → Mem d (world_of name events).deltas → d.from.version ≡ f.here.at.version
    → (g : FollowerOf) × (receive f d ≡ (Advanced, g)) × IsMoved f g d

abbrev pub DeltaIsAbsorbed : Type 0
DeltaIsAbsorbed = (name : Key) (events : List Event) (at : Key) (p : Point) (d : DeltaOf) → Mem d (world_of name events).deltas
    → replay (start name) ((world_of name events).replicas at).deltas ≡ Some p → d.from.version ≡ p.at.version
    → (r : ReplicaOf) × (absorb name ((world_of name events).replicas at) d ≡ Some r)

abbrev pub KeptIsAnswered : Type 0
KeptIsAnswered = (name : Key) (events : List Event) (d : DeltaOf) (s : Submission) (reading : ℕ) → Mem d (world_of name events).host → s.id
    ≡ d.id
    → (at : ℕ) × (to : VersionAt) × (judge name (world_of name events).host s reading ≡ (Ack at to, None))

abbrev pub RefusedIsCaused : Type 0
RefusedIsCaused = (name : Key) (events : List Event) (s : Submission) (reading : ℕ) (v : Verdict) → Mem s (world_of name events).submissions
    → judge name (world_of name events).host s reading ≡ (v, None) → IsCaused name (world_of name events).host s reading v

abbrev pub IsFair : Verdict → Type 0
IsFair (Ack at to) = Unit {0}
IsFair NotParticipant = Unit {0}
IsFair ReadOnly = Unit {0}
IsFair (UnknownVersion head) = ⊥
IsFair (WrongHash host) = ⊥
IsFair (Invalid index) = ⊥
IsFair (Full head) = Unit {0}

abbrev pub FollowerIsHeard : Type 0
FollowerIsHeard = (name : Key) (events : List Event) (k : ClientOf) (f : FollowerOf) (s : Submission) (reading : ℕ)
    → (world_of name events).followers k ≡ Some f → Mem s (world_of name events).submissions → client_of s.id ≡ k
    → IsFair (judge name (world_of name events).host s reading).0

-- ---- restarts

abbrev pub GoesOnAlike : Type 0
GoesOnAlike = (name : Key) (w : World) → happens name w HostRestarts ≡ w

pub record IsOneEvent (name : Key) (events : List Event) (d : DeltaOf) : Type 0 where
  pub event : Event
  pub host : (world_of name (events ++ event ∷ [])).host ≡ (world_of name events).host ++ d ∷ []
  pub converged : IsConverged name (world_of name (events ++ event ∷ []))
  -- its id submitted again is answered by what is kept, and adds nothing
  pub again : (s : Submission) (reading : ℕ) → s.id ≡ d.id → (at : ℕ) × (to : VersionAt)
      × (judge name ((world_of name events).host ++ d ∷ []) s reading ≡ (Ack at to, None))

abbrev pub AcceptedIsOneEvent : Type 0
AcceptedIsOneEvent = (name : Key) (events : List Event) (s : Submission) (reading : ℕ) (v : Verdict) (d : DeltaOf)
    → Mem s (world_of name events).submissions → judge name (world_of name events).host s reading ≡ (v, Some d)
    → IsOneEvent name events d
