-- A client's follower of a wavelet.
--     ClientOf, client_of i     whose follower it is: an author, and the key of one of the author's clients; that of an id
--     same_client               the test of ≡ on them
--     Flight                    the submission as it was first taken, and its acts passed through what came since
--     FollowerOf                the point where it is, its flight, the entries after it, and the number of its next submission
--     new_follower name k       at the start of the history, with nothing pending
--     run_all s es, inserted_all es     the state after entries in turn, where each is valid; how many items they insert
--     flying g, pending f       what is pending: the flight's acts, and then the queue's entries
--     screen f                  the state with what is pending
--     moved f p g q             the follower at p, with this flight and these entries
--     dropped f                 nothing is pending any more
--     refuse f i                where the flight has this id, what is pending is dropped; and whether it has
--     point_of s                the point of a snapshot
--     take_snapshot f p         a snapshot is taken where nothing is pending and its version is above the follower's
use Rattle.std.specs.Prelude.{ℕ, ◌+◌, Bool, true, false, ◌&&◌, ◌==◌, nat_lt, List, [], ◌∷◌, ◌++◌, Option, Some, None, option_and_then}
use Rattle.doc_items.specs.Maps.{Key, same_text}
use Rattle.wave_base.specs.Versions.{IdOf, same_id}
use Rattle.wavelet_op.specs.Acts.{Act, inserted}
use Rattle.wavelet_op.specs.States.{State, run}
use Rattle.wavelet_op.specs.declared.delta.Submission.{Submission}
use Rattle.wavelet_state.specs.Snapshots.{SnapshotOf}
use Rattle.delta_history.specs.Points.{Point, start}
use Rattle.follower_rules.specs.declared.taken.Taken.{Taken}
use Rattle.follower_rules.specs.declared.taken.Taken.TheVariants.{Pending, Old, Took}

-- ---- whose follower

pub record ClientOf : Type 0 where
  pub author : Key
  pub client : ℕ

abbrev pub client_of : IdOf → ClientOf
client_of i = record { author = i.author; client = i.client }

abbrev pub same_client : ClientOf → ClientOf → Bool
same_client a b = same_text a.author b.author && (a.client == b.client)

-- ---- the follower

pub record Flight : Type 0 where
  pub sent : Submission
  pub acts : List Act

pub record FollowerOf : Type 0 where
  pub name : Key
  pub client : ClientOf
  pub here : Point
  pub flight : Option Flight
  pub queue : List (List Act)
  pub next : ℕ

abbrev pub new_follower : Key → ClientOf → FollowerOf
new_follower name k = record { name = name; client = k; here = start name; flight = None; queue = []; next = 1 }

-- ---- what is pending

abbrev pub run_all : State → List (List Act) → Option State
run_all s [] = Some s
run_all s (acts ∷ rest) = option_and_then (λ t. run_all t rest) (run s acts)

abbrev pub inserted_all : List (List Act) → ℕ
inserted_all [] = 0
inserted_all (acts ∷ rest) = inserted acts + inserted_all rest

abbrev pub flying : Option Flight → List (List Act)
flying None = []
flying (Some g) = g.acts ∷ []

abbrev pub pending : FollowerOf → List (List Act)
pending f = flying f.flight ++ f.queue

abbrev pub screen : FollowerOf → Option State
screen f = run_all f.here.state (pending f)

-- ---- what changes

abbrev pub moved : FollowerOf → Point → Option Flight → List (List Act) → FollowerOf
moved f p g q = record { name = f.name; client = f.client; here = p; flight = g; queue = q; next = f.next }

abbrev pub dropped : FollowerOf → FollowerOf
dropped f = moved f f.here None []

abbrev pub refuse_if : FollowerOf → Bool → Bool × FollowerOf
refuse_if f false = (false, f)
refuse_if f true = (true, dropped f)

abbrev pub refuse_flight : FollowerOf → IdOf → Option Flight → Bool × FollowerOf
refuse_flight f i None = (false, f)
refuse_flight f i (Some g) = refuse_if f (same_id i g.sent.id)

abbrev pub refuse : FollowerOf → IdOf → Bool × FollowerOf
refuse f i = refuse_flight f i f.flight

abbrev pub point_of : SnapshotOf → Point
point_of s = record { at = s.at; state = s.state; count = s.inserted }

abbrev pub take_newer : FollowerOf → Point → Bool → Taken × FollowerOf
take_newer f p false = (Old, f)
take_newer f p true = (Took, moved f p f.flight f.queue)

abbrev pub take_settled : FollowerOf → Point → List (List Act) → Taken × FollowerOf
take_settled f p (acts ∷ rest) = (Pending, f)
take_settled f p [] = take_newer f p (nat_lt f.here.at.version p.at.version)

abbrev pub take_snapshot : FollowerOf → Point → Taken × FollowerOf
take_snapshot f p = take_settled f p (pending f)
