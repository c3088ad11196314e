-- The laws of followers.
--     IsSmall n s, IsPlace p    every document has at most n items; so it is at a point, whose number of inserted items is within its
--                               bound
--     IsSound f               what is pending is valid where the follower is, and inserts no more than may be inserted
--     AreOwn f d              if the delta has the flight's id, its acts are the flight's
--     IsMoved f g d           g is f after the delta d: the own one leaves the screen as it was; another's passes what is pending, and
--                             moves the screen by what is left of it
--     NewIsSound, EditIsSound, SubmitIsSound, RefusalIsSound, SnapshotIsSound      each call keeps a follower sound; an edit moves the
--                             screen by its acts, and to take a submission changes no screen
--     Advances                a sound follower advances by each delta that starts where it is, is valid there and within the bounds
use Rattle.std.specs.Prelude.{◌≡◌, ◌≤◌, ℕ, true, List, length, Option, Some, Ok, option_and_then}
use Rattle.doc_items.specs.Maps.{Key}
use Rattle.wave_base.specs.Versions.{IdOf}
use Rattle.wavelet_op.specs.Acts.{Act, AreNormal}
use Rattle.wavelet_op.specs.Deltas.{DeltaOf}
use Rattle.wavelet_op.specs.States.{State, document_of, run}
use Rattle.wavelet_op.specs.declared.delta.Submission.{Submission}
use Rattle.wavelet_state.specs.Snapshots.{max_inserted}
use Rattle.delta_history.specs.Points.{Point, acts_of, next_point}
use Rattle.follower_rules.specs.Followers.{ClientOf, Flight, FollowerOf, new_follower, inserted_all, pending, screen, dropped, refuse, take_snapshot}
use Rattle.follower_rules.specs.Submitting.{edit, submit}
use Rattle.follower_rules.specs.Receiving.{rebase, is_within, receive}
use Rattle.follower_rules.specs.declared.received.Received.TheVariants.{Advanced}

abbrev pub IsSmall : ℕ → State → Type 0
IsSmall n s = (d : Key) → length (document_of s d) ≤ n

pub record IsPlace (p : Point) : Type 0 where
  pub count : p.count ≤ max_inserted
  pub small : IsSmall p.count p.state

pub record IsSound (f : FollowerOf) : Type 0 where
  pub place : IsPlace f.here
  pub shown : State
  pub is_shown : screen f ≡ Some shown
  pub held : inserted_all (pending f) ≤ max_inserted

-- ---- the calls

abbrev pub NewIsSound : Type 0
NewIsSound = (name : Key) (k : ClientOf) → IsSound (new_follower name k)

abbrev pub EditIsSound : Type 0
EditIsSound = (f g : FollowerOf) (acts : List Act) → IsSound f → edit f acts ≡ Ok g → IsSound g
    × (screen g ≡ option_and_then (λ s. run s acts) (screen f))

abbrev pub SubmitIsSound : Type 0
SubmitIsSound = (f g : FollowerOf) (o : Option Submission) → IsSound f → submit f ≡ Ok (o, g) → IsSound g × (screen g ≡ screen f)

abbrev pub RefusalIsSound : Type 0
RefusalIsSound = (f : FollowerOf) (i : IdOf) → IsSound f → IsSound (refuse f i).1 × IsSound (dropped f)

abbrev pub SnapshotIsSound : Type 0
SnapshotIsSound = (f : FollowerOf) (p : Point) → IsSound f → IsPlace p → IsSound (take_snapshot f p).1

-- ---- deltas

abbrev pub AreOwn : FollowerOf → DeltaOf → Type 0
AreOwn f d = (x : Flight) → f.flight ≡ Some x → d.id ≡ x.sent.id → acts_of d ≡ x.acts

pub record IsMoved (f g : FollowerOf) (d : DeltaOf) : Type 0 where
  pub own : (x : Flight) → f.flight ≡ Some x → d.id ≡ x.sent.id → screen g ≡ screen f
  pub other : ((x : Flight) → f.flight ≡ Some x → d.id ≡ x.sent.id → ⊥) → (left : List Act)
      × (rebase (pending f) (acts_of d) ≡ Some (pending g, left)) × (screen g ≡ option_and_then (λ s. run s left) (screen f))

pub record IsAdvanced (f : FollowerOf) (d : DeltaOf) (q : Point) : Type 0 where
  pub after : FollowerOf
  pub is : receive f d ≡ (Advanced, after)
  pub here : after.here ≡ q
  pub sound : IsSound after
  pub moved : IsMoved f after d

abbrev pub Advances : Type 0
Advances = (f : FollowerOf) (d : DeltaOf) (q : Point) → IsSound f → d.from ≡ f.here.at → next_point f.here d ≡ Some q → is_within q d ≡ true
    → AreNormal d.ops → AreOwn f d → IsAdvanced f d q
