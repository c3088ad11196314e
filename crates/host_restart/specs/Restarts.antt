-- A host that comes back with what a crash left of its journal.
--     IsAccepted name w d       the verdict on a submission that was sent accepts the delta, at some time
--     AreLeft name w left       what an append left over in the host's journal: nothing, or the record of such a delta
--     IsTaking w o, added o     the host may be taking a submission at a time, one that was sent; the delta that is accepted of it
--     IsImage name w left o c   what a crash may leave of the journal then: its file stands for the host's history, or for it and a delta
--                               more, which was left over or is the one that is accepted
--     IsReached name events ds  events lead from these to a world whose host has the history, and that world is converged
--     IsOnce name w ds          it is the host's history, or that with a delta more, which the verdict accepted
--     IsHostOf name events c    the container has the history of the world's host, and its journal holds it, with no more left over than
--                               may be
--     IsHostAfter name events c     so in a world to which events lead from these, and which is converged
--     AreImages name w s t i j  while a submission is taken a crash leaves images of the journal
--     LeftIsAccepted            the law: what a submission leaves over in the journal is nothing, or the record of such a delta
--     RestartIsEvents           the law: whatever an image stands for is reached
use Rattle.std.specs.Prelude.{◌≡◌, ◌⊎◌, ◌^◌, ◌<◌, ℕ, List, [], ◌∷◌, ◌++◌, length, Option, Some, None}
use Rattle.doc_items.specs.Maps.{Key}
use Rattle.wavelet_op.specs.Deltas.{DeltaOf}
use Rattle.wavelet_op.specs.declared.delta.Submission.{Submission}
use Rattle.wavelet_op.specs.declared.verdict.Verdict.{Verdict}
use Rattle.wavelet_codec.specs.Spelling.{delta_bytes, IsDelta}
use Rattle.delta_history.specs.Verdicts.{judge}
use Rattle.disk_model.specs.Disk.{LeavesOnly}
use Rattle.disk_model.specs.declared.disk.Disk.{Ghosts}
use Rattle.delta_journal.specs.Journal.{on_disk, left_over}
use Rattle.delta_journal.specs.declared.journal.Journal.{Journal}
use Rattle.wavelet_container.specs.Containers.{history_of, journal_of}
use Rattle.wavelet_container.specs.Records.{StandsForHistory}
use Rattle.wavelet_container.specs.Stores.{IsStored, StandsForOneMore, MayFollow, IsLeftOver}
use Rattle.wavelet_container.specs.declared.container.Container.{Container}
use Rattle.wave_world.specs.Converged.{IsConverged}
use Rattle.wave_world.specs.Worlds.{Mem, World, Event, world_of}

pub record IsAccepted (name : Key) (w : World) (d : DeltaOf) : Type 0 where
  pub sent : Submission
  pub is_sent : Mem sent w.submissions
  pub reading : ℕ
  pub verdict : Verdict
  pub is : judge name w.host sent reading ≡ (verdict, Some d)

abbrev pub AreLeft : Key → World → List (List ℕ) → Type 0
AreLeft name w left = (left ≡ []) ⊎ ((d : DeltaOf) × IsAccepted name w d × IsDelta d × (left ≡ delta_bytes d ∷ []))

-- ---- images

abbrev pub Taking : Type 0
Taking = Option (Submission × ℕ)

abbrev pub IsTaking : World → Taking → Type 0
IsTaking w None = Unit {0}
IsTaking w (Some t) = Mem t.0 w.submissions

abbrev pub added : Key → World → Taking → Option DeltaOf
added name w None = None
added name w (Some t) = (judge name w.host t.0 t.1).1

abbrev pub IsImage : Key → World → List (List ℕ) → Taking → List ℕ → Type 0
IsImage name w left o c = StandsForOneMore name w.host (MayFollow left (added name w o)) c

-- ---- what becomes of them

pub record IsReached (name : Key) (events : List Event) (ds : List DeltaOf) : Type 0 where
  pub more : List Event
  pub host : (world_of name (events ++ more)).host ≡ ds
  pub converged : IsConverged name (world_of name (events ++ more))

abbrev pub IsOnce : Key → World → List DeltaOf → Type 0
IsOnce name w ds = (ds ≡ w.host) ⊎ ((d : DeltaOf) × IsAccepted name w d × (ds ≡ w.host ++ d ∷ []))

-- ---- a container and the world's host

pub record IsHostOf {K : Type 0} {disk : Ghosts K} (name : Key) (events : List Event) (c : Container K disk) : Type 0 where
  pub named : (history_of c).name ≡ name
  pub host : (history_of c).deltas ≡ (world_of name events).host
  pub held : (j : Journal K disk) → journal_of c ≡ Some j → IsStored (history_of c) j × AreLeft name (world_of name events) (left_over j)

pub record IsHostAfter {K : Type 0} {disk : Ghosts K} (name : Key) (events : List Event) (c : Container K disk) : Type 0 where
  pub more : List Event
  pub is : IsHostOf name (events ++ more) c
  pub converged : IsConverged name (world_of name (events ++ more))

abbrev pub AreImages : {K : Type 0} {disk : Ghosts K} → Key → World → Submission → ℕ → Journal K disk → Journal K disk → Type 0
AreImages name w s t i j = LeavesOnly (on_disk i) (on_disk j) (IsImage name w (left_over i) (Some (s, t)))

-- ---- the laws

abbrev pub LeftIsAccepted : Type 0
LeftIsAccepted = (name : Key) (w : World) (before after : List (List ℕ)) (s : Submission) (reading : ℕ) → AreLeft name w before
    → Mem s w.submissions → IsLeftOver before (judge name w.host s reading).1 after → AreLeft name w after

abbrev pub RestartIsEvents : Type 0
RestartIsEvents = (name : Key) (events : List Event) (left : List (List ℕ)) (o : Taking) (c : List ℕ) (ds : List DeltaOf)
    → AreLeft name (world_of name events) left → IsTaking (world_of name events) o → length c < 2 ^ 64
    → IsImage name (world_of name events) left o c → StandsForHistory name ds c
    → IsReached name events ds × IsOnce name (world_of name events) ds
