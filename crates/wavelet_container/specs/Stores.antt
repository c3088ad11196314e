-- A history and its journal.
--     IsAnswered h h' s t v     the verdict is that on the submission, and the history grows by just the delta that is accepted
--     IsPending h left          a record that is left over is that of a delta that may come next
--     IsStored h j              over a disk that tells its bytes the journal holds the deltas of the history; a record that is left
--                               over is that of a delta that may come next
--     StandsForOneMore n ds P f     the file stands for this history, or for it and a delta more that has P
--     MayFollow left a d        the delta was left over, or it is the one that is accepted
--     IsWithin n ds P j         as it reads, and in each image, the file stands for this history, or for it and a delta more that has P
--     IsMoved g h i j a         what a call may do to a history and its journal
--     IsLeftOver before a left  what is left over is what was before, or the accepted delta, or nothing
use Rattle.std.specs.Prelude.{◌≡◌, ◌⊎◌, ◌≤◌, ℕ, List, [], ◌∷◌, ◌++◌, Option, Some, None}
use Rattle.std.specs.List.{AllByRecursion}
use Rattle.wavelet_op.specs.Deltas.{DeltaOf}
use Rattle.wavelet_op.specs.declared.delta.Submission.{Submission}
use Rattle.wavelet_op.specs.declared.verdict.Verdict.{Verdict}
use Rattle.wavelet_codec.specs.Spelling.{delta_bytes, IsDelta}
use Rattle.delta_history.specs.Histories.{HistoryOf, IsSameHistory, IsGrown}
use Rattle.delta_history.specs.Legal.{IsNext, IsLegal}
use Rattle.disk_model.specs.Disk.{LeavesOnly, Kept}
use Rattle.disk_model.specs.declared.disk.Disk.{Ghosts}
use Rattle.delta_journal.specs.Journal.{IsJournal, on_disk, left_over}
use Rattle.delta_journal.specs.declared.journal.Journal.{Journal}
use Rattle.wavelet_container.specs.Decisions.{judged}
use Rattle.wavelet_container.specs.Records.{records_of, StandsForHistory}

abbrev pub IsGrownBy : HistoryOf → Option DeltaOf → HistoryOf → Type 0
IsGrownBy g None h = IsSameHistory g h
IsGrownBy g (Some d) h = IsGrown g d h

pub record IsAnswered (g h : HistoryOf) (s : Submission) (t : ℕ) (v : Verdict) : Type 0 where
  pub verdict : v ≡ (judged g s t).0
  pub grown : IsGrownBy g (judged g s t).1 h

abbrev pub IsPending : HistoryOf → List (List ℕ) → Type 0
IsPending h left = (left ≡ []) ⊎ ((d : DeltaOf) × (left ≡ delta_bytes d ∷ []) × IsDelta d × IsNext h.name h.deltas d)

pub record IsStored {K : Type 0} {disk : Ghosts K} (h : HistoryOf) (j : Journal K disk) : Type 0 where
  pub held : IsJournal h.name (records_of h.deltas) j
  pub legal : IsLegal h.name h.deltas
  pub spelled : AllByRecursion IsDelta h.deltas
  pub pending : IsPending h (left_over j)

abbrev pub StandsForOneMore : List ℕ → List DeltaOf → (DeltaOf → Type 0) → List ℕ → Type 0
StandsForOneMore name ds P file = StandsForHistory name ds file ⊎ ((d : DeltaOf) × P d × StandsForHistory name (ds ++ d ∷ []) file)

abbrev pub IsWithin : {K : Type 0} {disk : Ghosts K} → List ℕ → List DeltaOf → (DeltaOf → Type 0) → Journal K disk → Type 0
IsWithin name ds P j = Kept (on_disk j) (StandsForOneMore name ds P)

abbrev pub MayFollow : List (List ℕ) → Option DeltaOf → DeltaOf → Type 0
MayFollow left added d = (left ≡ delta_bytes d ∷ []) ⊎ (added ≡ Some d)

abbrev pub IsLeftOver : List (List ℕ) → Option DeltaOf → List (List ℕ) → Type 0
IsLeftOver before added left = (left ≡ []) ⊎ ((left ≡ before) ⊎
    ((d : DeltaOf) × (added ≡ Some d) × (left ≡ delta_bytes d ∷ []) × IsDelta d))

-- a call that took the history from g to h and its journal from i to j, and accepted this delta or none
pub record IsMoved {K : Type 0} {disk : Ghosts K} (g h : HistoryOf) (i j : Journal K disk) (added : Option DeltaOf) : Type 0 where
  pub stored : IsStored g i → IsStored h j
  pub moments : IsStored g i → LeavesOnly (on_disk i) (on_disk j) (StandsForOneMore g.name g.deltas (MayFollow (left_over i) added))
  pub left : IsLeftOver (left_over i) added (left_over j)
  pub within : IsStored g i → left_over i ≡ [] → IsWithin g.name g.deltas (λ d. added ≡ Some d) j
  pub later : (on_disk i).faults ≤ (on_disk j).faults
