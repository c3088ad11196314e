-- What a journal is over its disk. `IsJournal` says that it holds these records under this name, `left_over` is the
-- record that a crash may leave after them, `needs_repair` whether a gate may be open that is to be closed, and `IsHeadingOf`
-- that a heading is what a journal of this name begins with.
use Rattle.std.specs.Prelude.{◌≡◌, ℕ, Bool, List, [], ◌∷◌, ◌++◌, length, IsTrue}
use Rattle.disk_model.specs.Disk.{DiskView, Kept}
use Rattle.disk_model.specs.declared.disk.Disk.{Ghosts}
use Rattle.delta_journal.specs.File.{header}
use Rattle.delta_journal.specs.Shape.{HasShape}
use Rattle.delta_journal.specs.Stage.{front_at, IsEmptyAt, shape_at, left_over_at, HasBlock, is_unsure_at}
use Rattle.delta_journal.specs.declared.heading.Heading.{Heading}
use Rattle.delta_journal.specs.declared.journal.Journal.{Journal}

-- what a journal of this name begins with
abbrev pub IsHeadingOf : List ℕ → Heading → Type 0
IsHeadingOf name heading = heading.bytes.items ≡ header name ++ 0 ∷ []

-- the journal's disk
abbrev pub disk_of : {K : Type 0} {disk : Ghosts K} → Journal K disk → K
disk_of journal = journal.disk

-- what it means
abbrev pub on_disk : {K : Type 0} {disk : Ghosts K} → Journal K disk → DiskView
on_disk {K} {disk} journal = disk.view journal.disk

-- the record that a crash may leave after the others, until a repair succeeds: none or one
abbrev pub left_over : {K : Type 0} {disk : Ghosts K} → Journal K disk → List (List ℕ)
left_over journal = left_over_at journal.stage

-- a gate may be open that is to be closed before the next record
abbrev pub needs_repair : {K : Type 0} {disk : Ghosts K} → Journal K disk → Bool
needs_repair journal = is_unsure_at journal.stage

-- Over a disk that tells its bytes the journal holds these records under this name. What a read gives and each image
-- then stand for these records, or for these and the one that is left over.
pub record IsJournal {K : Type 0} {disk : Ghosts K} (name : List ℕ) (records : List (List ℕ)) (journal : Journal K disk) : Type 0 where
  pub told : IsTrue disk.tells
  pub header : journal.header.items ≡ header name ++ 0 ∷ []
  pub place : journal.place ≡ length (front_at journal.stage name records)
  pub empty : IsEmptyAt journal.stage records
  pub block : HasBlock journal.stage
  pub file : Kept (on_disk journal) (HasShape (shape_at journal.stage name records))

-- whatever name and records the journal holds, this is so
abbrev pub WhereHeld : {K : Type 0} {disk : Ghosts K} → Journal K disk → (List ℕ → List (List ℕ) → Type 0) → Type 0
WhereHeld journal P = (name : List ℕ) (records : List (List ℕ)) → IsJournal name records journal → P name records

-- every image has this
abbrev pub EachImage : {K : Type 0} {disk : Ghosts K} → Journal K disk → (List ℕ → Type 0) → Type 0
EachImage journal P = (c : List ℕ) → (on_disk journal).may_leave c → P c
