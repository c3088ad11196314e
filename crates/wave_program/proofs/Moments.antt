-- What a crash leaves of the files at any moment of a run.
--     file_since      of a file that was loaded
--     file_begun      of one that was made meanwhile
--     files_since     of each that was loaded
use Rattle.std.proofs.Common.{◌≡◌, ◌⊎◌, inl, inr, ℕ, true, List, Option, Some, None, IfSome, IsTrue, is_some, sym, subst, true≢false}
use Rattle.doc_items.specs.Maps.{Key}
use Rattle.disk_model.specs.declared.disk.Disk as disk_of
use Rattle.delta_journal.specs.Journal.{on_disk}
use Rattle.delta_journal.specs.declared.journal.Journal.{Journal}
use Rattle.wave_outside.specs.declared.folder.Folder as folder_of
use Rattle.wave_outside.specs.Folders.{AddsOnly, IsPutBack, IsOld}
use Rattle.wave_outside.proofs.Handing.{adds_more, adds_both, adds_back}
use Rattle.wavelet_container.specs.Containers.{journal_of, OfBoth}
use Rattle.wavelet_container.specs.declared.container.Container.{Container}
use Rattle.wavelet_shelf.specs.Entries.{BeganEmpty, IsWrittenOn}
use Rattle.wavelet_shelf.specs.FileNames.{file_name_of}
use Rattle.wavelet_shelf.specs.Loads.{IsReadFrom}
use Rattle.wavelet_shelf.specs.Shelves.{container_in, AreApart}
use Rattle.wavelet_shelf.specs.declared.shelf.Shelf.{Shelf}
use Rattle.pipe_machine.specs.Keeping.{AreWrittenOn}
use Rattle.wave_program.specs.Store.{IsFileSince, IsFileBegun, IsClosed}

module _ {D : Type 0} {disk : disk_of.Ghosts D} (P : List ℕ → Type 0) where
  pub file_since : (o p : Option D) (c : Container D disk) (q : Option (Container D disk)) → IsReadFrom o c → IsWrittenOn (Some c) q P → IfSome q (λ d. IfSome (journal_of d) (λ j. IsPutBack disk.view (on_disk j) p)) → IsFileSince disk.view o p P
  file_since None p c q read written back = absurd read
  file_since (Some f) p c None read written back = absurd written
  file_since (Some f) p c (Some d) read written back = go (journal_of d) p (subst (λ o. OfBoth o (journal_of d) (λ i j. AddsOnly (on_disk i) (on_disk j) P)) read.is written) back
    where
      go : (k : Option (Journal D disk)) (p : Option D) → OfBoth (Some read.journal) k (λ i j. AddsOnly (on_disk i) (on_disk j) P) → IfSome k (λ j. IsPutBack disk.view (on_disk j) p) → IsFileSince disk.view (Some f) p P
      go None p w b = absurd w
      go (Some j) None w b = absurd b
      go (Some j) (Some g) w b =
          let old = IsOld (disk.view f) in
          let all : List ℕ → Type 0 = λ bytes. old bytes ⊎ P bytes in
          adds_back (disk.view f) (on_disk j) (disk.view g) all
          (adds_both (disk.view f) (on_disk read.journal) (on_disk j) all (adds_more (disk.view f) (on_disk read.journal) old all (λ bytes is. inl is) read.moments) (adds_more (on_disk read.journal) (on_disk j) P all (λ bytes is. inr is) w))
          b

  pub file_begun : (p : Option D) (d : Container D disk) (j : Journal D disk) → journal_of d ≡ Some j → IsWrittenOn None (Some d) P → IsPutBack disk.view (on_disk j) p → IsFileBegun disk.view p P
  file_begun None d j is written back = absurd back
  file_begun (Some g) d j is written back =
      let one : BeganEmpty disk.view (on_disk j) P = subst (λ o. IfSome o (λ j. BeganEmpty disk.view (on_disk j) P)) is written in
      record { made = one.made; empty = one.empty; moments = adds_back (disk.view one.made) (on_disk j) (disk.view g) P one.moments back }

module _ {F D : Type 0} (folder : folder_of.Ghosts F D) {disk : disk_of.Ghosts D} where
  -- from the folder f from which the shelf m was loaded to the folder g into which b was closed
  pub files_since : (m b : Shelf F D folder disk) (f g : F) (P : Key → List ℕ → Type 0) → IsTrue disk.tells → ((n : Key) → IfSome (container_in m n) (IsReadFrom (folder.files f (file_name_of n)))) → AreWrittenOn m b P → AreApart b → IsClosed b g
      → (n : Key) → is_some (container_in m n) ≡ true → IsFileSince disk.view (folder.files f (file_name_of n)) (folder.files g (file_name_of n)) (P n)
  files_since m b f g P tells read written apart closed n some = go (container_in m n) some (read n) (written n)
    where
      go : (o : Option (Container D disk)) → is_some o ≡ true → IfSome o (IsReadFrom (folder.files f (file_name_of n))) → IsWrittenOn o (container_in b n) (P n)
          → IsFileSince disk.view (folder.files f (file_name_of n)) (folder.files g (file_name_of n)) (P n)
      go None some read written = absurd (true≢false (sym some))
      go (Some c) some read written = file_since (P n) (folder.files f (file_name_of n)) (folder.files g (file_name_of n)) c (container_in b n) read written (closed.back tells apart n)
