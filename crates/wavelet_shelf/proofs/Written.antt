-- Files that are written on.
--     written_itself    nothing was written
--     written_both      first up to the one container, and then on to the next
--     written_more      what has Q where P has
use Rattle.std.proofs.Common.{ℕ, List, Option, Some, None, IfSome}
use Rattle.disk_model.specs.declared.disk.Disk.{Ghosts}
use Rattle.delta_journal.specs.Journal.{on_disk}
use Rattle.delta_journal.specs.declared.journal.Journal.{Journal}
use Rattle.wave_outside.specs.Folders.{AddsOnly}
use Rattle.wave_outside.proofs.Handing.{adds_nothing, adds_both, adds_more}
use Rattle.wavelet_container.specs.Containers.{journal_of, OfBoth}
use Rattle.wavelet_container.specs.declared.container.Container.{Container}
use Rattle.wavelet_shelf.specs.Entries.{BeganEmpty, IsWrittenOn}

module _ {K : Type 0} {disk : Ghosts K} (P : List ℕ → Type 0) where
  journal_itself : (o : Option (Journal K disk)) → OfBoth o o (λ i j. AddsOnly (on_disk i) (on_disk j) P)
  journal_itself None = tt
  journal_itself (Some i) = adds_nothing (on_disk i) P

  pub written_itself : (o : Option (Container K disk)) → IsWrittenOn o o P
  written_itself None = tt
  written_itself (Some c) = journal_itself (journal_of c)

  journals_both : (o p q : Option (Journal K disk)) → OfBoth o p (λ i j. AddsOnly (on_disk i) (on_disk j) P) → OfBoth p q (λ i j. AddsOnly (on_disk i) (on_disk j) P) → OfBoth o q (λ i j. AddsOnly (on_disk i) (on_disk j) P)
  journals_both None None q one two = two
  journals_both None (Some j) q one two = absurd one
  journals_both (Some i) None q one two = absurd one
  journals_both (Some i) (Some j) None one two = absurd two
  journals_both (Some i) (Some j) (Some k) one two = adds_both (on_disk i) (on_disk j) (on_disk k) P one two

  began_both : (p q : Option (Journal K disk)) → IfSome p (λ j. BeganEmpty disk.view (on_disk j) P) → OfBoth p q (λ i j. AddsOnly (on_disk i) (on_disk j) P) → IfSome q (λ j. BeganEmpty disk.view (on_disk j) P)
  began_both None None one two = tt
  began_both None (Some k) one two = absurd two
  began_both (Some j) None one two = absurd two
  began_both (Some j) (Some k) one two = record { made = one.made; empty = one.empty; moments = adds_both (disk.view one.made) (on_disk j) (on_disk k) P one.moments two }

  pub written_both : (o p q : Option (Container K disk)) → IsWrittenOn o p P → IsWrittenOn p q P → IsWrittenOn o q P
  written_both None None q one two = two
  written_both None (Some d) None one two = absurd two
  written_both None (Some d) (Some e) one two = began_both (journal_of d) (journal_of e) one two
  written_both (Some c) None q one two = absurd one
  written_both (Some c) (Some d) None one two = absurd two
  written_both (Some c) (Some d) (Some e) one two = journals_both (journal_of c) (journal_of d) (journal_of e) one two

module _ {K : Type 0} {disk : Ghosts K} (P Q : List ℕ → Type 0) (so : (c : List ℕ) → P c → Q c) where
  journals_more : (o p : Option (Journal K disk)) → OfBoth o p (λ i j. AddsOnly (on_disk i) (on_disk j) P) → OfBoth o p (λ i j. AddsOnly (on_disk i) (on_disk j) Q)
  journals_more None None one = tt
  journals_more None (Some j) one = absurd one
  journals_more (Some i) None one = absurd one
  journals_more (Some i) (Some j) one = adds_more (on_disk i) (on_disk j) P Q so one

  began_more : (p : Option (Journal K disk)) → IfSome p (λ j. BeganEmpty disk.view (on_disk j) P) → IfSome p (λ j. BeganEmpty disk.view (on_disk j) Q)
  began_more None one = tt
  began_more (Some j) one = record { made = one.made; empty = one.empty; moments = adds_more (disk.view one.made) (on_disk j) P Q so one.moments }

  pub written_more : (o p : Option (Container K disk)) → IsWrittenOn o p P → IsWrittenOn o p Q
  written_more None None one = tt
  written_more None (Some d) one = began_more (journal_of d) one
  written_more (Some c) None one = absurd one
  written_more (Some c) (Some d) one = journals_more (journal_of c) (journal_of d) one
