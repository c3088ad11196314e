-- What sessions see of a shelf, and of copies as they are kept.
--     copy_kept m n          the history of the copy of the name, where it has a delta
--     drop_kept m n          whether its host gives it no more
--     outcome_kept m n i     the outcome that it knows for the id
--     shown_kept d s m       what the domain hosts on the shelf, and these copies
use Rattle.std.specs.Prelude.{Bool, false, cond, Option, option_and_then}
use Rattle.std.specs.FinMap.{get}
use Rattle.std.specs.Option.{option_map_or}
use Rattle.doc_items.specs.Maps.{Key}
use Rattle.wave_base.specs.Versions.{IdOf}
use Rattle.wavelet_op.specs.declared.verdict.Verdict.{Verdict}
use Rattle.delta_history.specs.Histories.{HistoryOf}
use Rattle.disk_model.specs.declared.disk.Disk as disk_of
use Rattle.wave_outside.specs.declared.folder.Folder as folder_of
use Rattle.session_core.specs.Access.{Shown, shown}
use Rattle.wavelet_shelf.specs.Hosting.{names_of}
use Rattle.wavelet_shelf.specs.Shelves.{hosted_of, shown_copy}
use Rattle.wavelet_shelf.specs.declared.shelf.Shelf.{Shelf}
use Rattle.hosted_copies.specs.Domains.{is_hosted_by, hosted_by, copy_by, outcome_by}
use Rattle.replica_store.specs.Copies.{CopyOf}
use Rattle.replica_store.specs.Settling.{outcome}
use Rattle.replica_store.specs.Worlds.{Copies}

abbrev pub copy_kept : Copies → Key → Option HistoryOf
copy_kept m n = option_and_then (λ (c : CopyOf). shown_copy c.history) (get m n)

abbrev pub drop_kept : Copies → Key → Bool
drop_kept m n = option_map_or (λ (c : CopyOf). c.dropped) (get m n) false

abbrev pub outcome_kept : Copies → Key → IdOf → Option Verdict
outcome_kept m n i = option_and_then (λ c. outcome c i) (get m n)

module _ {F D : Type 0} {folder : folder_of.Ghosts F D} {disk : disk_of.Ghosts D} where
  abbrev pub shown_kept : Key → Shelf F D folder disk → Copies → Shown
  shown_kept d s m = shown
      (λ n. cond (is_hosted_by d n) (copy_by d s n) (copy_kept m n))
      (names_of (hosted_by d (hosted_of s)))
      (λ n. cond (is_hosted_by d n) false (drop_kept m n))
      (λ n i. cond (is_hosted_by d n) (outcome_by d s n i) (outcome_kept m n i))
