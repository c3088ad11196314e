use Rattle.std.proofs.Common.{◌≡◌, ◌≤◌, is_some, sym, ap, subst, ◌∙◌, true≢false, le_refl}
use Rattle.wavelet_shelf.specs.Entries.{faults_on}
use Rattle.wavelet_shelf.specs.FileNames.{file_name_of}
use Rattle.wavelet_shelf.specs.Folders.{IsUsedIn}
use Rattle.wavelet_shelf.specs.Shelves.{folder_faults}
use Rattle.wavelet_shelf.specs.declared.filed.Filed.{Filed}
use Rattle.wavelet_shelf.proofs.Shelving.{after_first, put_from, ok_err, fit_put, fits_plain}
use Rattle.wavelet_shelf.proofs.Still.{used_as}
use Rattle.wavelet_shelf.proofs.shelf.Shelf.keep.Goals as goal

pub invariant_of-self : goal.invariant_of-self
invariant_of-self g c =
    let first = c.requires.taken in
    let filed : Filed g.row.F-Disk.Denot g.F.Disk.Disk = record { file = c.in_ok-key.file; container = c.args.plain } in
    let b = c.place.new.self in
    record {
      fit = fit_put g.F.Folder.room b.folder b.containers.map.entries c.put.new.self.map.entries c.in_ok-key.key filed c.put.ensures
          (fits_plain g.F.Folder.room b.folder (c.in_ok-key.key, filed) (c.place.ensures.folder ∙ c.requires.plain) (first.taken.plain (ap is_some first.plain)))
          b.fit;
    }

pub returns : goal.returns
returns g c =
    let a = c.args.self.now in
    let first = c.requires.taken in
    let place = c.in_ok-key.ensures in
    let filed : Filed g.row.F-Disk.Denot g.F.Disk.Disk = record { file = c.in_ok-key.file; container = c.args.plain } in
    after_first a _ c.args.name.now c.args.submission.now c.args.time _ first.before filed a.containers.in_order c.requires.accepted
    (λ e. absurd (ok_err e))
    (subst (λ o. IsUsedIn g.F.Folder (λ m. m ≡ file_name_of c.args.name.now) a.folder o) (sym place.folder) (used_as g.F.Folder (λ m. m ≡ file_name_of c.args.name.now) a.folder))
    (subst (λ o. folder_faults g.F.Folder.faults a.folder ≤ folder_faults g.F.Folder.faults o) (sym place.folder) (le_refl _))
    (record { name = first.name; empty = first.empty; held = λ kept. absurd (true≢false (sym kept.filed ∙ ap is_some c.requires.plain)); safe = λ kept. absurd (true≢false (sym kept.filed ∙ ap is_some c.requires.plain)); fresh = λ kept. absurd (true≢false (sym kept.filed ∙ ap is_some c.requires.plain)); unfailed = ap faults_on first.plain })
    first.taken
    (put_from a.containers.map.entries c.place.new.self.containers.map.entries c.put.new.self.map.entries c.args.name.now c.in_ok-key.key filed place.same place.key c.put.ensures)
