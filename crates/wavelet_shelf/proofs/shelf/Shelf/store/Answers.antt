use Rattle.std.proofs.Common.{◌≡◌, ◌≤◌, true, IfSome, sym, ap, subst, ◌∙◌}
use Rattle.wavelet_shelf.specs.FileNames.{file_name_of}
use Rattle.wavelet_shelf.specs.Folders.{IsUsedIn}
use Rattle.wavelet_shelf.specs.Shelves.{folder_faults}
use Rattle.wavelet_shelf.specs.declared.filed.Filed.{Filed}
use Rattle.wavelet_shelf.proofs.Answering.{safe_start}
use Rattle.wavelet_shelf.proofs.Shelving.{after_first, put_from, fit_put, fits_there}
use Rattle.wavelet_shelf.proofs.shelf.Shelf.store.Goals as goal

pub invariant_of-self : goal.invariant_of-self
invariant_of-self g c =
    let place = c.in_ok-key.ensures in
    let filed : Filed g.row.F-Disk.Denot g.F.Disk.Disk = record { file = c.in_ok-key.file; container = c.taken-answer.new.container } in
    let b = c.start.new.self in
    let file = c.as_str.ensures.value ∙ place.file ∙ ap file_name_of (sym place.key) in
    record {
      fit = fit_put g.F.Folder.room b.folder b.containers.map.entries c.put.new.self.map.entries c.in_ok-key.key filed c.put.ensures
          (fits_there g.F.Folder.room b.folder (c.in_ok-key.key, filed) c.start.ensures.filed (subst (λ m. IfSome b.folder (λ f. g.F.Folder.room f m ≡ true)) file c.in_ok-container.ensures.room))
          b.fit;
    }

pub returns : goal.returns
returns g c =
    let a = c.args.self.now in
    let b = c.start.new.self in
    let place = c.in_ok-key.ensures in
    let started = c.in_ok-container.ensures.started in
    let filed : Filed g.row.F-Disk.Denot g.F.Disk.Disk = record { file = c.in_ok-key.file; container = c.taken-answer.new.container } in
    let entries = (λ i. (c.start.ensures.map i).entries) ∙ place.same in
    after_first a _ c.args.name.now c.args.submission.now c.args.time _ c.in_ok-container.container filed a.containers.in_order c.requires.accepted
    (λ e. c.requires.filed)
    (subst (λ o. IsUsedIn g.F.Folder (λ m. m ≡ file_name_of c.args.name.now) o b.folder) place.folder (subst (λ f. IsUsedIn g.F.Folder (λ m. m ≡ f) c.place.new.self.folder b.folder) (c.as_str.ensures.value ∙ place.file) c.start.ensures.used))
    (subst (λ o. folder_faults g.F.Folder.faults o ≤ folder_faults g.F.Folder.faults b.folder) place.folder c.start.ensures.later)
    (record { name = started.name; empty = started.empty; held = λ kept. started.held kept.told; safe = λ kept. safe_start c.in_ok-container.container (started.held kept.told) started.sure; fresh = λ kept. started.fresh kept.told; unfailed = started.unfailed })
    c.taken-answer.ensures
    (put_from a.containers.map.entries b.containers.map.entries c.put.new.self.map.entries c.args.name.now c.in_ok-key.key filed entries place.key c.put.ensures)
