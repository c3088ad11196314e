use Rattle.std.proofs.Common.{IfSome, subst}
use Rattle.disk_model.specs.Memory.{disk_view}
use Rattle.wave_outside.specs.Folders.{IsHanded}
use Rattle.wave_outside.specs.MemoryFolders.{file_in, folder_files}
use Rattle.wave_outside.proofs.Handing.{handed_on}
use Rattle.wave_outside.proofs.memory_folder.MemoryFolderFolder.file.Goals as goal

pub returns-clause-given : goal.returns-clause-given
returns-clause-given c told =
    let was = file_in (folder_files c.args.self.now) c.args.name.now in
    let taken = subst (λ o. IfSome o (λ d. IsHanded disk_view was (disk_view d))) c.take.ensures.value c.in_ok-make-2.ensures.made.there in
    handed_on disk_view was (disk_view c.take.result) (disk_view c.uncounted-disk.result.0) taken c.uncounted-disk.ensures.same
