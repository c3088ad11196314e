use Rattle.std.proofs.Common.{sym, ap, subst, ◌∙◌}
use Rattle.wave_outside.specs.Folders.{AreNames}
use Rattle.wave_outside.specs.MemoryFolders.{file_in, file_names}
use Rattle.wave_outside.proofs.Files.{named, found}
use Rattle.wave_outside.proofs.memory_folder.MemoryFolderFolder.names.Goals as goal

pub returns-clause-names : goal.returns-clause-names
returns-clause-names c =
    let files = c.args.self.now.list.items in
    λ told. subst (AreNames (file_in files)) (sym (c.in_ok-names_of.ensures ∙ ap file_names c.as_slice.ensures.value)) (record { each = named files; all = found files })
