use Rattle.std.proofs.Common.{sym, subst}
use Rattle.wave_outside.specs.MemoryFolders.{IsMade}
use Rattle.wave_outside.specs.declared.memory_folder.StoredFile.{StoredFile}
use Rattle.wave_outside.proofs.Files.{made_last}
use Rattle.wave_outside.proofs.memory_folder.push_empty.Goals as goal

pub returns-clause-made : goal.returns-clause-made
returns-clause-made c =
    let files = c.args.list.now.items in
    let file : StoredFile = record { name = c.in_ok-name.name; disk = c.empty-disk.result } in
    subst (IsMade c.args.name.now files) (sym c.in_ok-push.ensures.items) (made_last files file c.args.name.now c.in_ok-name.ensures.ok c.requires c.empty-disk.ensures.empty)
