use Rattle.std.proofs.Common.{List, ◌++◌, drop}
use Rattle.wave_outside.specs.MemoryFolders.{AreForks}
use Rattle.wave_outside.specs.declared.memory_folder.StoredFile.{StoredFile}
use Rattle.wave_outside.proofs.memory_folder.forked.Given as goal

abbrev pub invariant-loop-file : goal.invariant-loop-file
invariant-loop-file l = (rest : List StoredFile) → AreForks (drop l.file-index l.list) rest → AreForks l.list (l.files.items ++ rest)
