use Rattle.std.proofs.Common.{◌≡◌, ◌++◌, drop, map, string_bytes}
use Rattle.wave_outside.specs.MemoryFolders.{file_names}
use Rattle.wave_outside.proofs.memory_folder.names_of.Given as goal

abbrev pub invariant-loop-file : goal.invariant-loop-file
invariant-loop-file l = map string_bytes l.names.items ++ file_names (drop l.file-index l.list) ≡ file_names l.list
