use Rattle.std.proofs.Common.{◌≡◌, ◌++◌, drop, map}
use Rattle.wave_outside.specs.MemoryFolders.{entry_of}
use Rattle.wave_outside.proofs.memory_folder.copied.Given as goal

abbrev pub invariant-loop-one : goal.invariant-loop-one
invariant-loop-one l = map entry_of l.copies.items ++ map entry_of (drop l.one-index l.all) ≡ map entry_of l.all
