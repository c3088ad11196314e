-- What the operating system's files and folders tell: their counts of faults alone. A disk's other members stand for nothing.
--     file_faults d, folder_faults f     how many calls have failed
--     file_view d                        the disk
--     file_clocked, file_bounded         the laws of disks, which hold of it
use Rattle.std.specs.Prelude.{ℕ, ◌<◌, ◌^◌, false, IsTrue, List, [], length}
use Rattle.std.proofs.Common.{arith}
use Rattle.disk_model.specs.Disk.{DiskView, IsClocked}
use Rattle.wave_files.specs.declared.disk.FileDisk.{FileDisk}

abbrev pub file_faults : FileDisk → ℕ
file_faults d = d.faults

abbrev pub file_view : FileDisk → DiskView
file_view d = record { seen = []; may_leave = λ c. ⊥; moment = 0; left_since = λ t c. ⊥; faults = d.faults }

pub file_clocked : (d : FileDisk) → IsClocked (file_view d)
file_clocked d = record { counts_now = λ t c le left. left; only_now = λ c left. left }

pub file_bounded : (d : FileDisk) → IsTrue false → length (file_view d).seen < 2 ^ 63
file_bounded d told = omega arith
