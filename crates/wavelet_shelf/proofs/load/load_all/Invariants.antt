use Rattle.std.proofs.Common.{◌≤◌, [], take, map, string_bytes}
use Rattle.wavelet_shelf.specs.Entries.{HaveRoom}
use Rattle.wavelet_shelf.specs.Folders.{IsStill, IsLoading, faults_with}
use Rattle.wavelet_shelf.proofs.load.load_all.Given as goal

abbrev pub invariant-loop-name : goal.invariant-loop-name
invariant-loop-name g l = record {
  room : HaveRoom (g.F.Folder.room l.folder) l.containers.map.entries;
  loading : IsLoading g.F.Folder l.initial.folder l.folder l.containers.map.entries (map string_bytes (take l.name-index l.fn.names));
  still : IsStill g.F.Folder l.initial.folder l.folder;
  later : faults_with g.F.Folder {disk = g.F.Disk.Disk} l.initial.folder [] ≤ faults_with g.F.Folder {disk = g.F.Disk.Disk} l.folder l.containers.map.entries;
}
