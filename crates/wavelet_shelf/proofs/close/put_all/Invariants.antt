use Rattle.std.proofs.Common.{length}
use Rattle.wavelet_shelf.proofs.Returning.{IsPutting}
use Rattle.wavelet_shelf.proofs.close.put_all.Given as goal

abbrev pub invariant-loop-filed : goal.invariant-loop-filed
invariant-loop-filed g l = IsPutting g.F.Folder l.initial.folder l.folder l.initial.containers.map.entries l.containers.map.entries

abbrev pub decreases-loop-filed : goal.decreases-loop-filed
decreases-loop-filed g l = length l.containers.map.entries
