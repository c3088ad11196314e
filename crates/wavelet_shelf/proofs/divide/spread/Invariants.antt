use Rattle.std.proofs.Common.{length}
use Rattle.wavelet_shelf.proofs.Parting.{IsSpreading}
use Rattle.wavelet_shelf.proofs.divide.spread.Given as goal

abbrev pub invariant-loop-name : goal.invariant-loop-name
invariant-loop-name g l = IsSpreading l.initial.containers.map.entries l.containers.map.entries l.initial.shelves l.shelves

abbrev pub decreases-loop-name : goal.decreases-loop-name
decreases-loop-name g l = length l.containers.map.entries
