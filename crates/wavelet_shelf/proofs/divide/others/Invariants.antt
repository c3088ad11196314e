use Rattle.std.proofs.Common.{◌≡◌, length}
use Rattle.std.specs.List.{AllByRecursion}
use Rattle.wavelet_shelf.specs.Parts.{fault_sums, IsLike}
use Rattle.wavelet_shelf.proofs.divide.others.Given as goal

abbrev pub invariant-loop : goal.invariant-loop
invariant-loop g l = record {
  so_many : length l.shelves.items ≡ l.counter;
  like : AllByRecursion (IsLike l.folder) l.shelves.items;
  uncounted : fault_sums l.shelves.items ≡ 0;
}
