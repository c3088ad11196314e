use Rattle.std.proofs.Common.{◌≡◌, length, slice_get}
use Rattle.wavelet_shelf.specs.Entries.{hosting}
use Rattle.wavelet_shelf.specs.Hosting.{names_of}
use Rattle.wavelet_shelf.proofs.copies.host_at.Given as goal

abbrev pub invariant-loop-name : goal.invariant-loop-name
invariant-loop-name g l = slice_get (names_of (hosting l.rest)) l.left ≡ slice_get (names_of (hosting l.fn.entries)) l.fn.place

abbrev pub decreases-loop-name : goal.decreases-loop-name
decreases-loop-name g l = length l.rest
