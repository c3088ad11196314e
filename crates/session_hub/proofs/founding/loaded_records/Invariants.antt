use Rattle.std.proofs.Common.{◌≡◌, ◌++◌, true, map}
use Rattle.wavelet_shelf.specs.Shelves.{hosted_of}
use Rattle.hosted_copies.specs.Domains.{hosted_by, hosted_from}
use Rattle.shard_marks.specs.Histories.{are_sound}
use Rattle.shard_marks.specs.Marks.{loaded}
use Rattle.session_hub.specs.Records.{mark_of}
use Rattle.session_hub.proofs.founding.loaded_records.Given as goal

abbrev pub invariant-loop-place : goal.invariant-loop-place
invariant-loop-place g l =
    (map mark_of l.records.items ++ loaded (hosted_from l.domain l.shelf l.place) ≡ loaded (hosted_by l.domain (hosted_of l.shelf)))
    × (are_sound (hosted_from l.domain l.shelf l.place) ≡ true → are_sound (hosted_by l.domain (hosted_of l.shelf)) ≡ true)
