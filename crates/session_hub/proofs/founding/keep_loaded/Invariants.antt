use Rattle.std.proofs.Common.{◌≡◌, ◌++◌, map, drop}
use Rattle.wavelet_shelf.specs.Walks.{as_hosted}
use Rattle.shard_marks.specs.declared.mark.Mark.TheVariants.{Applied}
use Rattle.shard_marks.specs.Marks.{loaded_one}
use Rattle.session_hub.specs.Records.{mark_of}
use Rattle.session_hub.proofs.founding.keep_loaded.Given as goal

abbrev pub invariant-loop-delta : goal.invariant-loop-delta
invariant-loop-delta l = map mark_of l.fn.records.items ++ loaded_one (as_hosted l.history) ≡ map mark_of l.records.items ++ map (λ x. Applied l.history.name x) (drop l.delta-index l.delta-items)
