use Rattle.std.proofs.Common.{map, ap, ◌∙◌}
use Rattle.replica_store.specs.Worlds.{worlds_of}
use Rattle.replica_store.proofs.Stored.{worlds-empty}
use Rattle.wavelet_shelf.specs.Shelves.{hosted_of, fault_count}
use Rattle.session_hub.specs.Records.{mark_of}
use Rattle.session_hub.proofs.Loading.{new_replay, new_copies, new_own, new_faults}
use Rattle.session_hub.proofs.shard.Shard.new.Goals as goal

pub invariant_of-result-clause-replay : goal.invariant_of-result-clause-replay
invariant_of-result-clause-replay g c = new_replay c.args.domain c.args.number (hosted_of c.args.shelf) (map mark_of c.in_ok-records.records.items) c.in_ok-records.ensures.marks c.copies_are_hosted.ensures.ascending c.requires c.copies_are_hosted.ensures.deltas

pub invariant_of-result-clause-own : goal.invariant_of-result-clause-own
invariant_of-result-clause-own g c = new_own c.args.domain c.args.number (hosted_of c.args.shelf) (map mark_of c.in_ok-records.records.items) c.in_ok-records.ensures.marks c.requires

pub invariant_of-result-clause-counted : goal.invariant_of-result-clause-counted
invariant_of-result-clause-counted g c = new_faults c.args.domain c.args.number (hosted_of c.args.shelf) (map mark_of c.in_ok-records.records.items) c.in_ok-records.ensures.marks (fault_count c.args.shelf)

pub invariant_of-result-clause-copies : goal.invariant_of-result-clause-copies
invariant_of-result-clause-copies g c = new_copies c.args.domain c.args.number (hosted_of c.args.shelf) (map mark_of c.in_ok-records.records.items) c.in_ok-records.ensures.marks (worlds_of c.new.result) (ap worlds_of c.new.ensures ∙ worlds-empty) c.requires
