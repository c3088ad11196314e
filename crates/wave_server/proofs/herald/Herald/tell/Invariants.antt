use Rattle.turn_cells.specs.Cells.{Begins}
use Rattle.session_hub.specs.Hubs.{AreOfHub}
use Rattle.wave_server.proofs.herald.Herald.tell.Given as goal

abbrev pub invariant-loop-shard : goal.invariant-loop-shard
invariant-loop-shard g l = AreOfHub l.hub l.passes × Begins l.fn.passes l.passes
