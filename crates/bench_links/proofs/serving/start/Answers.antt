use Rattle.std.proofs.Common.{rules}
use denote.Param.Send.{sendable}
use Rattle.bench_links.proofs.serving.start.Goals as goal

pub start-requires : goal.start-requires
start-requires g c = search (sendable, rules, c.requires.sends)
