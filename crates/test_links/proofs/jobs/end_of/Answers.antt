use Rattle.std.proofs.Common.{rules}
use denote.Param.Send.{sendable}
use Rattle.test_links.proofs.jobs.end_of.Goals as goal

pub start-requires : goal.start-requires
start-requires g c = search (sendable, rules, c.requires.sends)
