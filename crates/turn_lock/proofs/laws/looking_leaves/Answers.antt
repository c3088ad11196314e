use Rattle.turn_lock.proofs.Keeping.{ticket_looks_keep, serving_looks_keep, head_looks_keep, settling_keeps}
use Rattle.turn_lock.proofs.laws.looking_leaves.Goals as goal

pub returns : goal.returns
returns g c = record {
  ticket = ticket_looks_keep g.T.Logged.entries;
  serving = serving_looks_keep g.T.Logged.entries;
  head = head_looks_keep g.T.Logged.entries;
  settling = settling_keeps g.T.Logged.entries;
}
