use Rattle.std.proofs.Common.{rules, ap, ◌∙◌}
use Rattle.turn_lock.proofs.Beginnings.{is_out, no_length}
use Rattle.turn_lock.proofs.Allowed.{looks_ticket, draws}
use Rattle.turn_lock.proofs.cell.TurnCell.draw.Goals as goal

pub load-word-requires : goal.load-word-requires
load-word-requires g c = (search rules, search rules, looks_ticket g.T.Logged.entries _ _ _ (is_out _ c.requires.2))

pub loop-init : goal.loop-init
loop-init g c = let told = c.load-word.ensures.2 in
    (search rules, ap (λ m. m.1) told ∙ no_length _ c.requires.1, ap (λ m. m.0.stage) told ∙ is_out _ c.requires.2, ap (λ m. m.0.seen) told, ap (λ m. m.0.loads) told, ap (λ m. m.0.added) told, ap (λ m. m.0.ticket) told)

pub compare_exchange-found-requires : goal.compare_exchange-found-requires
compare_exchange-found-requires g c = (search rules, search rules, draws g.T.Logged.entries _ _ _ _ _ c.loop.invariant.2 (search rules) (search rules))
