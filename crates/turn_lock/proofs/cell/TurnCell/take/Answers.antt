use Rattle.std.proofs.Common.{rules, ◌∷◌, sym, ap, ◌∙◌, Some}
use Rattle.atomic_table.specs.Table.{rest}
use Rattle.turn_lock.proofs.Allowed.{takes_it}
use Rattle.turn_lock.proofs.cell.TurnCell.take.Goals as goal

pub store-requires : goal.store-requires
store-requires g c = (search rules, search rules, takes_it g.T.Logged.entries _ _ _ c.args.number c.requires.0.2)

pub exchange-requires : goal.exchange-requires
exchange-requires g c =
    let told = c.store.ensures.2 c.args.number c.requires.0.2 in
    let carried = ap (λ m. m.1) told.1 in
    (search rules, (Some told.0, carried ∙ ap (λ cs. (0, Some told.0) ∷ rest cs) (sym carried)))
