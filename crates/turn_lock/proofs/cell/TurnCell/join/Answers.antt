use Rattle.std.proofs.Common.{rules, ap, ◌∙◌, subst, List, length}
use mathlib.Core.List.{IsPrefix}
use Rattle.turn_lock.specs.Passes.{seen, rank}
use Rattle.turn_lock.proofs.Beginnings.{is_out, no_length}
use Rattle.turn_lock.proofs.Allowed.{joins, settles}
use Rattle.turn_lock.proofs.cell.TurnCell.join.Goals as goal

pub join_seat-requires : goal.join_seat-requires
join_seat-requires g c = (search rules, search rules, no_length _ c.requires.1.1, search rules, joins g.T.Logged.entries _ _ _ _ (is_out _ c.requires.0.2) (is_out _ c.requires.1.2))

pub load-requires : goal.load-requires
load-requires g c = (search rules, search rules, settles g.T.Logged.entries _ _ _ _ (ap (λ m. m.0.stage) c.join_seat.ensures.2))

pub returns-clause-own : goal.returns-clause-own
returns-clause-own g c =
    let now = c.join_seat.ensures.2 in
    let told = c.load.ensures.2 (seen c.args.other) (ap (λ m. m.0.stage) now) in
    (search rules, ap (λ m. length m.1) told.0 ∙ (ap (λ m. length m.1) now ∙ c.requires.0.1), ap (λ m. rank m.0.stage) told.0)

pub returns-clause-later : goal.returns-clause-later
returns-clause-later g c =
    let now = c.join_seat.ensures.2 in
    let told = c.load.ensures.2 (seen c.args.other) (ap (λ m. m.0.stage) now) in
    (subst (λ (l : List g.row.T-Entry.Denot). IsPrefix l c.load.new.seat.me.0.seen) (ap (λ m. m.0.seen) now) told.1, told.2)

pub returns-clause-counts : goal.returns-clause-counts
returns-clause-counts g c =
    let now = c.join_seat.ensures.2 in
    let told = c.load.ensures.2 (seen c.args.other) (ap (λ m. m.0.stage) now) in
    (ap (λ m. m.0.loads) told.0 ∙ ap (λ m. m.0.loads) now, ap (λ m. m.0.added) told.0 ∙ ap (λ m. m.0.added) now)

pub returns-clause-ticket : goal.returns-clause-ticket
returns-clause-ticket g c =
    let now = c.join_seat.ensures.2 in
    let told = c.load.ensures.2 (seen c.args.other) (ap (λ m. m.0.stage) now) in
    ap (λ m. m.0.ticket) told.0 ∙ ap (λ m. m.0.ticket) now
