use Rattle.std.proofs.Common.{rules, ◌≡◌, ◌≢◌, ◌+◌, sym, ◌∙◌, arith, length}
use Rattle.turn_lock.specs.Passes.{seen}
use Rattle.turn_lock.proofs.Beginnings.{same_of, more_of, length_more}
use Rattle.turn_lock.proofs.Allowed.{may_give, may_give_new, may_publish, gave_new_published}
use Rattle.turn_lock.proofs.cell.TurnCell.give.Goals as goal

pub store-requires : goal.store-requires
store-requires g c =
    (search rules, search rules, may_give g.T.Logged.entries _ _ _ _ c.args.number c.args.value c.requires.inside.0.1 c.requires.inside.0.2 c.exchange.ensures.3 (same_of _ _ c.requires.one (search rules)))

pub store-requires-else-now-before : goal.store-requires-else-now-before
store-requires-else-now-before g c =
    let longer : length (g.T.Logged.entries c.args.value) ≢ length (seen c.args.pass.now) = λ e. c.if-now-before.false (c.length-now.ensures ∙ (e ∙ sym c.requires.inside.1)) in
    (search rules, search rules, may_give_new g.T.Logged.entries _ _ _ _ c.args.number c.args.value c.requires.inside.0.1 c.requires.inside.0.2 c.exchange.ensures.3 (more_of _ _ c.requires.one longer))

pub store-requires-else-now-before-2 : goal.store-requires-else-now-before-2
store-requires-else-now-before-2 g c =
    (search rules, search rules, may_publish g.T.Logged.entries _ _ _ _ _ c.args.number c.length-now.result c.args.value c.requires.inside.0.1 c.requires.inside.0.2 c.exchange.ensures.3 c.store-else-now-before.ensures.2 c.length-now.ensures)

pub returns-else-now-before-clause-given : goal.returns-else-now-before-clause-given
returns-else-now-before-clause-given g c =
    let told = gave_new_published g.T.Logged.entries 0 _ _ _ _ c.args.number 0 c.args.value c.requires.inside.0.1 c.requires.inside.0.2 c.exchange.ensures.3 c.store-else-now-before.ensures.2 c.store-else-now-before-2.ensures.2 in
    (search rules, told.0, told.1)

pub returns-else-now-before-clause-seen : goal.returns-else-now-before-clause-seen
returns-else-now-before-clause-seen g c =
    (gave_new_published g.T.Logged.entries 0 _ _ _ _ c.args.number 0 c.args.value c.requires.inside.0.1 c.requires.inside.0.2 c.exchange.ensures.3 c.store-else-now-before.ensures.2 c.store-else-now-before-2.ensures.2).2

pub returns-else-now-before-clause-added : goal.returns-else-now-before-clause-added
returns-else-now-before-clause-added g c =
    let told = gave_new_published g.T.Logged.entries 0 _ _ _ _ c.args.number 0 c.args.value c.requires.inside.0.1 c.requires.inside.0.2 c.exchange.ensures.3 c.store-else-now-before.ensures.2 c.store-else-now-before-2.ensures.2 in
    let longer : length (g.T.Logged.entries c.args.value) ≢ length (seen c.args.pass.now) = λ e. c.if-now-before.false (c.length-now.ensures ∙ (e ∙ sym c.requires.inside.1)) in
    let long : length (g.T.Logged.entries c.args.value) ≡ length (seen c.args.pass.now) + 1 = length_more _ _ (more_of _ _ c.requires.one longer) in
    let before : c.args.before ≡ length (seen c.args.pass.now) = c.requires.inside.1 in
    let up = told.3 in
    omega arith

pub returns-else-now-before-clause-counts : goal.returns-else-now-before-clause-counts
returns-else-now-before-clause-counts g c =
    let told = gave_new_published g.T.Logged.entries 0 _ _ _ _ c.args.number 0 c.args.value c.requires.inside.0.1 c.requires.inside.0.2 c.exchange.ensures.3 c.store-else-now-before.ensures.2 c.store-else-now-before-2.ensures.2 in
    (told.4, told.5)
