use Rattle.std.proofs.Common.{◌≡◌, ◌∙◌, Bool, List, sym, subst}
use Rattle.session_core.specs.declared.session.Session.{Session}
use Rattle.shard_marks.specs.Passes.{marks_of}
use Rattle.session_hub.specs.Hubs.{server_of}
use Rattle.session_steps.specs.Going.{GoesOn}
use Rattle.session_steps.proofs.Growing.{looked_grow, grow_more, sent_later}
use Rattle.session_steps.proofs.Serving.{added_same, goes_later}
use Rattle.session_link.specs.Opened.{AreUnopened}
use Rattle.session_link.proofs.Quiet.{sent_quiet}
use Rattle.session_link.proofs.news.catch_up.Goals as goal

pub returns-in-Nothing-clause-later : goal.returns-in-Nothing-clause-later
returns-in-Nothing-clause-later g c = looked_grow c.args.passes.now c.news.new.passes c.args.shard c.news.ensures.later c.news.ensures.others

pub returns-in-Nothing-clause-sent : goal.returns-in-Nothing-clause-sent
returns-in-Nothing-clause-sent g c = sent_later c.args.hub.now.domain (marks_of c.args.passes.now) (marks_of c.news.new.passes) _ _ (looked_grow c.args.passes.now c.news.new.passes c.args.shard c.news.ensures.later c.news.ensures.others) c.requires.sent

pub returns-in-Nothing-clause-going : goal.returns-in-Nothing-clause-going
returns-in-Nothing-clause-going g c o on t =
    goes_later (server_of c.args.hub.now) o _ _ c.args.passes.now c.news.new.passes (g.L.Link.events c.args.link.now) (g.L.Link.events c.args.link.now) _ (looked_grow c.args.passes.now c.news.new.passes c.args.shard c.news.ensures.later c.news.ensures.others) (added_same c.args.passes.now c.news.new.passes c.args.shard c.news.ensures.others c.news.ensures.counts.1) (on t)

-- something may be due
pub deliver-requires-clause-sent : goal.deliver-requires-clause-sent
deliver-requires-clause-sent g c = sent_later c.args.hub.now.domain (marks_of c.args.passes.now) (marks_of c.news.new.passes) _ _ (looked_grow c.args.passes.now c.news.new.passes c.args.shard c.news.ensures.later c.news.ensures.others) c.requires.sent

pub returns-in-true-clause-later : goal.returns-in-true-clause-later
returns-in-true-clause-later g c = grow_more (marks_of c.args.passes.now) (marks_of c.news.new.passes) (marks_of c.deliver.new.passes) (looked_grow c.args.passes.now c.news.new.passes c.args.shard c.news.ensures.later c.news.ensures.others) c.deliver.ensures.later

pub returns-in-true-clause-going : goal.returns-in-true-clause-going
returns-in-true-clause-going g c o on = c.deliver.ensures.going o (λ t.
    goes_later (server_of c.args.hub.now) o _ _ c.args.passes.now c.news.new.passes (g.L.Link.events c.args.link.now) (g.L.Link.events c.args.link.now) _ (looked_grow c.args.passes.now c.news.new.passes c.args.shard c.news.ensures.later c.news.ensures.others) (added_same c.args.passes.now c.news.new.passes c.args.shard c.news.ensures.others c.news.ensures.counts.1) (on t))

pub returns-in-true-clause-broken : goal.returns-in-true-clause-broken
returns-in-true-clause-broken g c o on = c.deliver.ensures.broken o (λ t.
    goes_later (server_of c.args.hub.now) o _ _ c.args.passes.now c.news.new.passes (g.L.Link.events c.args.link.now) (g.L.Link.events c.args.link.now) _ (looked_grow c.args.passes.now c.news.new.passes c.args.shard c.news.ensures.later c.news.ensures.others) (added_same c.args.passes.now c.news.new.passes c.args.shard c.news.ensures.others c.news.ensures.counts.1) (on t))

-- nothing was opened at the shard
pub returns-in-false-clause-later : goal.returns-in-false-clause-later
returns-in-false-clause-later g c = looked_grow c.args.passes.now c.news.new.passes c.args.shard c.news.ensures.later c.news.ensures.others

pub returns-in-false-clause-sent : goal.returns-in-false-clause-sent
returns-in-false-clause-sent g c =
    sent_quiet c.args.hub.now.domain (marks_of c.news.new.passes) _ _ _ _ _ c.args.shard c.requires.quiet (sym c.has_opened.ensures ∙ c.in-false.is) c.note.ensures.session
    (c.note.ensures.here ∙ c.in-Grown.ensures.tells.0) c.note.ensures.others (sent_later c.args.hub.now.domain (marks_of c.args.passes.now) (marks_of c.news.new.passes) _ _ (looked_grow c.args.passes.now c.news.new.passes c.args.shard c.news.ensures.later c.news.ensures.others) c.requires.sent)

pub returns-in-false-clause-quiet : goal.returns-in-false-clause-quiet
returns-in-false-clause-quiet g c =
    subst (λ (z : Session × List Bool). AreUnopened c.args.hub.now.domain z.0 z.1) (λ i. (sym c.note.ensures.session i, sym c.note.ensures.opened i)) c.requires.quiet

pub returns-in-false-clause-going : goal.returns-in-false-clause-going
returns-in-false-clause-going g c o on =
    subst (λ s. GoesOn g.C.Clock g.L.Link o (server_of c.args.hub.now) c.news.new.passes c.args.link.now c.args.clock.now s) (sym c.note.ensures.session) (λ t.
    goes_later (server_of c.args.hub.now) o _ _ c.args.passes.now c.news.new.passes (g.L.Link.events c.args.link.now) (g.L.Link.events c.args.link.now) _ (looked_grow c.args.passes.now c.news.new.passes c.args.shard c.news.ensures.later c.news.ensures.others) (added_same c.args.passes.now c.news.new.passes c.args.shard c.news.ensures.others c.news.ensures.counts.1) (on t))
