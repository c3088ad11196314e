use Rattle.std.proofs.Common.{rules, ap, sym, subst, ◌∙◌, ◌≡◌, map}
use Rattle.session_core.specs.Deliveries.{delivered}
use Rattle.shard_marks.specs.Passes.{marks_of}
use Rattle.shard_marks.specs.Marks.{shown_at}
use Rattle.session_hub.specs.Hubs.{server_of}
use Rattle.session_steps.specs.Clients.{IsSessionOf}
use Rattle.session_steps.specs.Texts.{text_of}
use Rattle.session_steps.proofs.Apart.{sent_delivered}
use Rattle.session_steps.proofs.Growing.{turned_grow, sent_later}
use Rattle.session_steps.proofs.Serving.{added_same, news_goes, news_breaks, turn_breaks}
use Rattle.session_steps.proofs.Taking.{after_session}
use Rattle.session_link.proofs.Quiet.{quiet_delivered}
use Rattle.session_link.proofs.news.deliver.Goals as goal

-- what the shard told a peer so far
pub deliver-delivered-requires-clause-told : goal.deliver-delivered-requires-clause-told
deliver-delivered-requires-clause-told g c = search (rules, (c.requires.sent c.args.shard c.requires.shard).told)

pub returns-in-Ok-send_all-clause-later : goal.returns-in-Ok-send_all-clause-later
returns-in-Ok-send_all-clause-later g c = turned_grow _ _ _ c.deliver-delivered.ensures.turned

pub returns-in-Ok-send_all-clause-client : goal.returns-in-Ok-send_all-clause-client
returns-in-Ok-send_all-clause-client g c =
    subst (IsSessionOf (server_of c.args.hub.now)) (sym (c.note.ensures.session ∙ c.in-Ok.ensures.after)) (after_session (server_of c.args.hub.now) _ c.requires.client
    (shown_at c.args.hub.now.domain c.args.shard (marks_of c.deliver-delivered.new.passes c.args.shard)))

pub returns-in-Ok-send_all-clause-sent : goal.returns-in-Ok-send_all-clause-sent
returns-in-Ok-send_all-clause-sent g c =
    sent_delivered _ _ _ _ (sent_later _ _ _ _ _ (turned_grow _ _ _ c.deliver-delivered.ensures.turned) c.requires.sent) _ _ c.note.ensures.others _
    (c.note.ensures.session ∙ c.in-Ok.ensures.after) (ap (delivered (shown_at c.args.hub.now.domain c.args.shard (marks_of c.deliver-delivered.new.passes c.args.shard))) c.note.ensures.session ∙ c.in-Ok.ensures.told) (c.note.ensures.here ∙ c.in-Ok.ensures.look.length)

pub returns-in-Ok-send_all-clause-quiet : goal.returns-in-Ok-send_all-clause-quiet
returns-in-Ok-send_all-clause-quiet g c =
    quiet_delivered _ _ _ c.requires.quiet (marks_of c.deliver-delivered.new.passes c.args.shard) c.args.shard c.requires.opened _ _ (c.note.ensures.session ∙ c.in-Ok.ensures.after) c.note.ensures.opened

pub returns-in-Ok-send_all-clause-going : goal.returns-in-Ok-send_all-clause-going
returns-in-Ok-send_all-clause-going g c o on t =
    news_goes (server_of c.args.hub.now) o _ _ _ _ _ _ _ _ _ c.deliver-delivered.ensures.turned c.deliver-delivered.ensures.unadded c.in-Ok.ensures.look (c.in-Ok-send_all.ensures.received t)
    _ (c.note.ensures.session ∙ c.in-Ok.ensures.after) _ (ap (map text_of) c.as_slice.ensures.value ∙ c.in-Ok.ensures.frames) (c.in-Ok-send_all.ensures.ok t) (on t)

pub returns-in-Ok-clause-later : goal.returns-in-Ok-clause-later
returns-in-Ok-clause-later g c = turned_grow _ _ _ c.deliver-delivered.ensures.turned

pub returns-in-Ok-clause-broken : goal.returns-in-Ok-clause-broken
returns-in-Ok-clause-broken g c o on t =
    news_breaks (server_of c.args.hub.now) o _ _ _ _ _ _ _ _ _ c.deliver-delivered.ensures.turned c.deliver-delivered.ensures.unadded c.in-Ok.ensures.look (c.in-Err-send_all.ensures.received t)
    _ (ap (map text_of) c.as_slice.ensures.value ∙ c.in-Ok.ensures.frames) (c.in-Err-send_all.ensures.err t) (on t)

pub returns-clause-later : goal.returns-clause-later
returns-clause-later g c = turned_grow _ _ _ c.deliver-delivered.ensures.turned

pub returns-clause-broken : goal.returns-clause-broken
returns-clause-broken g c o on t =
    turn_breaks (server_of c.args.hub.now) o _ _ c.args.passes.now c.deliver-delivered.new.passes (g.L.Link.events c.args.link.now) (g.L.Link.events c.args.link.now) _
    (turned_grow c.args.passes.now c.deliver-delivered.new.passes c.args.shard c.deliver-delivered.ensures.turned)
    (added_same c.args.passes.now c.deliver-delivered.new.passes c.args.shard c.deliver-delivered.ensures.turned.others c.deliver-delivered.ensures.unadded) (on t)
