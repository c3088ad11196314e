use Rattle.std.proofs.Common.{◌≡◌, ◌∙◌, sym, subst, IfOk, OnErr, option_map}
use Rattle.session_core.specs.News.{reply_message}
use Rattle.session_hub.specs.Hubs.{server_of}
use Rattle.session_steps.specs.Going.{HasReplied, HasHalted}
use Rattle.session_steps.proofs.Growing.{grow_same}
use Rattle.session_steps.proofs.Replying.{reply_halted}
use Rattle.session_steps.proofs.Taking.{taken_is}
use Rattle.session_link.proofs.Quiet.{taken_sent, taken_quiet}
use Rattle.session_link.proofs.replies.reply_to.Goals as goal

pub reply-requires-clause-client : goal.reply-requires-clause-client
reply-requires-clause-client g c = (taken_is (server_of c.args.hub.now) _ c.requires.client _ _ _ c.in-Ok.ensures.ok).session

pub reply-requires-clause-asks : goal.reply-requires-clause-asks
reply-requires-clause-asks g c = (taken_is (server_of c.args.hub.now) _ c.requires.client _ _ _ c.in-Ok.ensures.ok).asks

pub reply-requires-clause-sent : goal.reply-requires-clause-sent
reply-requires-clause-sent g c =
    taken_sent (server_of c.args.hub.now) _ _ (taken_is (server_of c.args.hub.now) _ c.requires.client _ _ _ c.in-Ok.ensures.ok) _ _ _ (λ e. (c.take.ensures.kept e).0) c.take.ensures.due c.requires.sent

pub reply-requires-clause-quiet : goal.reply-requires-clause-quiet
reply-requires-clause-quiet g c =
    taken_quiet (server_of c.args.hub.now) _ _ (taken_is (server_of c.args.hub.now) _ c.requires.client _ _ _ c.in-Ok.ensures.ok) _ _ (λ e. (c.take.ensures.kept e).1) c.take.ensures.flagged c.requires.quiet

pub returns-in-Ok-clause-replied : goal.returns-in-Ok-clause-replied
returns-in-Ok-clause-replied g c =
    subst (λ a. IfOk c.reply.result (λ r. HasReplied g.C.Clock (server_of c.args.hub.now) c.args.passes.now c.reply.new.passes c.args.clock.now c.reply.new.clock a c.reply.new.client.session (option_map reply_message r)))
    c.in-Ok.ensures.ok c.reply.ensures.replied

pub returns-in-Ok-clause-halted : goal.returns-in-Ok-clause-halted
returns-in-Ok-clause-halted g c =
    subst (λ a. OnErr c.reply.result (HasHalted g.C.Clock (server_of c.args.hub.now) c.args.passes.now c.reply.new.passes c.args.clock.now c.reply.new.clock a))
    c.in-Ok.ensures.ok c.reply.ensures.halted

pub returns-in-Err-clause-later : goal.returns-in-Err-clause-later
returns-in-Err-clause-later g c = grow_same _

pub returns-in-Err-clause-halted : goal.returns-in-Err-clause-halted
returns-in-Err-clause-halted g c = reply_halted (server_of c.args.hub.now) g.C.Clock.tells (g.C.Clock.readings c.args.clock.now) c.args.passes.now _
