use Rattle.std.proofs.Common.{◌≡◌, Some, sym, subst}
use Rattle.session_hub.specs.Hubs.{server_of}
use Rattle.session_steps.specs.Going.{HasReplied}
use Rattle.session_steps.proofs.Growing.{grow_same}
use Rattle.session_steps.proofs.Replying.{reply_done}
use Rattle.session_link.proofs.replies.reply.Goals as goal

pub returns-in-Reply-clause-later : goal.returns-in-Reply-clause-later
returns-in-Reply-clause-later g c = grow_same _

-- what was asked for is this reply
pub returns-in-Reply-clause-replied : goal.returns-in-Reply-clause-replied
returns-in-Reply-clause-replied g c =
    subst (λ a. HasReplied g.C.Clock (server_of c.args.hub.now) c.args.passes.now c.args.passes.now c.args.clock.now c.args.clock.now (c.args.client.now.session, a) c.args.client.now.session (Some c.in-Reply.message))
    (sym c.in-Reply.is) (reply_done (server_of c.args.hub.now) g.C.Clock.tells (g.C.Clock.readings c.args.clock.now) c.args.passes.now c.args.client.now.session c.in-Reply.message)
