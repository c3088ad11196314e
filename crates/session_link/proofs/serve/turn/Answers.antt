use Rattle.session_hub.specs.Hubs.{server_of}
use Rattle.session_steps.proofs.Growing.{grow_more}
use Rattle.session_steps.proofs.Serving.{break_ends}
use Rattle.session_link.proofs.serve.turn.Goals as goal

pub returns-in-Ok-clause-later : goal.returns-in-Ok-clause-later
returns-in-Ok-clause-later g c = grow_more _ _ _ c.catch_up_all.ensures.later c.look.ensures.later

pub returns-in-Ok-clause-going : goal.returns-in-Ok-clause-going
returns-in-Ok-clause-going g c o on = c.look.ensures.going o (c.in-Ok.ensures.going o on)

pub returns-in-Ok-clause-ended : goal.returns-in-Ok-clause-ended
returns-in-Ok-clause-ended g c o on = c.look.ensures.ended o (c.in-Ok.ensures.going o on)

-- the session broke off where news was sent
pub returns-in-Err-clause-ended : goal.returns-in-Err-clause-ended
returns-in-Err-clause-ended g c o on t =
    break_ends (server_of c.args.hub.now) o g.C.Clock.tells (g.C.Clock.readings c.args.clock.now) c.catch_up_all.new.passes c.catch_up_all.new.passes (g.L.Link.events c.catch_up_all.new.link) _
    c.in-Err.ensures.cause (c.in-Err.ensures.broken o on t)
