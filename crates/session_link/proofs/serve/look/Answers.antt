use Rattle.std.proofs.Common.{◌≡◌, ◌∙◌, ◌++◌, ◌∷◌, ◌+◌, ◌≤◌, [], sym, ap, refl, arith, Ok, Err}
use Rattle.wave_outside.specs.Links.{polled}
use Rattle.wave_outside.specs.declared.link.LinkEvent.{LinkEvent}
use Rattle.wave_outside.specs.declared.link.LinkEvent.TheVariants.{Received}
use Rattle.session_hub.specs.Hubs.{server_of}
use Rattle.session_steps.proofs.Apart.{nothing_left}
use Rattle.session_steps.proofs.Events.{after_received, after_idle, after_ended}
use Rattle.session_steps.proofs.Serving.{reply_goes, reply_breaks, halt_breaks, idle_goes, close_ends, fail_ends}
use Rattle.session_link.proofs.serve.look.Goals as goal

-- a message was answered, and the answer was sent
pub returns-in-Ok-send_reply-clause-going : goal.returns-in-Ok-send_reply-clause-going
returns-in-Ok-send_reply-clause-going g c o on t =
    reply_goes (server_of c.args.hub.now) o g.C.Clock.tells (g.C.Clock.readings c.args.clock.now) (g.C.Clock.readings c.reply_to.new.clock) c.args.passes.now c.reply_to.new.passes c.reply_to.ensures.later
    (g.L.Link.events c.args.link.now) (g.L.Link.events c.poll.new.self) (g.L.Link.events c.send_reply.new.link) c.args.client.now.session c.as_slice.result.now
    (c.in-Ok-Message.ensures.events t ∙ ap (λ p. g.L.Link.events c.args.link.now ++ polled (Ok p)) c.in-Ok-Message.field-0-is ∙ ap (λ b. g.L.Link.events c.args.link.now ++ Received b ∷ []) (sym c.as_slice.ensures.value))
    (c.send_reply.ensures.received t) _ _ c.in-Ok.ensures.replied (c.in-Ok-send_reply.ensures.sent t) (on t)

pub returns-in-Ok-send_reply-clause-polls : goal.returns-in-Ok-send_reply-clause-polls
returns-in-Ok-send_reply-clause-polls g c t =
    let a = (after_received _ _ _ (c.in-Ok-Message.ensures.events t ∙ ap (λ p. g.L.Link.events c.args.link.now ++ polled (Ok p)) c.in-Ok-Message.field-0-is)).polls in
    let b = c.send_reply.ensures.polls t in omega (arith, a, b)

-- it was answered, and the answer wasn't sent
pub returns-in-Ok-clause-ended : goal.returns-in-Ok-clause-ended
returns-in-Ok-clause-ended g c o on t =
    reply_breaks (server_of c.args.hub.now) o g.C.Clock.tells (g.C.Clock.readings c.args.clock.now) (g.C.Clock.readings c.reply_to.new.clock) c.args.passes.now c.reply_to.new.passes c.reply_to.ensures.later
    (g.L.Link.events c.args.link.now) (g.L.Link.events c.poll.new.self) (g.L.Link.events c.send_reply.new.link) c.args.client.now.session c.as_slice.result.now
    (c.in-Ok-Message.ensures.events t ∙ ap (λ p. g.L.Link.events c.args.link.now ++ polled (Ok p)) c.in-Ok-Message.field-0-is ∙ ap (λ b. g.L.Link.events c.args.link.now ++ Received b ∷ []) (sym c.as_slice.ensures.value))
    (c.send_reply.ensures.received t) _ c.in-Err-send_reply.ensures.cause.0 _ _ c.in-Ok.ensures.replied (c.in-Err-send_reply.ensures.unsent t) (on t)

pub returns-in-Ok-clause-polls : goal.returns-in-Ok-clause-polls
returns-in-Ok-clause-polls g c t =
    let a = (after_received _ _ _ (c.in-Ok-Message.ensures.events t ∙ ap (λ p. g.L.Link.events c.args.link.now ++ polled (Ok p)) c.in-Ok-Message.field-0-is)).polls in
    let b = c.send_reply.ensures.polls t in omega (arith, a, b)

-- it wasn't answered
pub returns-in-Ok-Message-clause-ended : goal.returns-in-Ok-Message-clause-ended
returns-in-Ok-Message-clause-ended g c o on t =
    halt_breaks (server_of c.args.hub.now) o g.C.Clock.tells (g.C.Clock.readings c.args.clock.now) (g.C.Clock.readings c.reply_to.new.clock) c.args.passes.now c.reply_to.new.passes c.reply_to.ensures.later
    (g.L.Link.events c.args.link.now) (g.L.Link.events c.poll.new.self) (g.L.Link.events c.poll.new.self) c.args.client.now.session c.as_slice.result.now
    (c.in-Ok-Message.ensures.events t ∙ ap (λ p. g.L.Link.events c.args.link.now ++ polled (Ok p)) c.in-Ok-Message.field-0-is ∙ ap (λ b. g.L.Link.events c.args.link.now ++ Received b ∷ []) (sym c.as_slice.ensures.value))
    refl _ c.in-Err-reply_to.ensures.cause.0 c.in-Err-reply_to.ensures.halted refl (on t)

pub returns-in-Ok-Message-clause-polls : goal.returns-in-Ok-Message-clause-polls
returns-in-Ok-Message-clause-polls g c t =
    let a = (after_received _ _ _ (c.in-Ok-Message.ensures.events t ∙ ap (λ p. g.L.Link.events c.args.link.now ++ polled (Ok p)) c.in-Ok-Message.field-0-is)).polls in omega (arith, a)

-- nothing came
pub returns-in-Ok-Nothing-clause-going : goal.returns-in-Ok-Nothing-clause-going
returns-in-Ok-Nothing-clause-going g c o on t =
    idle_goes (server_of c.args.hub.now) o g.C.Clock.tells (g.C.Clock.readings c.args.clock.now) c.args.passes.now c.args.passes.now (g.L.Link.events c.args.link.now) (g.L.Link.events c.poll.new.self) c.args.client.now.session
    (c.in-Ok-Nothing.ensures.events t ∙ ap (λ p. g.L.Link.events c.args.link.now ++ polled (Ok p)) c.in-Ok-Nothing.field-0-is) (on t)

pub returns-in-Ok-Nothing-clause-polls : goal.returns-in-Ok-Nothing-clause-polls
returns-in-Ok-Nothing-clause-polls g c t =
    let a = (after_idle _ _ (c.in-Ok-Nothing.ensures.events t ∙ ap (λ p. g.L.Link.events c.args.link.now ++ polled (Ok p)) c.in-Ok-Nothing.field-0-is)).polls in omega (arith, a)

-- the link was closed, and nothing is left
pub returns-in-Ok-Closed-clause-ended : goal.returns-in-Ok-Closed-clause-ended
returns-in-Ok-Closed-clause-ended g c o on t =
    close_ends (server_of c.args.hub.now) o g.C.Clock.tells (g.C.Clock.readings c.args.clock.now) c.args.passes.now c.args.passes.now (g.L.Link.events c.args.link.now) (g.L.Link.events c.poll.new.self) c.args.client.now.session
    (c.in-Ok-Closed.ensures.events t ∙ ap (λ p. g.L.Link.events c.args.link.now ++ polled (Ok p)) c.in-Ok-Closed.field-0-is) (nothing_left _ _ _ _ c.requires.sent c.requires.own.1 c.requires.all) (on t)

pub returns-in-Ok-Closed-clause-polls : goal.returns-in-Ok-Closed-clause-polls
returns-in-Ok-Closed-clause-polls g c t =
    let a = (after_ended _ _ (c.in-Ok-Closed.ensures.events t ∙ ap (λ p. g.L.Link.events c.args.link.now ++ polled (Ok p)) c.in-Ok-Closed.field-0-is)).polls in omega (arith, a)

-- the poll failed
pub returns-clause-ended : goal.returns-clause-ended
returns-clause-ended g c o on t =
    fail_ends (server_of c.args.hub.now) o g.C.Clock.tells (g.C.Clock.readings c.args.clock.now) c.args.passes.now c.args.passes.now (g.L.Link.events c.args.link.now) (g.L.Link.events c.poll.new.self) c.args.client.now.session
    _ c.link_cause.ensures.other.0 (c.in-Err.ensures.events t) (on t)
