use Rattle.std.proofs.Common.{rules, ◌≡◌, ◌∙◌, sym, ap, subst}
use Rattle.std.specs.Arc.{arc_value}
use Rattle.wave_outside.specs.Counts.{Rose}
use Rattle.turn_cells.specs.Cells.{Begins}
use Rattle.session_hub.specs.Hubs.{AreOfHub, server_of}
use Rattle.session_steps.specs.Jobs.{IsEnded}
use Rattle.session_link.proofs.job.LinkJobJob.work.Goals as goal

-- the parts of the job are those that the session was served with
pub returns : goal.returns
returns g c =
    let hub : c.deref.result.now ≡ arc_value c.args.self.hub = search (rules, c.deref.ensures, c.into_parts-hub.ensures) in (
      subst (λ h. AreOfHub h c.serve_link-cause.new.passes) hub c.serve_link-cause.ensures.own,
      subst (λ p. Begins p c.serve_link-cause.new.passes) c.into_parts-hub.ensures.1 c.serve_link-cause.ensures.later,
      (λ t. (
        g.C.Clock.readings c.serve_link-cause.new.clock,
        subst (λ k. IsEnded (server_of (arc_value c.args.self.hub)) c.args.self.passes c.serve_link-cause.new.passes g.C.Clock.tells (g.C.Clock.readings k) (g.C.Clock.readings c.serve_link-cause.new.clock)
            (g.L.Link.events c.serve_link-cause.new.link) c.serve_link-cause.result) c.into_parts-hub.ensures.3
            (subst (λ p. IsEnded (server_of (arc_value c.args.self.hub)) p c.serve_link-cause.new.passes g.C.Clock.tells (g.C.Clock.readings c.into_parts-hub.result.3) (g.C.Clock.readings c.serve_link-cause.new.clock)
            (g.L.Link.events c.serve_link-cause.new.link) c.serve_link-cause.result) c.into_parts-hub.ensures.1
            (subst (λ h. IsEnded (server_of h) c.into_parts-hub.result.1 c.serve_link-cause.new.passes g.C.Clock.tells (g.C.Clock.readings c.into_parts-hub.result.3) (g.C.Clock.readings c.serve_link-cause.new.clock)
            (g.L.Link.events c.serve_link-cause.new.link) c.serve_link-cause.result) hub (c.serve_link-cause.ensures.ended t))),
      )),
      c.serve_link-cause.ensures.closed,
      (λ e. subst (λ l. Rose (g.L.Link.faults l) (g.L.Link.faults c.serve_link-cause.new.link)) c.into_parts-hub.ensures.2 (c.serve_link-cause.ensures.failed e)),
    )
