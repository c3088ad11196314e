use Rattle.std.proofs.Common.{refl, sym, ap, subst, ◌∙◌}
use Rattle.turn_cells.specs.Cells.{Begins}
use Rattle.session_hub.specs.Hubs.{server_of}
use Rattle.wave_server.proofs.Ending.{served_end, rose_from}
use Rattle.wave_server.proofs.Going.{going_more}
use Rattle.wave_server.proofs.taking.take_end.Goals as goal

pub returns-clause-going : goal.returns-clause-going
returns-clause-going g c before line h =
    let parts = c.into_parts-link.ensures in
    let gave = c.take-end.ensures.end in
    going_more g.N.Link.Link (server_of c.args.hub.now) _ _ c.join.ensures.later.0 c.args.keeps _ _ _ before _ _ line _ _ _ _ c.into_parts-link.result.0 _ h c.put.ensures.back c.put.ensures.line c.note.ensures.noted
    refl
    (λ told.
    let ended = gave.2 told in
    let seen = subst (λ x. Begins x c.join.new.passes) parts.1 c.join.ensures.later.1 in
    rw (parts.0, parts.2) (served_end (server_of c.args.hub.now) _ (ap server_of c.requires.ours) (g.P.Spawner.job_of c.args.running).passes c.take-end.result.passes c.join.new.passes _ _ ended.0 _ _ seen ended.1))
    (λ is. ap g.N.Link.Link.closed parts.0 ∙ gave.3 (sym parts.2 ∙ is))
    (λ is. rw (parts.0) (rose_from _ _ (gave.4 (sym parts.2 ∙ is))))
    c.keep.ensures
