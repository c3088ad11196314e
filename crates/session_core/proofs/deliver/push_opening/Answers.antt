use Rattle.session_core.specs.Access.{shown_by}
use Rattle.session_core.proofs.Pushing.{on_ok}
use Rattle.session_core.proofs.deliver.push_opening.Goals as goal

pub returns-else-may_see-clause-placed : goal.returns-else-may_see-clause-placed
returns-else-may_see-clause-placed g c =
    on_ok c.push_closed.result (λ f. f (shown_by g.C.Copies c.args.copies.now)) c.push_closed.ensures.placed
