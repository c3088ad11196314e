use Rattle.session_core.specs.Access.{shown_by}
use Rattle.session_core.proofs.Pushing.{on_ok}
use Rattle.session_core.proofs.deliver.push_hosted.Goals as goal

pub returns-clause-placed : goal.returns-clause-placed
returns-clause-placed g c =
    on_ok c.push_host.result (λ f. f (shown_by g.C.Copies c.args.copies.now) c.in_ok-seen.ensures.there) c.push_host.ensures.placed
