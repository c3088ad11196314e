use Rattle.std.proofs.Common.{◌≡◌, ◌∙◌}
use Rattle.op_validity.proofs.walk.Walk.delete.Goals as goal

pub returns-clause-step : goal.returns-clause-step
returns-clause-step c =
    let same : c.as_slice.result.now ≡ c.args.text.now = c.as_slice.ensures.value ∙ c.in_ok-chars.ensures in
    λ more. rw (← same) (c.delete_each.ensures.step more)
