use Rattle.std.proofs.Common.{◌≡◌, ◌∙◌}
use Rattle.op_validity.proofs.rebuild.Rebuild.delete.Goals as goal

pub returns : goal.returns
returns c =
    let same : c.as_slice.result.now ≡ c.args.text.now = c.as_slice.ensures.value ∙ c.in_ok-chars.ensures in
    λ more. rw (← same) (c.in_ok-delete_each.ensures more)
