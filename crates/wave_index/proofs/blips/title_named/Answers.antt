use Rattle.std.proofs.Common.{◌≡◌, ℕ, List, subst, IfOk}
use Rattle.wave_index.proofs.Titles.{title_refused}
use Rattle.wave_index.proofs.blips.title_named.Goals as goal

pub returns-in-Err-BadName : goal.returns-in-Err-BadName
returns-in-Err-BadName c =
    subst (λ (x : List ℕ). IfOk c.no_text.result (λ t. t ≡ x))
    (title_refused c.args.state.now c.args.id.now c.as_str.result.now c.in-Err-BadName.field-0 c.as_str.ensures c.in-Err-BadName.field-0-is c.in-Err-BadName.ensures.refused) c.no_text.ensures
