use Rattle.std.proofs.Common.{◌≡◌, ℕ, List, subst, IfOk}
use Rattle.std.proofs.lemmas.Str.{chars-nil}
use Rattle.wave_index.proofs.title.no_text.Goals as goal

pub returns : goal.returns
returns c = subst (λ (x : List ℕ). IfOk c.from_str.result (λ t. t ≡ x)) chars-nil c.from_str.ensures
