use Rattle.std.proofs.Common.{ap, sym, ◌∙◌, map}
use Rattle.std.specs.Str.{chars}
use Rattle.std.specs.FinMap as finite
use Rattle.change_view.specs.Lists.{Entry}
use Rattle.change_view.proofs.Rising.{entries_rising}
use Rattle.change_view.proofs.Views.{viewed}
use Rattle.change_view.proofs.view.ChangeView.to_keys.Goals as goal

pub returns : goal.returns
returns c =
    let v = viewed _ _ _ c.self.invariant c.self.view_is c.as_slice.ensures.value in
    c.from_vec.ensures ∙ c.in_ok-list.ensures ∙ ap (λ es. map chars (map (λ (e : Entry). e.0) es)) (sym (entries_rising _ v.rising) ∙ ap finite.entries v.value)
