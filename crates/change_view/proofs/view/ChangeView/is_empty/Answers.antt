use Rattle.std.proofs.Common.{ap, sym, ◌∙◌, length, ◌==◌}
use Rattle.std.proofs.lemmas.List.{length-map}
use Rattle.std.specs.FinMap as finite
use Rattle.change_view.specs.Lists.{entry_of}
use Rattle.change_view.proofs.Rising.{entries_rising}
use Rattle.change_view.proofs.Views.{viewed}
use Rattle.change_view.proofs.view.ChangeView.is_empty.Goals as goal

pub returns : goal.returns
returns c =
    let v = viewed _ _ _ c.self.invariant c.self.view_is c.as_slice.ensures.value in
    c.is_empty.ensures ∙ ap (λ n. n == 0) (sym (length-map c.as_slice.result.now entry_of) ∙ ap length (sym (entries_rising _ v.rising) ∙ ap finite.entries v.value) ∙ sym (finite.len-entries c.args.self.now))
