use Rattle.std.proofs.Common.{sym, ap, ◌∙◌, refl, arith, true≢false}
use Rattle.std.specs.FinMap as finite
use Rattle.wavelet_state.specs.Parts.{count_all}
use Rattle.wavelet_state.proofs.Entries.{entries-entries}
use Rattle.wavelet_state.proofs.documents.Documents.fit.Goals as goal

pub returns-then-count-left : goal.returns-then-count-left
returns-then-count-left c =
    let all = ap count_all (c.into_iter-rope-iterator.ensures.into_iter_gives ∙ c.iter-rope-items.ensures.rest ∙ sym (entries-entries c.self.inside.map.entries c.iter-rope-items.ensures.ordered) ∙ ap finite.entries c.self.view_is) in
    let next = ap count_all c.in-Some.ensures.steps in
    (λ e. absurd (true≢false (sym e)), λ h. absurd (omega (arith, h, all, next, c.loop-rope.invariant, c.len-count.ensures.value, c.if-count-left.true)))

pub returns : goal.returns
returns c =
    let all = ap count_all (c.into_iter-rope-iterator.ensures.into_iter_gives ∙ c.iter-rope-items.ensures.rest ∙ sym (entries-entries c.self.inside.map.entries c.iter-rope-items.ensures.ordered) ∙ ap finite.entries c.self.view_is) in
    let none = ap count_all c.in-None.ensures.steps.0 in
    (λ e. omega (arith, all, none, c.loop-rope.invariant), λ h. refl)
