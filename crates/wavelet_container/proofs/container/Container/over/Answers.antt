use Rattle.std.proofs.Common.{refl, ap, ◌∙◌}
use Rattle.delta_history.specs.Histories.{HistoryOf}
use Rattle.wavelet_container.proofs.Journals.{stored_at_start}
use Rattle.wavelet_container.proofs.container.Container.over.Goals as goal

pub returns-clause-held : goal.returns-clause-held
returns-clause-held g c told =
    let name = c.args.unstored.name in (
      c.over.result,
      refl,
      stored_at_start c.of.result name name c.over.result (ap (λ (h : HistoryOf). h.name) c.of.ensures ∙ c.new.ensures.name ∙ c.into_parts-name.ensures.name) (ap (λ (h : HistoryOf). h.deltas) c.of.ensures ∙ c.new.ensures.empty) refl
          (c.over.ensures.journal name c.into_parts-name.ensures.heading told) c.over.ensures.whole,
    )
