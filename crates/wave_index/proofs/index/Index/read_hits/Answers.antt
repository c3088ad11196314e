use Rattle.std.proofs.Common.{◌++◌, List, sym, ap, ◌∙◌, append-nil}
use Rattle.std.specs.FinMap as finite
use Rattle.doc_items.specs.Maps.{Key}
use Rattle.wave_index.specs.Inboxes.{hits_among}
use Rattle.wave_index.specs.Taken.{TakenOf}
use Rattle.wave_index.proofs.Entries.{entries-entries}
use Rattle.wave_index.proofs.index.Index.read_hits.Goals as goal

pub returns : goal.returns
returns c =
    sym (append-nil c.loop-wavelet.hits.items)
    ∙ ap (λ (l : List (Key × TakenOf)). c.loop-wavelet.hits.items ++ hits_among l c.args.user.now c.args.word.now) (sym c.in-None.ensures.steps.0)
    ∙ c.loop-wavelet.invariant
    ∙ ap (λ (l : List (Key × TakenOf)). hits_among l c.args.user.now c.args.word.now)
    (c.into_iter-wavelet-iterator.ensures.into_iter_gives ∙ c.iter-wavelet-items.ensures.rest ∙ sym (entries-entries c.self.inside.wavelets.entries c.iter-wavelet-items.ensures.ordered) ∙ ap finite.entries c.self.view_is)
