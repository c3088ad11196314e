use Rattle.std.proofs.Common.{map, ◌∙◌}
use Rattle.wavelet_state.proofs.Entries.{keys-entries, at_whole}
use Rattle.wavelet_state.proofs.documents.Documents.names.Goals as goal

pub returns : goal.returns
returns c =
    at_whole (map (λ k. k.now) c.loop-name.list.items) c.loop-name.name-iterator _ c.loop-name.invariant c.in-None.ensures.steps.0
    ∙ c.into_iter-name-iterator.ensures.into_iter_gives ∙ c.keys-name-items.ensures.rest ∙ keys-entries c.self.inside.map _ c.keys-name-items.ensures.ordered c.self.view_is
