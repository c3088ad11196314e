use Rattle.std.proofs.Common.{map, ◌∙◌}
use Rattle.wavelet_state.proofs.Entries.{keys-entries, at_whole}
use Rattle.wavelet_state.proofs.roles.Roles.addresses.Goals as goal

pub returns : goal.returns
returns c =
    at_whole (map (λ k. k.now) c.loop-address.list.items) c.loop-address.address-iterator _ c.loop-address.invariant c.in-None.ensures.steps.0
    ∙ c.into_iter-address-iterator.ensures.into_iter_gives ∙ c.keys-address-items.ensures.rest ∙ keys-entries c.self.inside.map _ c.keys-address-items.ensures.ordered c.self.view_is
