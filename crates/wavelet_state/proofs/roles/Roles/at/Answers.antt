use Rattle.std.proofs.Common.{ap, ◌∙◌, slice_get}
use Rattle.wavelet_state.proofs.Entries.{keys-entries, at_first, at_next, at_end}
use Rattle.wavelet_state.proofs.roles.Roles.at.Goals as goal

pub returns-then-left-eq0 : goal.returns-then-left-eq0
returns-then-left-eq0 c =
    at_first c.loop-address.address-iterator c.next.new.self c.in-Some.address.now c.loop-address.left _ c.loop-address.invariant c.in-Some.ensures.steps c.if-left-eq0.true
    ∙ ap (λ ks. slice_get ks c.args.place) (c.into_iter-address-iterator.ensures.into_iter_gives ∙ c.keys-address-items.ensures.rest ∙ keys-entries c.self.inside.map _ c.keys-address-items.ensures.ordered c.self.view_is)

pub loop-address-preserved : goal.loop-address-preserved
loop-address-preserved c = at_next c.loop-address.address-iterator c.next.new.self c.in-Some.address.now c.loop-address.left _ c.loop-address.invariant c.in-Some.ensures.steps c.if-left-eq0.false

pub returns : goal.returns
returns c =
    at_end c.loop-address.address-iterator c.loop-address.left _ c.loop-address.invariant c.in-None.ensures.steps.0
    ∙ ap (λ ks. slice_get ks c.args.place) (c.into_iter-address-iterator.ensures.into_iter_gives ∙ c.keys-address-items.ensures.rest ∙ keys-entries c.self.inside.map _ c.keys-address-items.ensures.ordered c.self.view_is)
