use Rattle.std.proofs.Common.{ap, ◌∙◌, slice_get}
use Rattle.wavelet_state.proofs.Entries.{keys-entries, at_first, at_next, at_end}
use Rattle.wavelet_state.proofs.documents.Documents.at.Goals as goal

pub returns-then-left-eq0 : goal.returns-then-left-eq0
returns-then-left-eq0 c =
    at_first c.loop-name.name-iterator c.next.new.self c.in-Some.name.now c.loop-name.left _ c.loop-name.invariant c.in-Some.ensures.steps c.if-left-eq0.true
    ∙ ap (λ ks. slice_get ks c.args.place) (c.into_iter-name-iterator.ensures.into_iter_gives ∙ c.keys-name-items.ensures.rest ∙ keys-entries c.self.inside.map _ c.keys-name-items.ensures.ordered c.self.view_is)

pub loop-name-preserved : goal.loop-name-preserved
loop-name-preserved c = at_next c.loop-name.name-iterator c.next.new.self c.in-Some.name.now c.loop-name.left _ c.loop-name.invariant c.in-Some.ensures.steps c.if-left-eq0.false

pub returns : goal.returns
returns c =
    at_end c.loop-name.name-iterator c.loop-name.left _ c.loop-name.invariant c.in-None.ensures.steps.0
    ∙ ap (λ ks. slice_get ks c.args.place) (c.into_iter-name-iterator.ensures.into_iter_gives ∙ c.keys-name-items.ensures.rest ∙ keys-entries c.self.inside.map _ c.keys-name-items.ensures.ordered c.self.view_is)
