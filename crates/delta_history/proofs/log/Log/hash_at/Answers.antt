use Rattle.std.proofs.Common.{sym, ap, subst, ◌∙◌, slice_get}
use Rattle.std.specs.Option.{option_map}
use Rattle.delta_history.specs.Histories.{head_of}
use Rattle.delta_history.specs.Places.{started_below, IsRisingFrom, from_or, if_at}
use Rattle.delta_history.proofs.Finding.{rising, hash_is}
use Rattle.delta_history.proofs.log.Log.hash_at.Goals as goal

pub started_below-place-requires : goal.started_below-place-requires
started_below-place-requires c = subst (IsRisingFrom 0) (sym c.deltas.ensures.value) (rising c.args.self.now.name c.args.self.now.deltas c.deltas.ensures.legal)

pub returns : goal.returns
returns c =
    let place = c.started_below-place.ensures.value ∙ ap (started_below c.args.version) c.deltas.ensures.value in
    let at = c.at.ensures ∙ ap (λ k. from_or (head_of c.args.self.now).at (slice_get c.args.self.now.deltas k)) place in
    c.hash_if.ensures ∙ ap (λ a. option_map (λ z. z.hash) (if_at c.args.version a)) at ∙ hash_is c.args.self.now.name c.args.self.now.deltas c.args.version c.deltas.ensures.legal
