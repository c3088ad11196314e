use Rattle.std.proofs.Common.{List, sym, ap, subst, ◌∙◌}
use Rattle.doc_items.specs.Changes.{IsAscending, change_set}
use Rattle.doc_items.specs.declared.change.Change.{Change}
use Rattle.annotation_track.specs.Spots.{IsSpot}
use Rattle.annotation_track.specs.declared.spot.Spot.TheVariants.{Here, Before}
use Rattle.annotation_track.proofs.Edits.{removed_at, absent_at}
use Rattle.annotation_track.proofs.edit.stop.Goals as goal

pub returns-in-Here-clause-ascending : goal.returns-in-Here-clause-ascending
returns-in-Here-clause-ascending c =
    let spot = subst (λ (cs : List Change). IsSpot cs c.args.key.now (Here c.in-Here.index)) c.as_slice.ensures.value c.in-Here.ensures in
    let r = removed_at c.args.list.now.items c.in-Here.index c.args.key.now c.requires spot.0 spot.1 in
    subst (λ (cs : List Change). IsAscending cs) (sym c.remove-stopped.ensures.items) r.0

pub returns-in-Here-clause-stopped : goal.returns-in-Here-clause-stopped
returns-in-Here-clause-stopped c =
    let spot = subst (λ (cs : List Change). IsSpot cs c.args.key.now (Here c.in-Here.index)) c.as_slice.ensures.value c.in-Here.ensures in
    let r = removed_at c.args.list.now.items c.in-Here.index c.args.key.now c.requires spot.0 spot.1 in
    ap change_set c.remove-stopped.ensures.items ∙ r.1

pub returns-in-Before-clause-stopped : goal.returns-in-Before-clause-stopped
returns-in-Before-clause-stopped c =
    let spot = subst (λ (cs : List Change). IsSpot cs c.args.key.now (Before c.in-Before.field-0)) c.as_slice.ensures.value c.in-Before.ensures in
    absent_at c.args.list.now.items c.in-Before.field-0 c.args.key.now spot.1 spot.2
