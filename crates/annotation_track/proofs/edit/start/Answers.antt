use Rattle.std.proofs.Common.{List, sym, ap, subst, ◌∙◌}
use Rattle.doc_items.specs.Changes.{IsAscending, change_set}
use Rattle.doc_items.specs.declared.change.Change.{Change}
use Rattle.annotation_track.specs.Spots.{IsSpot}
use Rattle.annotation_track.specs.declared.spot.Spot.TheVariants.{Here, Before}
use Rattle.annotation_track.proofs.Edits.{inserted_at, replaced_at}
use Rattle.annotation_track.proofs.edit.start.Goals as goal

pub returns-in-Here-clause-ascending : goal.returns-in-Here-clause-ascending
returns-in-Here-clause-ascending c =
    let spot = subst (λ (cs : List Change). IsSpot cs c.args.change.key (Here c.in-Here.index)) c.as_slice.ensures.value c.in-Here.ensures in
    (replaced_at c.args.list.now.items c.in-Here.index c.args.change c.requires.ascending spot.0 spot.1).0

pub returns-in-Here-clause-started : goal.returns-in-Here-clause-started
returns-in-Here-clause-started c =
    let spot = subst (λ (cs : List Change). IsSpot cs c.args.change.key (Here c.in-Here.index)) c.as_slice.ensures.value c.in-Here.ensures in
    (replaced_at c.args.list.now.items c.in-Here.index c.args.change c.requires.ascending spot.0 spot.1).1

pub returns-in-Ok-clause-ascending : goal.returns-in-Ok-clause-ascending
returns-in-Ok-clause-ascending c =
    let spot = subst (λ (cs : List Change). IsSpot cs c.args.change.key (Before c.in-Before.index)) c.as_slice.ensures.value c.in-Before.ensures in
    subst (λ (cs : List Change). IsAscending cs) (sym c.in-Ok.ensures.items) (inserted_at c.args.list.now.items c.in-Before.index c.args.change spot.1 spot.2).0

pub returns-in-Ok-clause-started : goal.returns-in-Ok-clause-started
returns-in-Ok-clause-started c =
    let spot = subst (λ (cs : List Change). IsSpot cs c.args.change.key (Before c.in-Before.index)) c.as_slice.ensures.value c.in-Before.ensures in
    ap change_set c.in-Ok.ensures.items ∙ (inserted_at c.args.list.now.items c.in-Before.index c.args.change spot.1 spot.2).1
