use Rattle.std.proofs.Common.{◌++◌, ◌∷◌, [], map, ap, sym, ◌∙◌}
use Rattle.std.proofs.lemmas.List.{map-append}
use Rattle.change_view.specs.Lists.{entry_of, all_texts}
use Rattle.change_view.proofs.Views.{pushed_texts, borrowed_next}
use Rattle.change_view.proofs.lists.borrowed.Goals as goal

pub loop-change-preserved : goal.loop-change-preserved
loop-change-preserved c = (
  ap (map entry_of) c.in_ok-push.ensures.items ∙ map-append entry_of c.loop-change.out.items (c.of.result ∷ []) ∙ (λ i. c.loop-change.invariant.0 i ++ c.of.ensures.same i ∷ [])
      ∙ sym (borrowed_next c.args.changes.now c.loop-change.change-index c.change-item.result c.loop-change-test.true c.change-item.is),
  ap (λ xs. all_texts (map entry_of xs)) c.in_ok-push.ensures.items ∙ pushed_texts c.loop-change.out.items c.of.result c.loop-change.invariant.1 c.of.ensures.texts,
)
