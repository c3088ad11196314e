use Rattle.std.proofs.Common.{List, sym, subst}
use Rattle.doc_items.specs.Changes.{none_running}
use Rattle.doc_op.specs.declared.component.Component.{Component}
use Rattle.doc_op.specs.Cursors.{IsSoundFrom}
use Rattle.doc_op.proofs.Cursors.{built_is_sound}
use Rattle.doc_op.proofs.cursor.Cursor.new.Goals as goal

pub enter-requires : goal.enter-requires
enter-requires c =
    subst (λ u. IsSoundFrom u c.as_slice.result.now) (sym c.new-2.ensures)
    (subst (λ (cs : List Component). IsSoundFrom none_running cs) (sym c.as_slice.ensures.value) (built_is_sound c.args.op.now c.as_slice.ensures.built))
