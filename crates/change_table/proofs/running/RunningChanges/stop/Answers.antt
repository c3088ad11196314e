use Rattle.std.proofs.Common.{sym, subst, option_map, option_and_then}
use Rattle.std.specs.FinMap.{remove}
use Rattle.doc_items.specs.Changes.{ChangeSet}
use Rattle.change_view.specs.Sets.{one_inserted, one_deleted, as_inserted, as_deleted}
use Rattle.change_table.specs.Otherwise.{AreOthers}
use Rattle.change_table.proofs.Others.{inserted_at, deleted_at, others_removed}
use Rattle.change_table.proofs.running.RunningChanges.stop.Goals as goal

pub invariant_of-self : goal.invariant_of-self
invariant_of-self c =
    let i = c.self.inside in
    let k = c.args.key.now in (
      subst (λ (u : ChangeSet). AreOthers as_inserted u c.remove-2.new.self) (sym c.remove.ensures)
          (subst (AreOthers as_inserted (remove i.all k)) (sym c.remove-2.ensures) (others_removed as_inserted (option_and_then one_inserted) inserted_at i.all i.inserted k c.self.invariant.0)),
      subst (λ (u : ChangeSet). AreOthers as_deleted u c.remove-3.new.self) (sym c.remove.ensures)
          (subst (AreOthers as_deleted (remove i.all k)) (sym c.remove-3.ensures) (others_removed as_deleted (option_map one_deleted) deleted_at i.all i.deleted k c.self.invariant.1)),
    )
