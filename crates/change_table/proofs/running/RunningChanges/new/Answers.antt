use Rattle.std.proofs.Common.{sym, subst, option_map, option_and_then}
use Rattle.doc_items.specs.Changes.{ChangeSet, none_running}
use Rattle.change_view.specs.Sets.{one_inserted, one_deleted, as_inserted, as_deleted}
use Rattle.change_table.specs.Otherwise.{AreOthers}
use Rattle.change_table.proofs.Others.{inserted_at, deleted_at, others_none}
use Rattle.change_table.proofs.running.RunningChanges.new.Goals as goal

pub invariant_of-result : goal.invariant_of-result
invariant_of-result c = (
  subst (λ (u : ChangeSet). AreOthers as_inserted u c.new-2.result) (sym c.new.ensures) (subst (AreOthers as_inserted none_running) (sym c.new-2.ensures) (others_none as_inserted (option_and_then one_inserted) inserted_at)),
  subst (λ (u : ChangeSet). AreOthers as_deleted u c.new-3.result) (sym c.new.ensures) (subst (AreOthers as_deleted none_running) (sym c.new-3.ensures) (others_none as_deleted (option_map one_deleted) deleted_at)),
)
