use Rattle.std.proofs.Common.{subst, option_and_then}
use Rattle.std.proofs.lemmas.Result.{on_ok_weaker}
use Rattle.doc_items.specs.Changes.{ChangeSet}
use Rattle.change_view.specs.Sets.{one_inserted, as_inserted}
use Rattle.change_table.specs.Keys.{Touches}
use Rattle.change_table.proofs.Others.{inserted_at, touches_others}
use Rattle.change_table.proofs.running.RunningChanges.add_inserted.Goals as goal

pub returns : goal.returns
returns c =
    let i = c.self.inside in
    on_ok_weaker c.add_keys.result
    (λ added. subst (λ (u : ChangeSet). Touches c.args.touched.now u c.add_keys.new.touched (as_inserted u)) c.self.view_is
    (touches_others as_inserted (option_and_then one_inserted) inserted_at i.all i.inserted c.args.touched.now c.add_keys.new.touched c.self.invariant.0 added))
    c.add_keys.ensures
