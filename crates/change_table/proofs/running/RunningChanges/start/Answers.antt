use Rattle.std.proofs.Common.{◌≡◌, Some, sym, ap, subst, ◌∙◌, option_map, option_and_then}
use Rattle.std.specs.FinMap.{insert}
use Rattle.std.specs.Str.{encode_utf8_all}
use Rattle.doc_items.specs.Changes.{ChangeSet, key_change}
use Rattle.doc_items.specs.declared.change.Change.{Change}
use Rattle.change_view.specs.Sets.{one_inserted, one_deleted, as_inserted, as_deleted}
use Rattle.change_table.specs.Otherwise.{AreOthers}
use Rattle.change_table.proofs.Others.{inserted_at, deleted_at, others_started}
use Rattle.change_table.proofs.running.RunningChanges.start.Goals as goal

pub invariant_of-self-2 : goal.invariant_of-self-2
invariant_of-self-2 c =
    let i = c.self.inside in
    let d = c.args.change.now in
    let k = encode_utf8_all d.key in
    let now : c.put.new.self ≡ insert i.all k (key_change d) = c.in_ok-put.ensures.ok ∙ ap (λ (x : Change). insert i.all (encode_utf8_all x.key) (key_change x)) c.in_ok-copy.ensures in (
      subst (λ (u : ChangeSet). AreOthers as_inserted u c.settle.new.others) (sym now)
          (others_started as_inserted (option_and_then one_inserted) inserted_at i.all i.inserted c.note.new.others c.settle.new.others k (key_change d) c.starts_absent-inserted_so.result c.self.invariant.0
          c.note.ensures.more c.in_ok-note.ensures.there c.settle.ensures c.starts_absent-inserted_so.ensures),
      subst (λ (u : ChangeSet). AreOthers as_deleted u c.settle-2.new.others) (sym now)
          (others_started as_deleted (option_map one_deleted) deleted_at i.all i.deleted c.note-2.new.others c.settle-2.new.others k (key_change d) c.ends_absent-deleted_so.result c.self.invariant.1
          c.note-2.ensures.more c.in_ok-note-2.ensures.there c.settle-2.ensures (λ e. ap Some (c.ends_absent-deleted_so.ensures e))),
    )
