use Rattle.std.proofs.Common.{◌++◌, map, ap, sym, ◌∙◌}
use Rattle.change_view.specs.Lists.{entry_of, all_texts}
use Rattle.change_view.proofs.Views.{IsViewOf, kept, pushed, pushed_texts}
use Rattle.change_table.specs.Tables.{stored_entry, table_of}
use Rattle.change_table.proofs.Stored.{viewed_table, empty_table}
use Rattle.change_table.proofs.table.ChangeTable.view.Goals as goal

pub loop-key-preserved : goal.loop-key-preserved
loop-key-preserved c = (
  ap (λ xs. map entry_of xs ++ map stored_entry c.next.new.self) c.in_ok-push.ensures.items
      ∙ pushed c.loop-key.list.items c.stored.result _ (map stored_entry c.next.new.self) c.stored.ensures.same
      ∙ ap (λ es. map entry_of c.loop-key.list.items ++ map stored_entry es) (sym c.in-Some.ensures.steps) ∙ c.loop-key.invariant.0,
  ap (λ xs. all_texts (map entry_of xs)) c.in_ok-push.ensures.items ∙ pushed_texts c.loop-key.list.items c.stored.result c.loop-key.invariant.1 c.stored.ensures.texts,
)

whole : (c : goal.In-None) → IsViewOf (map entry_of c.loop-key.list.items) (table_of c.self.inside.map.entries)
whole c = viewed_table _ c.loop-key.key-iterator c.self.inside.map.entries c.iter-key-items.ensures.ordered c.in-None.ensures.steps.0
    (c.loop-key.invariant.0 ∙ ap (map stored_entry) (c.into_iter-key-iterator.ensures.into_iter_gives ∙ c.iter-key-items.ensures.rest)) c.loop-key.invariant.1

pub of_rising-requires : goal.of_rising-requires
of_rising-requires c = kept _ _ (whole c)

pub returns : goal.returns
returns c =
    c.of_rising.ensures
    ∙ (viewed_table _ c.loop-key.key-iterator c.self.inside.map.entries c.iter-key-items.ensures.ordered c.in-None.ensures.steps.0
    (c.loop-key.invariant.0 ∙ ap (map stored_entry) (c.into_iter-key-iterator.ensures.into_iter_gives ∙ c.iter-key-items.ensures.rest)) c.loop-key.invariant.1).value
    ∙ c.self.view_is

pub returns-then-len-eq0 : goal.returns-then-len-eq0
returns-then-len-eq0 c = c.empty.ensures ∙ empty_table c.self.inside.map.entries (sym c.len.ensures.len ∙ c.if-len-eq0.true) ∙ c.self.view_is
