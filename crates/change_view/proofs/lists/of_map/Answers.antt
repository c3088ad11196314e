use Rattle.std.proofs.Common.{◌++◌, map, ap, sym, ◌∙◌}
use Rattle.std.proofs.lemmas.Bool.{and_from}
use Rattle.std.proofs.lemmas.Str.{is_utf8-from_IsUtf8}
use Rattle.doc_items.specs.Maps.{pair_of}
use Rattle.change_view.specs.Sets.{fresh}
use Rattle.change_view.specs.Lists.{entry_of, fresh_entry, all_texts}
use Rattle.change_view.proofs.Views.{pushed, pushed_texts}
use Rattle.change_view.proofs.lists.of_map.Goals as goal

pub loop-key-preserved : goal.loop-key-preserved
loop-key-preserved c = (
  ap (λ xs. map entry_of xs ++ map fresh_entry (map pair_of c.next.new.self)) c.in_ok-push.ensures.items
      ∙ pushed c.loop-key.out.items _ _ (map fresh_entry (map pair_of c.next.new.self)) (λ i. (c.as_str.ensures.value i, fresh (c.as_str-in-loop-key.ensures.value i)))
      ∙ ap (λ es. map entry_of c.loop-key.out.items ++ map fresh_entry (map pair_of es)) (sym c.in-Some.ensures.steps) ∙ c.loop-key.invariant.0,
  ap (λ xs. all_texts (map entry_of xs)) c.in_ok-push.ensures.items
      ∙ pushed_texts c.loop-key.out.items _ c.loop-key.invariant.1 (and_from _ _ (is_utf8-from_IsUtf8 _ c.as_str.utf8) (is_utf8-from_IsUtf8 _ c.as_str-in-loop-key.utf8)),
)
