use Rattle.std.proofs.Common.{◌++◌, List, sym, ap, subst, ◌∙◌, append-nil}
use Rattle.std.specs.BTreeMap as tree
use Rattle.std.specs.Cmp.Lexicographic.{slice_cmp}
use Rattle.std.specs.FinMap as finite
use Rattle.std.specs.List.Sorted.{IsStrictlySortedBy}
use Rattle.std.specs.Map.{keys_of}
use Rattle.std.specs.Ordering.{nat_cmp}
use Rattle.doc_items.specs.Maps.{Key}
use Rattle.doc_items.specs.declared.item.Item.{Item}
use Rattle.wavelet_state.proofs.Entries.{insert_next}
use Rattle.wavelet_state.proofs.packed.PackedDocuments.unpack.Goals as goal

pub loop-name-init : goal.loop-name-init
loop-name-init c = ap (λ l. l ++ c.into_iter-name-iterator.result) c.new-map.ensures.empty

pub loop-name-preserved : goal.loop-name-preserved
loop-name-preserved c =
    let all = c.into_iter-name-iterator.ensures.into_iter_gives ∙ c.iter-name-items.ensures.rest in
    insert_next c.into_iter-name-iterator.result c.loop-name.map.entries c.insert.new.self.entries c.loop-name.name-iterator c.next.new.self c.in-Some.name.now c.in-Some.packed.now
    (subst (λ (es : List (Key × List Item)). IsStrictlySortedBy (slice_cmp nat_cmp) (keys_of es)) (sym all) c.iter-name-items.ensures.ordered) c.loop-name.invariant c.in-Some.ensures.steps
    (c.in_ok-_old.ensures.entries ∙ (λ i. tree.insert_entry (slice_cmp nat_cmp) c.loop-name.map.entries (c.in_ok-name.ensures i) (c.in_ok-rope.ensures i)))

pub loop-name-preserved-in_ok-_old : goal.loop-name-preserved-in_ok-_old
loop-name-preserved-in_ok-_old c =
    let all = c.into_iter-name-iterator.ensures.into_iter_gives ∙ c.iter-name-items.ensures.rest in
    insert_next c.into_iter-name-iterator.result c.loop-name.map.entries c.insert.new.self.entries c.loop-name.name-iterator c.next.new.self c.in-Some.name.now c.in-Some.packed.now
    (subst (λ (es : List (Key × List Item)). IsStrictlySortedBy (slice_cmp nat_cmp) (keys_of es)) (sym all) c.iter-name-items.ensures.ordered) c.loop-name.invariant c.in-Some.ensures.steps
    (c.in_ok-_old.ensures.entries ∙ (λ i. tree.insert_entry (slice_cmp nat_cmp) c.loop-name.map.entries (c.in_ok-name.ensures i) (c.in_ok-rope.ensures i)))

pub loop-name-preserved-in_ok-_old-2 : goal.loop-name-preserved-in_ok-_old-2
loop-name-preserved-in_ok-_old-2 c =
    let all = c.into_iter-name-iterator.ensures.into_iter_gives ∙ c.iter-name-items.ensures.rest in
    insert_next c.into_iter-name-iterator.result c.loop-name.map.entries c.insert.new.self.entries c.loop-name.name-iterator c.next.new.self c.in-Some.name.now c.in-Some.packed.now
    (subst (λ (es : List (Key × List Item)). IsStrictlySortedBy (slice_cmp nat_cmp) (keys_of es)) (sym all) c.iter-name-items.ensures.ordered) c.loop-name.invariant c.in-Some.ensures.steps
    (c.in_ok-_old.ensures.entries ∙ (λ i. tree.insert_entry (slice_cmp nat_cmp) c.loop-name.map.entries (c.in_ok-name.ensures i) (c.in_ok-rope.ensures i)))

pub returns : goal.returns
returns c =
    ap finite.from_entries (sym (append-nil c.loop-name.map.entries) ∙ ap (λ l. c.loop-name.map.entries ++ l) (sym c.in-None.ensures.steps.0) ∙ c.loop-name.invariant ∙ c.into_iter-name-iterator.ensures.into_iter_gives ∙ c.iter-name-items.ensures.rest)
    ∙ c.self.view_is
