use Rattle.std.proofs.Common.{◌++◌, List, sym, ap, subst, ◌∙◌, append-nil}
use Rattle.std.specs.BTreeMap as tree
use Rattle.std.specs.Cmp.Lexicographic.{slice_cmp}
use Rattle.std.specs.FinMap as finite
use Rattle.std.specs.List.Sorted.{IsStrictlySortedBy}
use Rattle.std.specs.Map.{keys_of}
use Rattle.std.specs.Ordering.{nat_cmp}
use Rattle.doc_items.specs.Maps.{Key}
use Rattle.wavelet_op.specs.declared.role.Role.{Role}
use Rattle.wavelet_state.proofs.Entries.{insert_next}
use Rattle.wavelet_state.proofs.roles.Roles.copy.Goals as goal

pub loop-address-init : goal.loop-address-init
loop-address-init c = ap (λ l. l ++ c.into_iter-address-iterator.result) c.new-map.ensures.empty

pub loop-address-preserved : goal.loop-address-preserved
loop-address-preserved c =
    let all = c.into_iter-address-iterator.ensures.into_iter_gives ∙ c.iter-address-items.ensures.rest in
    insert_next c.into_iter-address-iterator.result c.loop-address.map.entries c.insert.new.self.entries c.loop-address.address-iterator c.next.new.self c.in-Some.address.now c.in-Some.role.now
    (subst (λ (es : List (Key × Role)). IsStrictlySortedBy (slice_cmp nat_cmp) (keys_of es)) (sym all) c.iter-address-items.ensures.ordered) c.loop-address.invariant c.in-Some.ensures.steps
    (c.in_ok-_old.ensures.entries ∙ ap (λ k. tree.insert_entry (slice_cmp nat_cmp) c.loop-address.map.entries k c.in-Some.role.now) c.in_ok-address.ensures)

pub returns : goal.returns
returns c =
    ap finite.from_entries (sym (append-nil c.loop-address.map.entries) ∙ ap (λ l. c.loop-address.map.entries ++ l) (sym c.in-None.ensures.steps.0) ∙ c.loop-address.invariant ∙ c.into_iter-address-iterator.ensures.into_iter_gives ∙ c.iter-address-items.ensures.rest)
    ∙ c.self.view_is
