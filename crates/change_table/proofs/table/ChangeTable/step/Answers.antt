use Rattle.std.proofs.Common.{ap, sym, ◌∙◌}
use Rattle.std.proofs.lemmas.List.{take_all}
use Rattle.std.specs.Str.{encode_utf8_all}
use Rattle.std.specs.FinMap as finite
use Rattle.doc_items.specs.Changes.{key_change, without, with_changes}
use Rattle.doc_items.specs.declared.change.Change.{Change}
use Rattle.doc_items.proofs.ChangeSets.{with_changes_next, without_next}
use Rattle.change_table.proofs.table.ChangeTable.step.Goals as goal

pub loop-key-preserved : goal.loop-key-preserved
loop-key-preserved c =
    c.remove.ensures ∙ (λ i. finite.remove (c.loop-key.invariant i) (c.as_str.ensures.bytes i))
    ∙ sym (without_next c.args.self.now c.as_slice-key-items.result.now c.loop-key.key-index c.key-item.result c.loop-key-test.true c.key-item.is)

pub loop-change-preserved : goal.loop-change-preserved
loop-change-preserved c =
    c.in_ok-put.ensures.ok ∙ ap (λ (d : Change). finite.insert c.loop-change.self (encode_utf8_all d.key) (key_change d)) c.in_ok-copy.ensures
    ∙ ap (λ u. finite.insert u (encode_utf8_all c.change-item.result.key) (key_change c.change-item.result)) c.loop-change.invariant
    ∙ sym (with_changes_next c.loop-key.self c.as_slice-change-items.result.now c.loop-change.change-index c.change-item.result c.loop-change-test.true c.change-item.is)

pub returns : goal.returns
returns c =
    c.loop-change.invariant ∙ (λ i. with_changes
    ((c.loop-key.invariant ∙ ap (without c.args.self.now) (take_all c.loop-key.key-index c.as_slice-key-items.result.now c.loop-key-test.false ∙ c.as_slice-key-items.ensures)) i)
    ((take_all c.loop-change.change-index c.as_slice-change-items.result.now c.loop-change-test.false ∙ c.as_slice-change-items.ensures) i))
