use Rattle.std.proofs.Common.{◌≡◌, ◌≢◌, sym, ap, subst, ◌∙◌, List, Some, None, IfErr}
use Rattle.std.specs.FinMap as finite
use Rattle.std.specs.Option.{option_copied_mut}
use Rattle.doc_items.specs.Balance.{Balanced}
use Rattle.doc_items.specs.Maps.{Map}
use Rattle.doc_items.specs.declared.item.Item.{Item}
use Rattle.doc_op.specs.Apply.{valid}
use Rattle.op_validity.specs.declared.fault.CheckFault.TheVariants as of_check
use Rattle.wavelet_state.specs.Parts.{AreBalanced}
use Rattle.wavelet_state.proofs.Entries.{written, lent, absent}
use Rattle.wavelet_state.proofs.Parts.{balanced_set, is_edit, document_there, stays_balanced, ok_to, err_to, rewritten}
use Rattle.wavelet_state.proofs.documents.Documents.change.Goals as goal

pub invariant_of-self : goal.invariant_of-self
invariant_of-self c = absurd (absent c.self.inside.map c.args.self.now c.args.name.now c.self.view_is c.requires (sym c.get_mut.ensures.value ∙ ap option_copied_mut c.in_default.is))

pub invariant_of-self-2 : goal.invariant_of-self-2
invariant_of-self-2 c =
    let n = c.get_mut.follows.lender c.apply_rope.new.rope in
    let there = lent c.self.inside.map c.args.self.now c.args.name.now c.in-Some.rope.now c.self.view_is c.in-Some.ensures.value in
    let all = subst (λ (m : Map (List Item)). AreBalanced m) c.self.view_is c.self.invariant in
    subst (λ (m : Map (List Item)). AreBalanced m) (sym (written c.self.inside.map n c.args.self.now c.args.name.now c.apply_rope.new.rope c.self.view_is c.requires (c.get_mut.follows.holds c.apply_rope.new.rope).3))
    (balanced_set c.args.self.now c.args.name.now (Some c.apply_rope.new.rope) all
    (stays_balanced c.apply_rope.result c.in-Some.rope.now c.apply_rope.new.rope c.apply_rope.ensures.balance c.apply_rope.ensures.kept
    (subst (λ (l : List Item). Balanced l) (document_there c.args.self.now c.args.name.now c.in-Some.rope.now there) (all c.args.name.now))))

pub returns-clause-ok : goal.returns-clause-ok
returns-clause-ok c =
    let n = c.get_mut.follows.lender c.apply_rope.new.rope in
    let there = lent c.self.inside.map c.args.self.now c.args.name.now c.in-Some.rope.now c.self.view_is c.in-Some.ensures.value in
    ok_to c.apply_rope.result
    (λ v. is_edit c.args.op.now c.args.name.now c.args.self.now (finite.from_entries n.entries) c.apply_rope.new.rope
    (ap (valid c.args.op.now) (document_there c.args.self.now c.args.name.now c.in-Some.rope.now there) ∙ v)
    (written c.self.inside.map n c.args.self.now c.args.name.now c.apply_rope.new.rope c.self.view_is c.requires (c.get_mut.follows.holds c.apply_rope.new.rope).3))
    c.apply_rope.ensures.ok

pub returns-clause-invalid : goal.returns-clause-invalid
returns-clause-invalid c =
    let there = lent c.self.inside.map c.args.self.now c.args.name.now c.in-Some.rope.now c.self.view_is c.in-Some.ensures.value in
    subst (λ (l : List Item). IfErr c.apply_rope.result (λ e. e ≢ of_check.Memory → valid c.args.op.now l ≡ None)) (sym (document_there c.args.self.now c.args.name.now c.in-Some.rope.now there)) c.apply_rope.ensures.invalid

pub returns-clause-kept : goal.returns-clause-kept
returns-clause-kept c =
    let n = c.get_mut.follows.lender c.apply_rope.new.rope in
    let there = lent c.self.inside.map c.args.self.now c.args.name.now c.in-Some.rope.now c.self.view_is c.in-Some.ensures.value in
    err_to c.apply_rope.result
    (rewritten c.args.self.now (finite.from_entries n.entries) c.args.name.now c.in-Some.rope.now c.apply_rope.new.rope there
    (written c.self.inside.map n c.args.self.now c.args.name.now c.apply_rope.new.rope c.self.view_is c.requires (c.get_mut.follows.holds c.apply_rope.new.rope).3))
    c.apply_rope.ensures.kept

pub returns-in_default-clause-ok : goal.returns-in_default-clause-ok
returns-in_default-clause-ok c = absurd (absent c.self.inside.map c.args.self.now c.args.name.now c.self.view_is c.requires (sym c.get_mut.ensures.value ∙ ap option_copied_mut c.in_default.is))
