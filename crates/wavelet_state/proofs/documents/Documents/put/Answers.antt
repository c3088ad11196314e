use Rattle.std.proofs.Common.{◌+◌, ◌≤◌, sym, ap, subst, ◌∙◌, length, List, Some, arith}
use Rattle.std.specs.FinMap as finite
use Rattle.std.specs.Option.{option_copied_mut}
use Rattle.doc_items.specs.Balance.{Balanced}
use Rattle.doc_items.specs.Maps.{Map}
use Rattle.doc_items.specs.declared.item.Item.{Item}
use Rattle.doc_rope.specs.Replacements.{replaced}
use Rattle.doc_rope.proofs.Replaced.{length_replaced}
use Rattle.wavelet_state.specs.Parts.{document, AreBalanced}
use Rattle.wavelet_state.proofs.Entries.{written, lent, absent}
use Rattle.wavelet_state.proofs.Parts.{balanced_set, document_there}
use Rattle.wavelet_state.proofs.documents.Documents.put.Goals as goal

pub put-requires-clause-inside : goal.put-requires-clause-inside
put-requires-clause-inside c =
    let same = document_there c.args.self.now c.args.name.now c.in-Some.rope.now (lent c.self.inside.map c.args.self.now c.args.name.now c.in-Some.rope.now c.self.view_is c.in-Some.ensures.value) in
    subst (λ (l : List Item). c.args.back.from + c.args.back.count ≤ length l) same c.requires.inside

pub put-requires-clause-bound : goal.put-requires-clause-bound
put-requires-clause-bound c =
    let same = document_there c.args.self.now c.args.name.now c.in-Some.rope.now (lent c.self.inside.map c.args.self.now c.args.name.now c.in-Some.rope.now c.self.view_is c.in-Some.ensures.value) in
    let long = length_replaced c.args.back (document c.args.self.now c.args.name.now) c.requires.inside in
    omega (arith, ap length same, long, c.requires.bound)

pub invariant_of-self : goal.invariant_of-self
invariant_of-self c = absurd (absent c.self.inside.map c.args.self.now c.args.name.now c.self.view_is c.requires.there (sym c.get_mut.ensures.value ∙ ap option_copied_mut c.in_default.is))

pub invariant_of-self-2 : goal.invariant_of-self-2
invariant_of-self-2 c =
    let n = c.get_mut.follows.lender c.put.new.self in
    let same = document_there c.args.self.now c.args.name.now c.in-Some.rope.now (lent c.self.inside.map c.args.self.now c.args.name.now c.in-Some.rope.now c.self.view_is c.in-Some.ensures.value) in
    let all = subst (λ (m : Map (List Item)). AreBalanced m) c.self.view_is c.self.invariant in
    subst (λ (m : Map (List Item)). AreBalanced m) (sym (written c.self.inside.map n c.args.self.now c.args.name.now c.put.new.self c.self.view_is c.requires.there (c.get_mut.follows.holds c.put.new.self).3))
    (balanced_set c.args.self.now c.args.name.now (Some c.put.new.self) all (subst (λ (l : List Item). Balanced l) (sym (c.put.ensures ∙ ap (replaced c.args.back) (sym same))) c.requires.balanced))

pub returns : goal.returns
returns c =
    let n = c.get_mut.follows.lender c.put.new.self in
    let same = document_there c.args.self.now c.args.name.now c.in-Some.rope.now (lent c.self.inside.map c.args.self.now c.args.name.now c.in-Some.rope.now c.self.view_is c.in-Some.ensures.value) in
    written c.self.inside.map n c.args.self.now c.args.name.now c.put.new.self c.self.view_is c.requires.there (c.get_mut.follows.holds c.put.new.self).3
    ∙ ap (λ l. finite.insert c.args.self.now c.args.name.now l) (c.put.ensures ∙ ap (replaced c.args.back) (sym same))

pub returns-in_default : goal.returns-in_default
returns-in_default c = absurd (absent c.self.inside.map c.args.self.now c.args.name.now c.self.view_is c.requires.there (sym c.get_mut.ensures.value ∙ ap option_copied_mut c.in_default.is))
