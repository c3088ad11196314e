use Rattle.std.proofs.Common.{◌≡◌, List, true, false, sym, subst, ◌∙◌, arith}
use Rattle.doc_items.specs.Changes.{IsAscending, change_set, agrees}
use Rattle.doc_items.specs.declared.change.Change.{Change}
use Rattle.doc_items.proofs.ChangeSets.{all_fit, one_misfits}
use Rattle.doc_items.proofs.change.Changes.agrees.Goals as goal

pub returns-then-not-fits_in : goal.returns-then-not-fits_in
returns-then-not-fits_in c =
    let same = c.as_slice-change-items.ensures.value ∙ c.self.view_is in
    sym (subst (λ (cs : List Change). agrees (change_set cs) c.args.map.now ≡ false) same
    (one_misfits c.as_slice-change-items.result.now c.args.map.now c.loop-change.change-index c.change-item.result (subst (λ (cs : List Change). IsAscending cs) (sym same) c.requires) c.loop-change-test.true c.change-item.is (sym c.fits_in.ensures ∙ c.if-not-fits_in.true)))

pub returns : goal.returns
returns c =
    let same = c.as_slice-change-items.ensures.value ∙ c.self.view_is in
    sym (subst (λ (cs : List Change). agrees (change_set cs) c.args.map.now ≡ true) same
    (all_fit c.as_slice-change-items.result.now c.args.map.now (subst (λ (cs : List Change). IsAscending cs) (sym same) c.requires) (λ i lt d. c.loop-change.invariant i (omega (arith, lt, c.loop-change-test.false)) d)))
