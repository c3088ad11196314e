use Rattle.std.proofs.Common.{◌≡◌, IfOk, subst, sym, ◌∙◌}
use Rattle.document_words.specs.Words.{words}
use Rattle.document_words.proofs.Stretching.{Letters, widened_items, unfit_items}
use Rattle.document_words.proofs.stretch.stretch_words.Goals as goal

pub returns-then-not-fits : goal.returns-then-not-fits
returns-then-not-fits c =
    subst (λ (ls : Letters). IfOk c.document_words.result (λ v. v.items ≡ words ls))
    (unfit_items c.args.document.now c.args.front c.args.back c.len-len.result c.len-len.ensures.value (sym c.fits.ensures ∙ c.if-not-fits.true))
    c.document_words.ensures

pub returns : goal.returns
returns c =
    subst (λ (ls : Letters). IfOk c.words_between.result (λ v. v.items ≡ words ls))
    (widened_items c.args.document.now c.args.front c.args.back c.len-len.result c.begin-from.result c.end-until.result c.len-len.ensures.value (sym c.fits.ensures ∙ c.if-not-fits.false) c.begin-from.ensures.value
    c.end-until.ensures.value)
    c.words_between.ensures
