use Rattle.std.proofs.Common.{◌++◌, arith, ap, ◌∙◌}
use Rattle.doc_rope.specs.Pieces.{pieces, joined, total}
use Rattle.doc_rope.proofs.Laws.{length_joined, spliced, length_halves}
use Rattle.doc_rope.proofs.Seams.{total_glued, joined_glued}
use Rattle.doc_rope.proofs.within.put_between.Goals as goal

pub cut-inner-requires-clause-place : goal.cut-inner-requires-clause-place
cut-inner-requires-clause-place c =
    let n = length_joined (pieces c.args.tree) in
    let outer = length_halves _ (pieces c.cut-outer.result.before) (pieces c.cut-outer.result.after) c.cut-outer.ensures.joined in
    omega (arith, n, outer, c.cut-outer.ensures.place, c.requires.inside)

pub concat-requires-clause-fits : goal.concat-requires-clause-fits
concat-requires-clause-fits c =
    let n = length_joined (pieces c.args.tree) in
    let outer = length_halves _ (pieces c.cut-outer.result.before) (pieces c.cut-outer.result.after) c.cut-outer.ensures.joined in
    let inner = length_halves _ (pieces c.cut-inner.result.before) (pieces c.cut-inner.result.after) c.cut-inner.ensures.joined in
    let after = length_joined (pieces c.cut-outer.result.after) in
    let start = ap total c.concat-start.ensures.pieces ∙ total_glued (pieces c.cut-outer.result.before) (pieces c.args.items) in
    omega (arith, n, outer, inner, after, start, c.cut-inner.ensures.place, c.requires.fits)

pub returns-clause-joined : goal.returns-clause-joined
returns-clause-joined c =
    let whole = ap joined c.concat.ensures.pieces ∙ joined_glued (pieces c.concat-start.result) (pieces c.cut-inner.result.after) in
    let start = ap joined c.concat-start.ensures.pieces ∙ joined_glued (pieces c.cut-outer.result.before) (pieces c.args.items) in
    whole ∙ ap (λ m. m ++ joined (pieces c.cut-inner.result.after)) start
    ∙ spliced _ _ _ _ _ _ _ _ c.cut-outer.ensures.joined (length_joined (pieces c.cut-outer.result.before) ∙ c.cut-outer.ensures.place) c.cut-inner.ensures.joined (length_joined (pieces c.cut-inner.result.before) ∙ c.cut-inner.ensures.place)
