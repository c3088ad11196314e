use Rattle.std.proofs.Common.{◌≡◌, ap, sym, ◌∙◌, arith}
use Rattle.doc_rope.specs.Pieces.{pieces, joined}
use Rattle.doc_rope.specs.Shapes.{meet, shape_of}
use Rattle.doc_rope.proofs.Laws.{length_joined}
use Rattle.doc_rope.proofs.Shapes.{shape_bound, shape_fork}
use Rattle.doc_rope.proofs.turns.whole_shape.Goals as goal

pub meet-behind-requires-clause-ends : goal.meet-behind-requires-clause-ends
meet-behind-requires-clause-ends c =
    let p = shape_bound c.args.piece.now in
    let r = shape_bound (joined (pieces c.args.right.now)) in
    let n = length_joined (pieces c.args.right.now) in
    omega (arith, p.0, r.0, n, ap (λ s. s.ends) c.shape.ensures, ap (λ s. s.ends) c.shape-2.ensures, c.requires.fits)

pub meet-behind-requires-clause-starts : goal.meet-behind-requires-clause-starts
meet-behind-requires-clause-starts c =
    let p = shape_bound c.args.piece.now in
    let r = shape_bound (joined (pieces c.args.right.now)) in
    let n = length_joined (pieces c.args.right.now) in
    omega (arith, p.1, r.1, n, ap (λ s. s.starts) c.shape.ensures, ap (λ s. s.starts) c.shape-2.ensures, c.requires.fits)

pub meet-requires-clause-ends : goal.meet-requires-clause-ends
meet-requires-clause-ends c =
    let p = shape_bound c.args.piece.now in
    let r = shape_bound (joined (pieces c.args.right.now)) in
    let l = shape_bound (joined (pieces c.args.left.now)) in
    let n = length_joined (pieces c.args.right.now) in
    let m = length_joined (pieces c.args.left.now) in
    omega (arith, p.0, r.0, l.0, n, m, ap (λ s. s.ends) c.shape.ensures, ap (λ s. s.ends) c.shape-2.ensures, ap (λ s. s.ends) c.shape-3.ensures, ap (λ s. s.ends) c.meet-behind.ensures, c.requires.fits)

pub meet-requires-clause-starts : goal.meet-requires-clause-starts
meet-requires-clause-starts c =
    let p = shape_bound c.args.piece.now in
    let r = shape_bound (joined (pieces c.args.right.now)) in
    let l = shape_bound (joined (pieces c.args.left.now)) in
    let n = length_joined (pieces c.args.right.now) in
    let m = length_joined (pieces c.args.left.now) in
    omega (arith, p.1, r.1, l.1, n, m, ap (λ s. s.starts) c.shape.ensures, ap (λ s. s.starts) c.shape-2.ensures, ap (λ s. s.starts) c.shape-3.ensures, ap (λ s. s.starts) c.meet-behind.ensures, c.requires.fits)

pub returns : goal.returns
returns c =
    let behind : c.meet-behind.result ≡ meet (shape_of c.args.piece.now) (shape_of (joined (pieces c.args.right.now))) = c.meet-behind.ensures ∙ (λ i. meet (c.shape.ensures i) (c.shape-2.ensures i)) in
    c.meet.ensures ∙ (λ i. meet (c.shape-3.ensures i) (behind i)) ∙ sym (shape_fork (pieces c.args.left.now) c.args.piece.now (pieces c.args.right.now))
