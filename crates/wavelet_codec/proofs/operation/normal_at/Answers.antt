use Rattle.std.proofs.Common.{◌∙◌, ℕ, List, Some, ap, sym, arith}
use Rattle.std.proofs.lemmas.Result.{err_from_is_err_and}
use Rattle.op_codec.proofs.Fields.{IsBytes}
use Rattle.wavelet_codec.proofs.Normals.{found, refused}
use Rattle.wavelet_codec.proofs.operation.normal_at.Goals as goal

pub returns-in_err-front-clause-read : goal.returns-in_err-front-clause-read
returns-in_err-front-clause-read c =
    let p = err_from_is_err_and c.from_residual.result c.from_residual.ensures.1 in
    let fits : IsBytes c.args.bytes.now = λ i. omega (arith, c.type_inv.bytes i) in
    rw (p.1, p.2) (refused c.args.bytes.now c.in_err-front.field-0.0 fits c.in_err-front.ensures.only)

pub returns-clause-read : goal.returns-clause-read
returns-clause-read c = found c.args.bytes.now c.in_ok-front.front.op c.in_ok-front.front.used c.in_ok-front.ensures.found ∙ ap (λ (w : List ℕ). Some (c.in_ok-front.front.op, w)) (sym c.split_at.ensures.back)
