use Rattle.std.proofs.Common.{sym, subst, ◌∙◌, List}
use Rattle.wavelet_op.specs.declared.op.WaveletOp.{WaveletOp}
use Rattle.client_control.specs.Joins.{IsJoining}
use Rattle.client_control.proofs.Joinings.{join_fits}
use Rattle.client_control.proofs.Matches.{some_of, if_ok}
use Rattle.client_control.proofs.joining.join.Goals as goal

pub returns : goal.returns
returns c =
    let ops = c.as_slice.result.now in
    let first = c.split_at.result.0.now in
    let last = c.split_at.result.1.now in
    let some : IsJoining ops first c.in-Some.some.items = some_of _ _ c.in_ok-some.field-0 c.in-Some.some c.in-Some.is c.in_ok-some.ensures in
    let all : IsJoining c.as_slice-2.result.now last c.in-Some-2.all.items = some_of _ _ c.in_ok-all.field-0 c.in-Some-2.all c.in-Some-2.is c.in_ok-all.ensures in
    let whole = sym c.as_slice-list.ensures.value ∙ c.split_at.ensures.by_index.0 in
    let same = c.as_slice.ensures.value in
    let next = subst (λ (z : List WaveletOp). IsJoining z last c.in-Some-2.all.items) c.as_slice-2.ensures.value all in
    let first_of = subst (λ (z : List WaveletOp). IsJoining z first c.in-Some.some.items) same some in
    if_ok c.if_fits.result c.if_fits.ensures (λ o h. join_fits c.args.ops.now first last c.args.entry.now c.in-Some.some.items c.in-Some-2.all.items o c.as_slice.ensures.some whole first_of.is next.is h)
