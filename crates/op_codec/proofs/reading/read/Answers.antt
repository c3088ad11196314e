use Rattle.std.proofs.Common.{◌≡◌, ◌-◌, ◌<◌, ℕ, List, length, take, refl, sym, ap, subst, ◌∙◌, arith, true≢false}
use Rattle.std.proofs.lemmas.Result.{err_from_is_err_and}
use Rattle.std.proofs.lemmas.List.{length-take}
use Rattle.doc_op.specs.Actions.{actions}
use Rattle.doc_op.specs.Normal.{normal_form}
use Rattle.doc_op.specs.declared.component.Component.{Component}
use Rattle.op_codec.specs.Spelling.{spelling, limit}
use Rattle.op_codec.proofs.Fields.{IsBytes}
use Rattle.op_codec.proofs.Whole.{operation_takes}
use Rattle.op_codec.proofs.Found.{front_is, found, read_alike, not_bad, shorter, used_as}
use Rattle.op_codec.proofs.reading.read.Goals as goal

pub returns-in_err-op-clause-only : goal.returns-in_err-op-clause-only
returns-in_err-op-clause-only c = λ cs rest h is.
    let p = err_from_is_err_and c.from_residual.result c.from_residual.ensures.1 in
    rw (p.1, p.2) (not_bad c.args.bytes.now cs rest c.in_err-op.field-0.0 c.in_err-op.ensures h is)

pub overflow_sub-used : goal.overflow_sub-used
overflow_sub-used c = shorter c.args.bytes.now c.in_ok-op.op c.in_ok-op.rest.now (λ i. omega (arith, c.type_inv.bytes i)) c.in_ok-op.ensures

pub is_normal-requires-clause-read : goal.is_normal-requires-clause-read
is_normal-requires-clause-read c = front_is c.args.bytes.now c.in_ok-op.op c.in_ok-op.rest.now _ (λ i. omega (arith, c.type_inv.bytes i)) c.in_ok-op.ensures refl

pub is_normal-requires-clause-spelled : goal.is_normal-requires-clause-spelled
is_normal-requires-clause-spelled c = (operation_takes c.args.bytes.now (c.in_ok-op.op, c.in_ok-op.rest.now) (λ i. omega (arith, c.type_inv.bytes i)) c.in_ok-op.ensures).1

pub returns-then-not-branch-clause-only : goal.returns-then-not-branch-clause-only
returns-then-not-branch-clause-only c = λ cs rest h is.
    let fits : IsBytes c.args.bytes.now = λ i. omega (arith, c.type_inv.bytes i) in
    let used = length c.args.bytes.now - length c.in_ok-op.rest.now in
    let same = read_alike c.args.bytes.now cs rest c.in_ok-op.op c.in_ok-op.rest.now c.in_ok-op.ensures h is in
    let front : take used c.args.bytes.now ≡ spelling cs = front_is c.args.bytes.now c.in_ok-op.op c.in_ok-op.rest.now used fits c.in_ok-op.ensures refl ∙ ap spelling same.0 in
    let normal : normal_form (actions c.in_ok-op.op) ≡ c.in_ok-op.op = subst (λ (ds : List Component). normal_form (actions ds) ≡ ds) (sym same.0) h.normal in
    let short : length (take used c.args.bytes.now) < limit = subst (λ (bs : List ℕ). length bs < limit) (sym front) h.short in
    absurd (true≢false (sym (c.in_ok-is_normal.ensures.1 (normal, short)) ∙ c.if-not-branch.true))

pub returns-clause-found : goal.returns-clause-found
returns-clause-found c =
    let fits : IsBytes c.args.bytes.now = λ i. omega (arith, c.type_inv.bytes i) in
    let normal = c.in_ok-is_normal.ensures.0 c.if-not-branch.false in
    let used = length c.args.bytes.now - length c.in_ok-op.rest.now in
    found c.args.bytes.now c.in_ok-op.op c.in_ok-op.rest.now used fits c.in_ok-op.ensures refl normal.0 (omega (arith, normal.1, length-take used c.args.bytes.now))

pub returns-clause-only : goal.returns-clause-only
returns-clause-only c = λ cs rest h is.
    let same = read_alike c.args.bytes.now cs rest c.in_ok-op.op c.in_ok-op.rest.now c.in_ok-op.ensures h is in
    (same.0, used_as c.args.bytes.now cs rest c.in_ok-op.rest.now _ is same.1 refl)
