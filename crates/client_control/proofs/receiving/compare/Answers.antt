use Rattle.std.proofs.Common.{◌≡◌, sym, ap, ◌∙◌}
use Rattle.std.specs.Cmp.Lexicographic.{bytes_decides}
use Rattle.wavelet_codec.specs.Spelling.{delta_bytes}
use Rattle.wavelet_op.specs.Deltas.{DeltaOf}
use Rattle.wavelet_op.proofs.Partial.{both}
use Rattle.follower_rules.proofs.Advances.{ops_back}
use Rattle.client_control.proofs.Receipts.{own_compared, other_compared}
use Rattle.client_control.proofs.receiving.compare.Goals as goal

pub returns-then-eq : goal.returns-then-eq
returns-then-eq c =
    let g = c.args.flight.now in
    let d = c.args.delta.now in
    let own = c.in_ok-own.own in
    let is : own ≡ record { id = d.id; from = d.from; time = d.time; ops = g.ops } = c.in_ok-own.ensures ∙ (λ i. record { id = d.id; from = d.from; time = d.time; ops = c.in_ok-mine.ensures i }) in
    let mine = c.as_slice.ensures.value ∙ c.in_ok-spelled_own.ensures.value in
    let same = (bytes_decides c.args.spelled.now c.as_slice.result.now).0 (sym c.eq.ensures ∙ c.if-eq.true) in
    own_compared g d own c.requires.normal is c.requires.is c.in_ok-spelled_own.ensures.is (sym c.requires.bytes ∙ same ∙ mine)

pub returns-else-eq : goal.returns-else-eq
returns-else-eq c =
    let g = c.args.flight.now in
    let d = c.args.delta.now in
    let own = c.in_ok-own.own in
    let is : own ≡ record { id = d.id; from = d.from; time = d.time; ops = g.ops } = c.in_ok-own.ensures ∙ (λ i. record { id = d.id; from = d.from; time = d.time; ops = c.in_ok-mine.ensures i }) in
    let mine = c.as_slice.ensures.value ∙ c.in_ok-spelled_own.ensures.value in
    let differ = λ (h : delta_bytes d ≡ delta_bytes own). both (c.eq.ensures ∙ (bytes_decides c.args.spelled.now c.as_slice.result.now).1 (c.requires.bytes ∙ h ∙ sym mine)) c.if-eq.false in
    let ops : own.ops ≡ g.ops = ap (λ (z : DeltaOf). z.ops) is in
    (other_compared g d own c.requires.normal is differ, c.into_ops.ensures ∙ ops ∙ sym (ops_back g.ops c.requires.normal), c.in_ok-theirs.ensures ∙ ap (λ (z : DeltaOf). z.ops) c.delta.view_is)
