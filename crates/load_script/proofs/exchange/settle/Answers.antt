use Rattle.std.proofs.Common.{◌≡◌, ◌-◌, ap, sym, ◌∙◌, arith}
use Rattle.client_control.specs.Parts.{follower_of}
use Rattle.load_script.specs.Exchanges.{meeting, settling}
use Rattle.load_script.proofs.Settling.{settling_on, settling_done, settling_none}
use Rattle.load_script.proofs.exchange.settle.Goals as goal

pub returns-then-is_settled : goal.returns-then-is_settled
returns-then-is_settled c =
    let m = meeting c.loop-left.host (follower_of c.loop-left.follower) in
    sym (c.loop-left.invariant ∙ settling_done c.args.time c.loop-left.left m (sym c.is_settled.ensures ∙ c.if-is_settled.true))

pub loop-left-preserved : goal.loop-left-preserved
loop-left-preserved c =
    let m = meeting c.loop-left.host (follower_of c.loop-left.follower) in
    c.loop-left.invariant ∙ settling_on c.args.time c.loop-left.left m c.loop-left-test.true (sym c.is_settled.ensures ∙ c.if-is_settled.false) ∙ ap (settling c.args.time (c.loop-left.left - 1)) (sym c.in_ok-exchange.ensures)

pub returns : goal.returns
returns c =
    let m = meeting c.loop-left.host (follower_of c.loop-left.follower) in
    let none : c.loop-left.left ≡ 0 = omega arith in
    sym (c.loop-left.invariant ∙ ap (λ n. settling c.args.time n m) none ∙ settling_none c.args.time m)
