use Rattle.std.proofs.Common.{ap, ◌∙◌, refl, arith, take, drop, drop-drop}
use Rattle.wavelet_state.proofs.Stretches.{next_taken, some_left}
use Rattle.wavelet_state.proofs.stretch.next_items.Goals as goal

pub loop-init : goal.loop-init
loop-init c = (c.in_ok-items.ensures.items, refl)

pub returns-in_default : goal.returns-in_default
returns-in_default c = absurd (some_left c.args.reader c.loop.reader c.loop.counter c.in_default.ensures c.loop.invariant.1 (omega (arith, c.loop-test.true, c.requires)))

pub loop-preserved : goal.loop-preserved
loop-preserved c = (
  next_taken c.args.reader c.loop.items.items c.push.new.self.items c.loop.reader c.loop.counter c.in-Some.item.now c.in_ok-copy.field-0 c.in-Some.ensures c.loop.invariant.1 c.loop.invariant.0 c.in_ok-copy.ensures c.in_ok-push.ensures.items,
  c.skip.ensures ∙ ap (drop 1) c.loop.invariant.1 ∙ drop-drop 1 c.loop.counter c.args.reader,
)

pub returns : goal.returns
returns c = c.loop.invariant.0 ∙ ap (λ n. take n c.args.reader) (omega (arith, c.loop-test.false, c.loop.auto.counter-end))
