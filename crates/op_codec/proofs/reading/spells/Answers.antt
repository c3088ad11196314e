use Rattle.std.proofs.Common.{ap, length, arith, sym, true≢false}
use Rattle.op_codec.proofs.reading.spells.Goals as goal

pub returns-then-size-clause-same : goal.returns-then-size-clause-same
returns-then-size-clause-same c = (
  λ t. absurd (true≢false (sym t)),
  λ h. absurd (c.if-size.true (omega (arith, c.size.ensures, c.add_components.ensures.size 0 c.new-meter.ensures, ap length h.0, h.1))),
)
