use Rattle.std.proofs.Common.{◌≡◌, drop, map}
use Rattle.wavelet_op.specs.Acts.{meanings, AreNormal}
use Rattle.client_control.specs.Joins.{gather_joined}
use Rattle.client_control.proofs.joining.gather_on.Given as goal

abbrev pub invariant-loop-entries : goal.invariant-loop-entries
invariant-loop-entries l = record {
  is : gather_joined (meanings l.initial.ops) (map meanings l.rest) ≡ gather_joined (meanings l.ops) (map meanings (drop l.entries l.rest));
  normal : AreNormal l.ops;
}
