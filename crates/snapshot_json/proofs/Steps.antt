-- One operation that doesn't apply.
use Rattle.std.proofs.Common.{◌≡◌, [], ◌∷◌, Option, None, Some, refl}
use Rattle.std.specs.Option.{option_and_then}
use Rattle.wavelet_op.specs.Acts.{Act}
use Rattle.wavelet_op.specs.States.{State, apply_act, run}

none_is : (o : Option State) → option_and_then (λ t. run t []) o ≡ None → o ≡ None
none_is None e = refl
none_is (Some t) e = absurd cc

pub none_applies : (s : State) (a : Act) → run s (a ∷ []) ≡ None → apply_act s a ≡ None
none_applies s a e = none_is (apply_act s a) e
