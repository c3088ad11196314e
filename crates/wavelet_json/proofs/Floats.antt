-- What is written has no float.
use Rattle.std.proofs.Common.{◌≡◌, ℕ, List, [], ◌∷◌, false, map, refl}
use Rattle.serde_json.specs.Data.{Data}
use Rattle.serde_json.specs.View.{items_of}
use Rattle.serde_json.specs.Written.{has_float, items_have_float}
use Rattle.op_json.proofs.Floats.{op_clear}
use Rattle.wavelet_op.specs.declared.op.WaveletOp.{WaveletOp}
use Rattle.wavelet_op.specs.declared.op.WaveletOp.TheVariants.{NoOp, Add, Remove, Mutate, SetRole}
use Rattle.wavelet_op.specs.declared.role.Role.{Role}
use Rattle.wavelet_op.specs.declared.role.Role.TheVariants.{Full, ReadOnly}
use Rattle.wavelet_json.specs.Operations.{role_data, op_data, ops_data}

pub list_clear : {X : Type 0} (f : X → Data) → ((x : X) → has_float (f x) ≡ false) → (xs : List X) → items_have_float (items_of (map f xs)) ≡ false
list_clear f h [] = refl
list_clear f h (x ∷ xs) = rw (h x) (list_clear f h xs)

pub role_clear : (r : Role) → has_float (role_data r) ≡ false
role_clear Full = refl
role_clear ReadOnly = refl

wavelet_op_clear : (o : WaveletOp) → has_float (op_data o) ≡ false
wavelet_op_clear NoOp = refl
wavelet_op_clear (Add a) = refl
wavelet_op_clear (Remove a) = refl
wavelet_op_clear (Mutate d op) = rw (op_clear op) refl
wavelet_op_clear (SetRole a old new) = rw (role_clear new, role_clear old) refl

pub ops_clear : (os : List WaveletOp) → has_float (ops_data os) ≡ false
ops_clear os = list_clear op_data wavelet_op_clear os
