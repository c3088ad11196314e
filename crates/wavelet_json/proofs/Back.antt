-- What is written is read back.
use Rattle.std.proofs.Common.{◌≡◌, ℕ, true, cond, if◌then◌else◌, List, [], length, map, refl, sym, ap, ◌∙◌, Option, None, Some, Result, Ok, Err, codes}
use Rattle.std.specs.Option.{option_map, option_and_then}
use Rattle.std.specs.Result.{result_ok}
use Rattle.serde_json.specs.Data.{Data, string}
use Rattle.serde_json.specs.View.{items_of}
use Rattle.doc_op.specs.declared.component.Component.{Component}
use Rattle.op_json.specs.Back.{IsReadBack, AreReadBack}
use Rattle.op_json.specs.Read.{operation_of}
use Rattle.op_json.specs.Write as written
use Rattle.op_json.proofs.Back.{list_back}
use Rattle.wave_base.specs.Grammar.{is_address, is_id}
use Rattle.wavelet_op.specs.Deltas.{is_count}
use Rattle.wavelet_op.specs.declared.op.WaveletOp.{WaveletOp}
use Rattle.wavelet_op.specs.declared.op.WaveletOp.TheVariants.{NoOp, Add, Remove, Mutate, SetRole}
use Rattle.wavelet_op.specs.declared.role.Role.{Role}
use Rattle.json_fields.specs.Read.{good_text}
use Rattle.wavelet_json.specs.Operations.{role_of, role_data, op_of, op_data, op_list, ops_of, ops_data}

-- a text that passes its test
pub good_back : (test : List ℕ → _) (t : List ℕ) → test t ≡ true → good_text test (string t) ≡ Some t
good_back test t h = rw h refl

pub add_back : (a : List ℕ) → is_address a ≡ true → IsReadBack op_of op_data (Add a)
add_back a h = rw h refl

pub remove_back : (a : List ℕ) → is_address a ≡ true → IsReadBack op_of op_data (Remove a)
remove_back a h = rw h refl

pub mutate_back : (d : List ℕ) (op : List Component) → is_id d ≡ true → operation_of (written.op_data op) ≡ Ok op → IsReadBack op_of op_data (Mutate d op)
mutate_back d op h k = rw (h, k) refl

pub role_change_back : (a : List ℕ) (old new : Role) → is_address a ≡ true → IsReadBack role_of role_data old → IsReadBack role_of role_data new → IsReadBack op_of op_data (SetRole a old new)
role_change_back a old new h k l = rw (h, k, l) refl

pub ops_back : (os : List WaveletOp) → AreReadBack op_of op_data os → is_count (length os) ≡ true → ops_of (ops_data os) ≡ Some os
ops_back os h k = ap (option_and_then (λ ops. cond (is_count (length ops)) (Some ops) None)) (list_back op_of op_data [] os h) ∙ ap (λ b. cond b (Some os) None) k
