-- The bytes of operations go by what these mean.
--     same_bytes     operations with the same meanings have the same bytes
use Rattle.std.proofs.Common.{◌≡◌, ℕ, List, [], ◌∷◌, ◌++◌, length, refl, sym, ap, ◌∙◌}
use Rattle.std.specs.Int.{w32, to_be_bytes}
use Rattle.std.specs.List.{flat_map}
use Rattle.std.proofs.lemmas.List.{length-map}
use Rattle.doc_op.specs.Normal.{normal_form}
use Rattle.op_codec.specs.Spelling.{string, spelling}
use Rattle.wavelet_op.specs.Acts.{Act, Idle, Adds, Removes, Sets, Mutates, meaning, meanings}
use Rattle.wavelet_op.specs.declared.op.WaveletOp.{WaveletOp}
use Rattle.wavelet_op.specs.declared.op.WaveletOp.TheVariants.{NoOp, Add, Remove, Mutate, SetRole}
use Rattle.wavelet_codec.specs.Spelling.{roles, op_bytes, ops_bytes}

abbrev act_bytes : Act → List ℕ
act_bytes Idle = 0 ∷ []
act_bytes (Adds address) = 1 ∷ string address
act_bytes (Removes address) = 2 ∷ string address
act_bytes (Mutates document acts) = 3 ∷ (string document ++ spelling (normal_form acts))
act_bytes (Sets address old new) = 4 ∷ (string address ++ roles (old, new))

one : (o : WaveletOp) → op_bytes o ≡ act_bytes (meaning o)
one NoOp = refl
one (Add address) = refl
one (Remove address) = refl
one (Mutate document op) = refl
one (SetRole address old new) = refl

each : (os : List WaveletOp) → flat_map op_bytes os ≡ flat_map act_bytes (meanings os)
each [] = refl
each (o ∷ os) = λ i. one o i ++ each os i

pub same_bytes : (os ps : List WaveletOp) → meanings os ≡ meanings ps → ops_bytes os ≡ ops_bytes ps
unfolding ops_bytes
same_bytes os ps e =
    let count : length os ≡ length ps = sym (length-map os meaning) ∙ ap length e ∙ length-map ps meaning in
    λ i. to_be_bytes w32 (count i) ++ (each os ∙ ap (flat_map act_bytes) e ∙ sym (each ps)) i
