-- Operations in normal form.
use Rattle.std.proofs.Common.{◌≡◌, ℕ, List, [], ◌∷◌, map, refl, sym, ap, ap₂, ◌∙◌}
use Rattle.std.specs.List.{All}
use Rattle.std.proofs.lemmas.List.Elements.{All-head, All-tail}
use Rattle.doc_op.specs.Actions.{actions}
use Rattle.doc_op.specs.Normal.{normal_form}
use Rattle.wavelet_op.specs.Acts.{Act, Idle, Adds, Removes, Sets, Mutates, meaning, meanings, IsNormal, AreNormal}
use Rattle.wavelet_op.specs.declared.op.WaveletOp.{WaveletOp}
use Rattle.wavelet_op.specs.declared.op.WaveletOp.TheVariants.{NoOp, Add, Remove, Mutate, SetRole}
use Rattle.wavelet_json.specs.Operations.{normal_op, normal_ops}

-- the operation in normal form of an act
abbrev form : Act → WaveletOp
form Idle = NoOp
form (Adds a) = Add a
form (Removes a) = Remove a
form (Sets a old new) = SetRole a old new
form (Mutates d acts) = Mutate d (normal_form acts)

of_meaning : (o : WaveletOp) → form (meaning o) ≡ normal_op o
of_meaning NoOp = refl
of_meaning (Add a) = refl
of_meaning (Remove a) = refl
of_meaning (Mutate d op) = refl
of_meaning (SetRole a old new) = refl

stays : (o : WaveletOp) → IsNormal o → normal_op o ≡ o
stays NoOp h = refl
stays (Add a) h = refl
stays (Remove a) h = refl
stays (Mutate d op) h = ap (Mutate d) (sym h)
stays (SetRole a old new) h = refl

all_stay : (os : List WaveletOp) → AreNormal os → normal_ops os ≡ os
all_stay [] h = refl
all_stay (o ∷ os) h = ap₂ (λ a as'. a ∷ as') (stays o (All-head IsNormal o os h)) (all_stay os (All-tail IsNormal o os h))

by_meanings : (os : List WaveletOp) → map form (meanings os) ≡ normal_ops os
by_meanings [] = refl
by_meanings (o ∷ os) = ap₂ (λ a as'. a ∷ as') (of_meaning o) (by_meanings os)

-- the operations in normal form with these meanings
pub normal_is : (os ps : List WaveletOp) → meanings os ≡ meanings ps → AreNormal os → os ≡ normal_ops ps
normal_is os ps e h = sym (all_stay os h) ∙ sym (by_meanings os) ∙ ap (map form) e ∙ by_meanings ps

-- operations in normal form stay
pub normal_stays : (os : List WaveletOp) → AreNormal os → normal_ops os ≡ os
normal_stays os h = all_stay os h
