use Rattle.std.proofs.Common.{arith, refl, ap, subst, map, ◌∙◌, ◌≡◌, inl, inr, true, false, [], ◌∷◌, string_bytes}
use Rattle.std.proofs.lemmas.Grind.{common_steps}
use Rattle.clap.specs.Faults.{fault_of, is_simple_and_free}
use Rattle.clap.specs.Kinds.{Kinds, HasKind}
use Rattle.clap.specs.Values.{kind_of}
use Rattle.clap.specs.declared.error.Error.{Error}
use Rattle.clap.specs.declared.error.kind.ErrorKind.TheVariants.{OutOfMemory}
use Rattle.clap.specs.Simple.{App, HasMatchesOf, is_simple}
use Rattle.clap.specs.Walk.{is_empty}
use Rattle.command_words.specs.Commands.{wave}
use Rattle.command_words.proofs.grammar.parse.Goals as goal

simple : is_simple wave ≡ true
simple = refl

free : is_simple_and_free wave ≡ true
free = refl

pub returns-in-Ok-clause-ok : goal.returns-in-Ok-clause-ok
returns-in-Ok-clause-ok c =
    let none : fault_of wave (map string_bytes c.args.words.now) ≡ [] = subst (λ (a : App). is_simple_and_free a ≡ true → fault_of a (map string_bytes c.args.words.now) ≡ []) c.requires.app c.in-Ok.ensures.kinds free in
    ap is_empty none

pub returns-in-Ok-clause-rows : goal.returns-in-Ok-clause-rows
returns-in-Ok-clause-rows c = (subst (λ (a : App). HasMatchesOf a (map string_bytes c.args.words.now) c.in-Ok.matches) c.requires.app c.in-Ok.ensures.matches simple).1

-- an error of another kind than want of memory has one of the kinds, so there is one
has_one : (ks : Kinds) (e : Error) → (kind_of e ≡ OutOfMemory → ⊥) → HasKind ks e → is_empty ks ≡ false
has_one [] e other (inl memory) = absurd (other memory)
has_one [] e other (inr none) = absurd none
has_one (k ∷ ks) e other found = grind (arith, common_steps)

pub returns : goal.returns
returns c =
    let found : HasKind (fault_of wave (map string_bytes c.args.words.now)) c.in-Err.error = subst (λ (a : App). is_simple_and_free a ≡ true → HasKind (fault_of a (map string_bytes c.args.words.now)) c.in-Err.error) c.requires.app c.in-Err.ensures.kinds free in
    record { ok = tt; rows = tt; err = λ usage. has_one _ c.in-Err.error (λ memory. c.in_default.not-OutOfMemory (c.kind.ensures ∙ memory)) found }
