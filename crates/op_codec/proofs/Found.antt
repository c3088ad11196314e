-- What was read is in normal form, and all that is spelled in it is read.
--     is_same        an operation has the bytes of another where it is the other
--     found          what was read from bytes and is in normal form
--     read_as        a spelling at the front of bytes is read
use Rattle.std.proofs.Common.{◌≡◌, ◌↔◌, ℕ, ◌-◌, ◌<◌, ◌≤◌, Bool, List, [], ◌++◌, length, take, drop, Result, Ok, Err, Some, None, refl, sym, ap, subst, ◌∙◌, arith}
use Rattle.std.specs.Prelude.{IfOk, IsTrue}
use Rattle.std.proofs.lemmas.List.{take_at, drop_at, length-append}
use Rattle.doc_op.specs.declared.component.Component.{Component}
use Rattle.doc_op.specs.Actions.{actions}
use Rattle.doc_op.specs.Normal.{normal_form}
use Rattle.doc_op.specs.Refusals.{IsBuilt}
use Rattle.op_codec.specs.Spelling.{spelling, limit, IsSpelled}
use Rattle.op_codec.specs.Canonical.{IsSpelling, IsRead}
use Rattle.op_codec.specs.Reading.{Fails, operation_at}
use Rattle.op_codec.specs.declared.fault.CodecFault.{CodecFault}
use Rattle.op_codec.specs.declared.fault.CodecFault.TheVariants.{BadBytes, Memory}
use Rattle.op_codec.proofs.Fields.{IsBytes}
use Rattle.op_codec.proofs.Whole.{operation_takes, operation_again, read_once}

pub is_same : (cs ns : List Component) (bytes : List ℕ) (b : Bool) → bytes ≡ spelling cs → IsSpelled cs → IsBuilt cs → IsBuilt ns → ns ≡ normal_form (actions cs)
    → (IsTrue b ↔ ((spelling ns ≡ bytes) × (length bytes < limit))) → (IsTrue b → IsSpelled ns) → IsTrue b ↔ ((normal_form (actions cs) ≡ cs) × (length bytes < limit))
is_same cs ns bytes b is spelled built built_too normal same short = (
  λ t.
      let s = same.0 t in
      let e : spelling ns ++ [] ≡ spelling cs ++ [] = ap (λ (l : List ℕ). l ++ []) (s.0 ∙ is) in
      (sym normal ∙ (read_once ns cs [] [] built_too (short t) built spelled e).0, s.1),
  λ h. same.1 (ap spelling (normal ∙ h.0) ∙ sym is, h.1),
)

used_is : (bytes front rest : List ℕ) (used : ℕ) → bytes ≡ front ++ rest → used ≡ length bytes - length rest → used ≡ length front
used_is bytes front rest used e u = let both = ap length e ∙ length-append front rest in omega (arith, both, u)

pub front_is : (bytes : List ℕ) (cs : List Component) (rest : List ℕ) (used : ℕ) → IsBytes bytes → operation_at bytes ≡ Some (cs, rest) → used ≡ length bytes - length rest → take used bytes ≡ spelling cs
front_is bytes cs rest used fits e u =
    let t = operation_takes bytes (cs, rest) fits e in
    let len = used_is bytes (spelling cs) rest used t.0.parts u in
    ap (take used) t.0.parts ∙ take_at (spelling cs) rest used (sym len)

pub found : (bytes : List ℕ) (cs : List Component) (rest : List ℕ) (used : ℕ) → IsBytes bytes → operation_at bytes ≡ Some (cs, rest) → used ≡ length bytes - length rest
    → normal_form (actions cs) ≡ cs → used < limit → IsRead bytes cs used
found bytes cs rest used fits e u normal short =
    let t = operation_takes bytes (cs, rest) fits e in
    let len = used_is bytes (spelling cs) rest used t.0.parts u in
    record {
      is = record { built = t.2; short = subst (λ (n : ℕ). n < limit) len short; spelled = t.1; normal = normal };
      front = t.0.parts ∙ ap (λ (l : List ℕ). spelling cs ++ l) (sym (ap (drop used) t.0.parts ∙ drop_at (spelling cs) rest used (sym len)));
      len = len;
    }

-- bytes that begin with a spelling are read as that
pub read_as : (bytes : List ℕ) (cs : List Component) (rest : List ℕ) → IsSpelling cs → bytes ≡ spelling cs ++ rest → operation_at bytes ≡ Some (cs, rest)
read_as bytes cs rest h e = ap operation_at e ∙ operation_again cs rest h.built h.spelled

same_some : {A : Type 0} (x y : A) → Some x ≡ Some y → x ≡ y
same_some x y e = cc

some_or_none : {A : Type 0} (x : A) → Some x ≡ None → ⊥
some_or_none x e = cc

pub read_alike : (bytes : List ℕ) (cs : List Component) (rest : List ℕ) (ds : List Component) (others : List ℕ) → operation_at bytes ≡ Some (ds, others) → IsSpelling cs → bytes ≡ spelling cs ++ rest → (ds ≡ cs) × (others ≡ rest)
read_alike bytes cs rest ds others e h is =
    let same : (ds, others) ≡ (cs, rest) = same_some (ds, others) (cs, rest) (sym e ∙ read_as bytes cs rest h is) in
    (ap (λ (p : List Component × List ℕ). p.0) same, ap (λ (p : List Component × List ℕ). p.1) same)

-- a fact of an answer that follows from two others
pub each_ok : {E : Type 0} (r : Result Bool E) (P Q R : Bool → Type 0) → ((b : Bool) → P b → Q b → R b) → IfOk r P → IfOk r Q → IfOk r R
each_ok (Ok b) P Q R f p q = f b p q
each_ok (Err e) P Q R f p q = tt

-- bytes that begin with a spelling aren't bad
pub not_bad : (bytes : List ℕ) (cs : List Component) (rest : List ℕ) (e : CodecFault) → Fails e (operation_at bytes) → IsSpelling cs → bytes ≡ spelling cs ++ rest → e ≡ Memory
not_bad bytes cs rest Memory f h is = refl
not_bad bytes cs rest BadBytes f h is = absurd (some_or_none (cs, rest) (sym (read_as bytes cs rest h is) ∙ f))

pub shorter : (bytes : List ℕ) (cs : List Component) (rest : List ℕ) → IsBytes bytes → operation_at bytes ≡ Some (cs, rest) → length rest ≤ length bytes
shorter bytes cs rest fits e =
    let t = operation_takes bytes (cs, rest) fits e in
    let both = ap length t.0.parts ∙ length-append (spelling cs) rest in
    omega (arith, both)

pub used_as : (bytes : List ℕ) (cs : List Component) (rest others : List ℕ) (used : ℕ) → bytes ≡ spelling cs ++ rest → others ≡ rest → used ≡ length bytes - length others → used ≡ length (spelling cs)
used_as bytes cs rest others used e same u = used_is bytes (spelling cs) rest used e (u ∙ ap (λ (l : List ℕ). length bytes - length l) same)
