-- An operation on a document is read exactly where it is spelled.
--     normals        the reading undoes the spelling
--     found          what op_codec found is what is read
--     refused        where it found nothing, nothing is read
use Rattle.std.proofs.Common.{◌≡◌, ℕ, true, List, ◌++◌, length, drop, Some, None, refl, sym, ap, ◌∙◌}
use Rattle.std.specs.Prelude.{nat_lt}
use Rattle.std.proofs.lemmas.Bool.{ltb-true, lt-ltb}
use Rattle.doc_op.specs.declared.component.Component.{Component}
use Rattle.doc_op.specs.Actions.{actions}
use Rattle.doc_op.specs.Normal.{normal_form}
use Rattle.doc_op.specs.Refusals.{IsBuilt}
use Rattle.op_codec.specs.Spelling.{spelling, limit, IsSpelled}
use Rattle.op_codec.specs.Canonical.{canonical, IsSpelling, IsRead}
use Rattle.op_codec.specs.Reading.{Read, Fails, operation_at}
use Rattle.op_codec.specs.declared.fault.CodecFault.{CodecFault}
use Rattle.op_codec.specs.declared.fault.CodecFault.TheVariants.{BadBytes, Memory}
use Rattle.op_codec.proofs.Fields.{IsBytes, IsCodec}
use Rattle.op_codec.proofs.Whole.{operation_takes, operation_again}
use Rattle.wavelet_codec.specs.Same.{same_components}
use Rattle.wavelet_codec.specs.Reading.{is_spelling, normal_at}
use Rattle.wavelet_codec.proofs.Alike.{both, same_equal, same_itself}
use Rattle.wavelet_codec.proofs.Names.{recast, passings}

operations : IsCodec operation_at spelling (λ cs. IsSpelled cs × IsBuilt cs)
operations = record {
  takes = λ bytes r fits e.
      let t = operation_takes bytes r fits e in
      (t.0, (t.1, t.2));
  again = λ cs rest h. operation_again cs rest h.1 h.0;
}

spelled : (cs : List Component) → (IsSpelled cs × IsBuilt cs) × (is_spelling cs ≡ true) → IsSpelling cs
unfolding is_spelling
spelled cs h =
    let t = both (same_components (normal_form (actions cs)) cs) (nat_lt (length (spelling cs)) limit) h.1 in
    record { built = h.0.1; short = ltb-true (length (spelling cs)) limit t.1; spelled = h.0.0; normal = same_equal (normal_form (actions cs)) cs t.0 }

passes : (cs : List Component) → IsSpelling cs → (IsSpelled cs × IsBuilt cs) × (is_spelling cs ≡ true)
unfolding is_spelling
passes cs h = ((h.spelled, h.built), rw (h.normal, same_itself cs, lt-ltb (length (spelling cs)) limit h.short) refl)

pub normals : IsCodec normal_at canonical IsSpelling
unfolding normal_at
normals = recast (passings operations is_spelling) (λ cs h. ap spelling (sym (spelled cs h).normal)) spelled passes

-- with the bytes as they stand
plain : IsCodec normal_at spelling IsSpelling
unfolding normal_at
plain = recast (passings operations is_spelling) (λ cs h. refl) spelled passes

pub found : (bytes : List ℕ) (cs : List Component) (used : ℕ) → IsRead bytes cs used → normal_at bytes ≡ Some (cs, drop used bytes)
found bytes cs used h = ap normal_at h.front ∙ plain.again cs (drop used bytes) h.is

bad_is_not_memory : BadBytes ≡ Memory → ⊥
bad_is_not_memory e = cc

nothing : (bytes : List ℕ) (r : Read (List Component)) → ((x : List Component × List ℕ) → r ≡ Some x → ⊥) → r ≡ None
nothing bytes None f = refl
nothing bytes (Some x) f = absurd (f x refl)

pub refused : (bytes : List ℕ) (e : CodecFault) → IsBytes bytes → ((cs : List Component) (rest : List ℕ) → IsSpelling cs → bytes ≡ spelling cs ++ rest → e ≡ Memory) → Fails e (normal_at bytes)
refused bytes Memory fits f = tt
refused bytes BadBytes fits f = nothing bytes (normal_at bytes) (λ x is.
    let t = plain.takes bytes x fits is in
    bad_is_not_memory (f x.0 x.1 t.1 t.0.parts))
