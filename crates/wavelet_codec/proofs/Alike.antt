-- The test of ≡ on components holds exactly where they are equal.
use Rattle.std.proofs.Common.{◌≡◌, Bool, true, false, ◌&&◌, List, refl, ap}
use base.Stored.{Gv, gnil, gnum, gcons}
use Rattle.std.proofs.lemmas.Bool.{eqb-true, eq-eqb}
use Rattle.doc_op.specs.declared.component.Component.{Component}
use Rattle.wavelet_codec.specs.Same.{same_code, components_code, same_components}

pub both : (a b : Bool) → (a && b) ≡ true → (a ≡ true) × (b ≡ true)
both true true e = (refl, refl)
both true false e = absurd cc
both false b e = absurd cc

equal : (a b : Gv) → same_code a b ≡ true → a ≡ b
equal gnil gnil e = refl
equal gnil (gnum n) e = absurd cc
equal gnil (gcons c d) e = absurd cc
equal (gnum m) gnil e = absurd cc
equal (gnum m) (gnum n) e = ap gnum (eqb-true m n e)
equal (gnum m) (gcons c d) e = absurd cc
equal (gcons a b) gnil e = absurd cc
equal (gcons a b) (gnum n) e = absurd cc
equal (gcons a b) (gcons c d) e =
    let t = both (same_code a c) (same_code b d) e in
    λ i. gcons (equal a c t.0 i) (equal b d t.1 i)

itself : (a : Gv) → same_code a a ≡ true
itself gnil = refl
itself (gnum n) = eq-eqb n n refl
itself (gcons a b) = rw (itself a, itself b) refl

pub same_equal : (cs ds : List Component) → same_components cs ds ≡ true → cs ≡ ds
unfolding same_components
same_equal cs ds e = components_code.inj cs ds (equal (components_code.code cs) (components_code.code ds) e)

pub same_itself : (cs : List Component) → same_components cs cs ≡ true
unfolding same_components
same_itself cs = itself (components_code.code cs)
