-- A history has an id exactly where it keeps its delta.
use Rattle.std.proofs.Common.{◌≡◌, Bool, true, false, ◌||◌, is_some, List, [], ◌∷◌, ◌++◌, Option, Some, None, refl, sym, ap, subst}
use Rattle.doc_items.specs.Maps.{Key}
use Rattle.wave_base.specs.Versions.{IdOf, same_id}
use Rattle.wave_base.proofs.Same.{same_id-refl}
use Rattle.wavelet_op.specs.Deltas.{DeltaOf}
use Rattle.delta_history.specs.declared.kept.Kept.{Kept}
use Rattle.delta_history.specs.Legal.{has_id, IsLegal}
use Rattle.delta_history.specs.Points.{start}
use Rattle.delta_history.specs.Verdicts.{kept}
use Rattle.delta_history.proofs.Keeping.{kept_is, kept_there}

has_own : (i : IdOf) (before behind : List DeltaOf) (d : DeltaOf) → d.id ≡ i → has_id i (before ++ d ∷ behind) ≡ true
has_own i [] behind d e = ap (λ b. b || has_id i behind) (subst (λ j. same_id i j ≡ true) (sym e) (same_id-refl i))
has_own i (x ∷ before) behind d e = go (same_id i x.id) (has_own i before behind d e)
  where
    go : (b : Bool) → has_id i (before ++ d ∷ behind) ≡ true → (b || has_id i (before ++ d ∷ behind)) ≡ true
    go true h = refl
    go false h = h

pub has_kept : (name : Key) (ds : List DeltaOf) (i : IdOf) → IsLegal name ds → has_id i ds ≡ is_some (kept i (start name) ds)
has_kept name ds i l = go (kept i (start name) ds) refl
  where
    go : (o : Option Kept) → kept i (start name) ds ≡ o → has_id i ds ≡ is_some o
    go None e = kept_there name ds i l e
    go (Some k) e = let x = kept_is name ds i k l e in subst (λ z. has_id i z ≡ true) x.whole (has_own i x.before x.behind x.delta x.is_id)
