-- What a history keeps for an id.
--     kept_is        where the delta of the id stands
--     kept_none      an id for which nothing is kept is new
use Rattle.std.proofs.Common.{◌≡◌, ℕ, Bool, true, false, cond, ◌||◌, List, [], ◌∷◌, ◌++◌, Some, None, refl, sym, ap, subst, ◌∙◌, append_assoc}
use Rattle.doc_op.proofs.Applying.{no_value, same_Some}
use Rattle.wave_base.specs.Versions.{IdOf, VersionAt, same_id}
use Rattle.wave_base.proofs.Same.{same_id-is}
use Rattle.wavelet_op.specs.Deltas.{DeltaOf}
use Rattle.wavelet_op.proofs.Partial.{and_then_some}
use Rattle.delta_history.specs.declared.kept.Kept.{Kept}
use Rattle.delta_history.specs.Points.{Point, start, next_point, replay}
use Rattle.delta_history.specs.Legal.{has_id, IsLegalFrom}
use Rattle.delta_history.specs.Verdicts.{kept}
use Rattle.delta_history.specs.Laws.{IsKept, KeptIs, KeptThere}
use Rattle.delta_history.proofs.Points.{and_then_is, replay_more}
use Rattle.delta_history.proofs.Chains.{starts_at, goes_from}

abbrev stands : Point → Point → Kept
stands p q = record { at = p.at.version; to = q.at }

kept_from : (name : List ℕ) (b xs : List DeltaOf) (p : Point) (i : IdOf) (k : Kept) → IsLegalFrom name b xs → replay (start name) b ≡ Some p → kept i p xs ≡ Some k → IsKept name (b ++ xs) i k
kept_from name b [] p i k l e f = no_value f
kept_from name b (d ∷ ds) p i k l e f =
    let m = and_then_some (next_point p d) (λ q. cond (same_id i d.id) (Some (stands p q)) (kept i q ds)) k f in
    let led = replay_more (start name) p m.0 b d e m.1 in
    go m.0 led (same_id i d.id) refl m.2 (λ g. subst (λ z. IsKept name z i k) (append_assoc b (d ∷ []) ds) (kept_from name (b ++ d ∷ []) ds m.0 i k l.1 led g))
  where
    go : (q : Point) → replay (start name) (b ++ d ∷ []) ≡ Some q → (t : Bool) → same_id i d.id ≡ t → cond t (Some (stands p q)) (kept i q ds) ≡ Some k → (kept i q ds ≡ Some k → IsKept name (b ++ d ∷ ds) i k) → IsKept name (b ++ d ∷ ds) i k
    go q led true t g again =
        let s : stands p q ≡ k = same_Some g in
        record {
          before = b;
          delta = d;
          behind = ds;
          after = q;
          whole = refl;
          is_id = sym (same_id-is i d.id t);
          is_at = ap (λ (y : VersionAt). y.version) (starts_at name b d p e l.0) ∙ ap (λ (z : Kept). z.at) s;
          leads = led;
          is_to = ap (λ (z : Kept). z.to) s;
        }
    go q led false t g again = again g

pub kept_is : KeptIs
kept_is name ds i k l e = kept_from name [] ds (start name) i k l refl e

kept_none : (name : List ℕ) (b xs : List DeltaOf) (p : Point) (i : IdOf) → IsLegalFrom name b xs → replay (start name) b ≡ Some p → kept i p xs ≡ None → has_id i xs ≡ false
kept_none name b [] p i l e f = refl
kept_none name b (d ∷ ds) p i l e f =
    let z = goes_from name b d p e l.0 in
    let q = l.0.after in
    go q (same_id i d.id) refl (sym (and_then_is (next_point p d) (λ q. cond (same_id i d.id) (Some (stands p q)) (kept i q ds)) q z) ∙ f) (λ g. kept_none name (b ++ d ∷ []) ds q i l.1 (replay_more (start name) p q b d e z) g)
  where
    go : (q : Point) (t : Bool) → same_id i d.id ≡ t → cond t (Some (stands p q)) (kept i q ds) ≡ None → (kept i q ds ≡ None → has_id i ds ≡ false) → (same_id i d.id || has_id i ds) ≡ false
    go q true t g again = no_value (sym g)
    go q false t g again = ap (λ b. b || has_id i ds) t ∙ again g

pub kept_there : KeptThere
kept_there name ds i l e = kept_none name [] ds (start name) i l refl e
