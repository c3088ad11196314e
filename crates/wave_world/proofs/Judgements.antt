-- What the host answers in a world.
--     kept_found            a kept id is found
--     kept_is_answered, refused_is_caused, follower_is_heard
use Rattle.std.proofs.Common.{◌≡◌, inl, inr, ℕ, Bool, true, false, cond, List, [], ◌∷◌, ◌++◌, Option, Some, None, refl, sym, ap, subst, ◌∙◌}
use Rattle.std.specs.Cmp.Lexicographic.{bytes_decides}
use Rattle.doc_items.specs.Maps.{Key}
use Rattle.wave_base.specs.Versions.{IdOf, VersionAt, same_id}
use Rattle.wave_base.proofs.Same.{same_id-refl}
use Rattle.wavelet_op.specs.Acts.{Act, meanings}
use Rattle.wavelet_op.specs.Deltas.{DeltaOf}
use Rattle.wavelet_op.specs.Grids.{pass}
use Rattle.wavelet_op.specs.declared.delta.Submission.{Submission}
use Rattle.wavelet_op.specs.declared.role.Role.{Role}
use Rattle.wavelet_op.specs.declared.verdict.Verdict.TheVariants.{Ack}
use Rattle.wavelet_op.specs.declared.role.Role.TheVariants as role
use Rattle.wavelet_op.proofs.Partial.{both}
use Rattle.delta_history.specs.declared.kept.Kept.{Kept}
use Rattle.delta_history.specs.Legal.{IsLegalFrom, IsLegal, standing}
use Rattle.delta_history.specs.Passing.{all_acts}
use Rattle.delta_history.specs.Points.{Point, start, next_point, replay, cut}
use Rattle.delta_history.specs.Verdicts.{kept, accepted, is_within, judge_next, judge_bounds, judge_pass, judge_ops, judge_hash, judge_base, judge_author, judge_head, judge_kept, judge, same_hash}
use Rattle.delta_history.proofs.Chains.{goes_from}
use Rattle.delta_history.proofs.Points.{and_then_is, replay_more}
use Rattle.delta_history.proofs.Versions.{cut_whole}
use Rattle.wave_world.specs.Worlds.{Mem, world_of}
use Rattle.wave_world.specs.Converged.{IsFair, KeptIsAnswered, RefusedIsCaused, FollowerIsHeard}
use Rattle.wave_world.proofs.Places.{IsBased}
use Rattle.wave_world.proofs.Events.{good, caused_in}

abbrev stands : Point → Point → Kept
stands p q = record { at = p.at.version; to = q.at }

pub kept_found : (name : Key) (b xs : List DeltaOf) (p : Point) (i : IdOf) (d : DeltaOf) → IsLegalFrom name b xs → replay (start name) b ≡ Some p → Mem d xs → i ≡ d.id → (k : Kept) × (kept i p xs ≡ Some k)
kept_found name b [] p i d l r m e = absurd m
kept_found name b (x ∷ xs) p i d l r m e =
    let n = l.0 in
    let z = goes_from name b x p r n in
    go n.after z (same_id i x.id) refl m (λ m'. kept_found name (b ++ x ∷ []) xs n.after i d l.1 (replay_more (start name) p n.after b x r z) m' e)
  where
    go : (q : Point) → next_point p x ≡ Some q → (t : Bool) → same_id i x.id ≡ t → Mem d (x ∷ xs) → (Mem d xs → (k : Kept) × (kept i q xs ≡ Some k)) → (k : Kept) × (kept i p (x ∷ xs) ≡ Some k)
    go q z true t m' again = (stands p q, and_then_is (next_point p x) (λ y. cond (same_id i x.id) (Some (stands p y)) (kept i y xs)) q z ∙ ap (λ c. cond c (Some (stands p q)) (kept i q xs)) t)
    go q z false t (inl s) again = absurd (both (subst (λ y. same_id i y ≡ true) (e ∙ ap (λ (y : DeltaOf). y.id) s) (same_id-refl i)) t)
    go q z false t (inr m') again =
        let y = again m' in
        (y.0, and_then_is (next_point p x) (λ v. cond (same_id i x.id) (Some (stands p v)) (kept i v xs)) q z ∙ (ap (λ c. cond c (Some (stands p q)) (kept i q xs)) t ∙ y.1))

pub answered : (name : Key) (h : List DeltaOf) (d : DeltaOf) (s : Submission) (reading : ℕ) → IsLegal name h → Mem d h → s.id ≡ d.id → (at : ℕ) × (to : VersionAt) × (judge name h s reading ≡ (Ack at to, None))
answered name h d s reading l m e =
    let k = kept_found name [] h (start name) s.id d l refl m e in
    ((k.0).at, (k.0).to, ap (judge_kept name h s reading) k.1)

pub kept_is_answered : KeptIsAnswered
kept_is_answered name events d s reading m e = answered name (world_of name events).host d s reading (good name events).legal m e

pub refused_is_caused : RefusedIsCaused
refused_is_caused name events s reading v m e = caused_in name (world_of name events) s reading v (good name events) m e

-- ---- a follower's submission

next_fair : (p : Point) (d : DeltaOf) (q : Option Point) → IsFair (judge_next p d q).0
next_fair p d None = tt
next_fair p d (Some q) = tt

bounds_fair : (p : Point) (d : DeltaOf) (b : Bool) → IsFair (judge_bounds p d b).0
bounds_fair p d false = tt
bounds_fair p d true = next_fair p d (next_point p d)

pass_fair : (s : Submission) (t : ℕ) (p : Point) (m : Option (List Act)) → IsFair (judge_pass s t p m).0
pass_fair s t p None = tt
pass_fair s t p (Some acts) = bounds_fair p (accepted p s t acts) (is_within p (meanings s.ops) (accepted p s t acts))

base_fair : (name : Key) (h : List DeltaOf) (s : Submission) (t : ℕ) (p : Point) → IsLegal name h → IsBased name h s → IsFair (judge_base s t p (cut (start name) s.at.version h)).0
base_fair name h s t p l x =
    let since = x.is_base.behind in
    let c : cut (start name) x.base.at.version h ≡ Some (x.base, since) = cut_whole name h x.is_base.before since x.base l x.is_base.whole x.is_base.leads in
    let c' : cut (start name) s.at.version h ≡ Some (x.base, since) = subst (λ (z : VersionAt). cut (start name) z.version h ≡ Some (x.base, since)) x.at_base c in
    let hash : same_hash s.at.hash x.base.at.hash ≡ true = (bytes_decides s.at.hash x.base.at.hash).1 (ap (λ (z : VersionAt). z.hash) (sym x.at_base)) in
    let is : judge_base s t p (cut (start name) s.at.version h) ≡ judge_pass s t p (pass (meanings s.ops) (all_acts since)) = ap (judge_base s t p) c' ∙ (ap (judge_hash s t p x.base since) hash ∙ ap (judge_ops s t p x.base since) x.valid) in
    subst (λ z. IsFair z.0) (sym is) (pass_fair s t p (pass (meanings s.ops) (all_acts since)))

author_fair : (name : Key) (h : List DeltaOf) (s : Submission) (t : ℕ) (p : Point) (r : Option Role) → IsLegal name h → IsBased name h s → IsFair (judge_author name h s t p r).0
author_fair name h s t p None l x = tt
author_fair name h s t p (Some role.ReadOnly) l x = tt
author_fair name h s t p (Some role.Full) l x = base_fair name h s t p l x

head_fair : (name : Key) (h : List DeltaOf) (s : Submission) (t : ℕ) (m : Option Point) → IsLegal name h → IsBased name h s → IsFair (judge_head name h s t m).0
head_fair name h s t None l x = tt
head_fair name h s t (Some p) l x = author_fair name h s t p (standing h p s.id.author (meanings s.ops)) l x

kept_fair : (name : Key) (h : List DeltaOf) (s : Submission) (t : ℕ) (m : Option Kept) → IsLegal name h → IsBased name h s → IsFair (judge_kept name h s t m).0
kept_fair name h s t (Some k) l x = tt
kept_fair name h s t None l x = head_fair name h s t (replay (start name) h) l x

pub follower_is_heard : FollowerIsHeard
follower_is_heard name events k f s reading e m o =
    let c = good name events in
    let h : List DeltaOf = (world_of name events).host in
    kept_fair name h s reading (kept s.id (start name) h) c.legal ((c.followers k f e).based s m o)
