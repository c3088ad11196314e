-- Entries by their ids.
--     filter_is         what waits without an id
--     without_none      an id that doesn't wait
use Rattle.std.proofs.Common.{◌≡◌, Bool, true, false, not, cond, ◌||◌, List, [], ◌∷◌, refl, ap, true≢false}
use Rattle.std.specs.List.{filter}
use Rattle.wave_base.specs.Versions.{IdOf, same_id}
use Rattle.wavelet_op.specs.declared.delta.Submission.{Submission}
use Rattle.follower_rules.specs.Replicas.{is_waiting, without}

pub filter_is : (i : IdOf) (ss : List Submission) → filter (λ (s : Submission). not (same_id i s.id)) ss ≡ without i ss
filter_is i [] = refl
filter_is i (s ∷ ss) = go (same_id i s.id) (filter_is i ss)
  where
    go : (b : Bool) → filter (λ (s : Submission). not (same_id i s.id)) ss ≡ without i ss → cond (not b) (s ∷ filter (λ (s : Submission). not (same_id i s.id)) ss) (filter (λ (s : Submission). not (same_id i s.id)) ss) ≡ cond b (without i ss) (s ∷ without i ss)
    go true h = h
    go false h = ap (λ z. s ∷ z) h

pub without_none : (i : IdOf) (ss : List Submission) → is_waiting i ss ≡ false → without i ss ≡ ss
without_none i [] e = refl
without_none i (s ∷ ss) e = go (same_id i s.id) e (without_none i ss)
  where
    go : (b : Bool) → (b || is_waiting i ss) ≡ false → (is_waiting i ss ≡ false → without i ss ≡ ss) → cond b (without i ss) (s ∷ without i ss) ≡ s ∷ ss
    go true e h = absurd (true≢false e)
    go false e h = ap (λ z. s ∷ z) (h e)
