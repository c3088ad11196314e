-- A block is put after a closed gate, and then the gate is opened.
use Rattle.std.proofs.Common.{◌≡◌, inl, ℕ, ◌+◌, List, [], ◌∷◌, ◌++◌, length, refl, ap, subst, ◌∙◌}
use Rattle.disk_model.specs.Disk.{DiskView, Kept, LeavesOnly, overwritten}
use Rattle.disk_model.proofs.Moments.{joined, weaker, kept_weaker}
use Rattle.delta_journal.specs.File.{Closed}
use Rattle.delta_journal.specs.Shape.{Shape, shut_gate, any_gate, HasShape, Spares, Stays, Staged}
use Rattle.delta_journal.proofs.Files.{closed_overwritten, staged_meaning, staged_opened}
use Rattle.delta_journal.proofs.Stages.{IsOpenOrClosed}

-- what a write of n bytes at a place keeps
abbrev pub Keeps : ℕ → ℕ → DiskView → DiskView → Type 0
Keeps at n old new = (shape : Shape) → Spares shape at n → Kept old (HasShape shape) → Stays old new (HasShape shape)

-- what a read and each image are after a write
abbrev pub IsNow : List ℕ → DiskView → Type 0
IsNow file disk = Kept disk (λ c. c ≡ file)

module _ (old mid new : DiskView) (place : ℕ) (front body block : List ℕ) (file : Kept old (Closed front)) (at : place ≡ length front) (is : block ≡ body ++ 0 ∷ [])
    (first : Keeps (place + 1) (length block) old mid) (put : IsNow (overwritten old.seen (place + 1) block) mid) (second : Keeps place 1 mid new) where
  pub put_staged : Kept mid (Staged front block)
  put_staged = kept_weaker mid (λ c. c ≡ overwritten old.seen (place + 1) block) (Staged front block)
      (λ c so. closed_overwritten front block old.seen c file.now (so ∙ ap (λ (p : ℕ). overwritten old.seen (p + 1) block) at)) put

  pub put_stays : Stays mid new (Staged front block)
  put_stays = second (any_gate front block) (at, refl) put_staged

  pub put_moments : LeavesOnly old new (IsOpenOrClosed front body)
  put_moments =
      let whole = subst (λ (l : List ℕ). LeavesOnly mid new (Staged front l)) is put_stays.moments in
      joined old mid new (IsOpenOrClosed front body)
      (weaker old mid (Closed front) (IsOpenOrClosed front body) (λ c closed. inl closed) (first (shut_gate front) (ap (λ (p : ℕ). p + 1) at) file).moments)
      (weaker mid new (Staged front (body ++ 0 ∷ [])) (IsOpenOrClosed front body) (λ c so. staged_meaning front body c so) whole)

  pub put_opened : IsNow (overwritten mid.seen place (1 ∷ [])) new → Kept new (Closed (front ++ 1 ∷ body))
  put_opened gate =
      let whole = subst (λ (l : List ℕ). Staged front l mid.seen) is put_staged.now in
      kept_weaker new (λ c. c ≡ overwritten mid.seen place (1 ∷ [])) (Closed (front ++ 1 ∷ body))
      (λ c so. staged_opened front body mid.seen c whole (so ∙ ap (λ (p : ℕ). overwritten mid.seen p (1 ∷ [])) at)) gate
