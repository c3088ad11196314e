-- What each write leaves of a file, whole or torn.
use Rattle.std.proofs.Common.{◌≡◌, ◌⊎◌, inl, inr, ℕ, ◌+◌, ◌<◌, ◌≤◌, List, [], ◌∷◌, ◌++◌, length, get_or, take, drop, refl, sym, ◌∙◌, ap, subst, arith, append_assoc, length-append}
use Rattle.std.proofs.lemmas.List.{take_at, drop_at, drop_more, length-take-le}
use Rattle.std.proofs.lemmas.Bool.{cases_eq}
use Rattle.disk_model.specs.Disk.{DiskView, IsClocked, Elapses, IsUntouched, IsWritten, LeavesJust, Kept, Torn, overwritten}
use Rattle.disk_model.proofs.Moments.{started, goes_on, kept_write, kept_same, kept_synced}
use Rattle.delta_journal.specs.File.{Closed}
use Rattle.delta_journal.specs.Shape.{Shape, no_gate, shut_gate, any_gate, HasShape, Spares, Stays, Staged}

-- up to a gate and with it
upto : (front : List ℕ) (gate : ℕ) (tail file : List ℕ) → file ≡ front ++ gate ∷ tail → take (length front + 1) file ≡ front ++ gate ∷ []
upto front gate tail file is =
    let e : file ≡ (front ++ gate ∷ []) ++ tail = is ∙ sym (append_assoc front (gate ∷ []) tail) in
    ap (λ (l : List ℕ). take (length front + 1) l) e ∙ take_at (front ++ gate ∷ []) tail (length front + 1) (omega (arith, length-append front (gate ∷ [])))

beyond : (front : List ℕ) (gate : ℕ) (tail file : List ℕ) → file ≡ front ++ gate ∷ tail → drop (length front + 1) file ≡ tail
beyond front gate tail file is =
    let e : file ≡ (front ++ gate ∷ []) ++ tail = is ∙ sym (append_assoc front (gate ∷ []) tail) in
    ap (λ (l : List ℕ). drop (length front + 1) l) e ∙ drop_at (front ++ gate ∷ []) tail (length front + 1) (omega (arith, length-append front (gate ∷ [])))

longer : (front : List ℕ) (gate : ℕ) (tail file : List ℕ) → file ≡ front ++ gate ∷ tail → length front + 1 ≤ length file
longer front gate tail file is = omega (arith, ap length is, length-append front (gate ∷ tail))

closed_torn : (front : List ℕ) (n : ℕ) (d c : List ℕ) → Closed front d → Torn (length front + 1) n d c → Closed front c
closed_torn front n d c closed torn = record {
  gate = closed.gate;
  tail = torn.before.0;
  split = torn.before.1 ∙ ap (λ (l : List ℕ). l ++ torn.before.0) (upto front closed.gate closed.tail d closed.split) ∙ append_assoc front (closed.gate ∷ []) torn.before.0;
  shut = closed.shut;
}

pub closed_overwritten : (front block d c : List ℕ) → Closed front d → c ≡ overwritten d (length front + 1) block → Staged front block c
closed_overwritten front block d c closed is =
    let rest = drop (length front + 1 + length block) d in
    record {
      gate = closed.gate;
      tail = rest;
      split = is ∙ ap (λ (l : List ℕ). l ++ block ++ rest) (upto front closed.gate closed.tail d closed.split)
          ∙ append_assoc (front ++ closed.gate ∷ []) block rest ∙ append_assoc front (closed.gate ∷ []) (block ++ rest);
    }

staged_torn : (front block d c : List ℕ) → Staged front block d → Torn (length front) 1 d c → Staged front block c
staged_torn front block d c staged torn =
    let n = length front in
    let front_d : take n d ≡ front = ap (λ (l : List ℕ). take n l) staged.split ∙ take_at front (staged.gate ∷ (block ++ staged.tail)) n refl in
    let front_c : c ≡ front ++ torn.before.0 = torn.before.1 ∙ ap (λ (l : List ℕ). l ++ torn.before.0) front_d in
    let long : n + 1 ≤ length d = longer front staged.gate (block ++ staged.tail) d staged.split in
    let lt : n < length c = omega (arith, torn.no_shorter) in
    let rest : torn.before.0 ≡ drop n c = sym (ap (λ (l : List ℕ). drop n l) front_c ∙ drop_at front torn.before.0 n refl) in
    let behind : drop (n + 1) c ≡ block ++ staged.tail = torn.after ∙ beyond front staged.gate (block ++ staged.tail) d staged.split in
    record {
      gate = get_or c n 0;
      tail = staged.tail;
      split = front_c ∙ ap (λ (l : List ℕ). front ++ l) (rest ∙ drop_more c n 0 lt ∙ ap (λ (l : List ℕ). get_or c n 0 ∷ l) behind);
    }

-- the gate as it is written
pub staged_overwritten : (front block : List ℕ) (gate : ℕ) (d c : List ℕ) → Staged front block d → c ≡ overwritten d (length front) (gate ∷ []) → (tail : List ℕ) × (c ≡ front ++ gate ∷ (block ++ tail))
staged_overwritten front block gate d c staged is =
    let n = length front in
    let front_d : take n d ≡ front = ap (λ (l : List ℕ). take n l) staged.split ∙ take_at front (staged.gate ∷ (block ++ staged.tail)) n refl in
    let behind : drop (n + 1) d ≡ block ++ staged.tail = beyond front staged.gate (block ++ staged.tail) d staged.split in
    (staged.tail, is ∙ ap (λ (l : List ℕ). l ++ (gate ∷ []) ++ drop (n + 1) d) front_d ∙ ap (λ (l : List ℕ). front ++ (gate ∷ []) ++ l) behind ∙ append_assoc front (gate ∷ []) (block ++ staged.tail))

pub blank_overwritten : (d c : List ℕ) → c ≡ overwritten d 0 (0 ∷ []) → Closed [] c
blank_overwritten d c is = record { gate = 0; tail = drop 1 d; split = is; shut = omega arith }

-- a block that is whole after a gate, with a closed gate at its end
pub staged_meaning : (front body c : List ℕ) → Staged front (body ++ 0 ∷ []) c → Closed front c ⊎ Closed (front ++ 1 ∷ body) c
staged_meaning front body c staged = elim (cases_eq staged.gate 1) [
  | inl is_open ↦ inr (record {
    gate = 0;
    tail = staged.tail;
    split = staged.split ∙ ap (λ (n : ℕ). front ++ n ∷ (body ++ (0 ∷ []) ++ staged.tail)) is_open ∙ ap (λ (l : List ℕ). front ++ 1 ∷ l) (append_assoc body (0 ∷ []) staged.tail) ∙ sym (append_assoc front (1 ∷ body) (0 ∷ staged.tail));
    shut = omega arith;
  })
  | inr shut ↦ inl (record { gate = staged.gate; tail = body ++ (0 ∷ []) ++ staged.tail; split = staged.split; shut = shut })
]

-- its gate is opened
pub staged_opened : (front body d c : List ℕ) → Staged front (body ++ 0 ∷ []) d → c ≡ overwritten d (length front) (1 ∷ []) → Closed (front ++ 1 ∷ body) c
staged_opened front body d c staged is =
    let wrote = staged_overwritten front (body ++ 0 ∷ []) 1 d c staged is in
    record {
      gate = 0;
      tail = wrote.0;
      split = wrote.1 ∙ ap (λ (l : List ℕ). front ++ 1 ∷ l) (append_assoc body (0 ∷ []) wrote.0) ∙ sym (append_assoc front (1 ∷ body) (0 ∷ wrote.0));
      shut = omega arith;
    }

-- its gate is closed
pub staged_shut : (front block d c : List ℕ) → Staged front block d → c ≡ overwritten d (length front) (0 ∷ []) → Closed front c
staged_shut front block d c staged is =
    let wrote = staged_overwritten front block 0 d c staged is in
    record { gate = 0; tail = block ++ wrote.0; split = wrote.1; shut = omega arith }

pub shape_torn : (shape : Shape) (at n : ℕ) (d c : List ℕ) → Spares shape at n → HasShape shape d → Torn at n d c → HasShape shape c
shape_torn no_gate at n d c (here, one) short torn = omega (arith, torn.no_longer, here, one, short)
shape_torn (shut_gate front) at n d c here has torn = closed_torn front n d c has (subst (λ (p : ℕ). Torn p n d c) here torn)
shape_torn (any_gate front block) at n d c (here, one) has torn =
    staged_torn front block d c has (subst (λ (m : ℕ). Torn (length front) m d c) one (subst (λ (p : ℕ). Torn p n d c) here torn))

pub overwritten_reaches : (at : ℕ) (bytes file c : List ℕ) → at ≤ length file → c ≡ overwritten file at bytes → at + length bytes ≤ length c
overwritten_reaches at bytes file c le is =
    omega (arith, ap length is, length-append (take at file ++ bytes) (drop (at + length bytes) file), length-append (take at file) bytes, length-take-le at file le)

-- a write and what a sync that fails, or succeeds, makes of it
module _ (shape : Shape) (at n : ℕ) (old mid : DiskView) (spares : Spares shape at n) (kept : Kept old (HasShape shape)) (clocked : IsClocked old)
    (torn : Torn at n old.seen mid.seen) (crash : IsWritten at n old mid) (time : Elapses old mid) where
  wrote : Kept mid (HasShape shape)
  wrote = kept_write at n old mid (HasShape shape) (λ d c. shape_torn shape at n d c spares) kept torn crash

  pub stays_write : Stays old mid (HasShape shape)
  stays_write = record { now = wrote; moments = goes_on old old mid (HasShape shape) (started old (HasShape shape) clocked kept.left) time wrote.left }

  pub stays_fault : (new : DiskView) → IsUntouched mid new → Elapses mid new → Stays old new (HasShape shape)
  stays_fault new same later =
      let now = kept_same mid new (HasShape shape) wrote same in
      record { now = now; moments = goes_on old mid new (HasShape shape) stays_write.moments later now.left }

  pub stays_sync : (new : DiskView) → new.seen ≡ mid.seen → LeavesJust mid.seen new → Elapses mid new → Stays old new (HasShape shape)
  stays_sync new same just later =
      let now = kept_synced mid new (HasShape shape) wrote.now same just in
      record { now = now; moments = goes_on old mid new (HasShape shape) stays_write.moments later now.left }
