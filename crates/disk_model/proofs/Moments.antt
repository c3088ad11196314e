-- How a run of disk calls goes on.
use Rattle.std.proofs.Common.{◌≡◌, inl, inr, ⊎_elim, ℕ, List, sym, subst, arith}
use Rattle.disk_model.specs.Disk.{DiskView, Elapses, IsUntouched, IsClocked, LeavesOnly, LeavesJust, Kept, Torn, IsWritten}

-- before the first call
pub started : (old : DiskView) (P : List ℕ → Type 0) → IsClocked old → ((c : List ℕ) → old.may_leave c → P c) → LeavesOnly old old P
started old P clocked here = record { later = omega arith; each = λ c left. here c (clocked.only_now c left); before = λ t c le left. inl left }

-- one call more, after which a crash leaves what has P
pub goes_on : (old mid new : DiskView) (P : List ℕ → Type 0) → LeavesOnly old mid P → Elapses mid new → ((c : List ℕ) → new.may_leave c → P c) → LeavesOnly old new P
goes_on old mid new P so_far time here = record {
  later = omega (arith, so_far.later, time.later);
  each = λ c left. ⊎_elim (so_far.each c) (here c) (time.nothing_else old.moment c so_far.later left);
  before = λ t c le left. ⊎_elim (so_far.before t c le) (λ now. inr (here c now)) (time.nothing_else t c (omega (arith, le, so_far.later)) left);
}

-- one run after another
pub joined : (old mid new : DiskView) (P : List ℕ → Type 0) → LeavesOnly old mid P → LeavesOnly mid new P → LeavesOnly old new P
joined old mid new P first second = record {
  later = omega (arith, first.later, second.later);
  each = λ c left. ⊎_elim (first.each c) (λ now. now) (second.before old.moment c first.later left);
  before = λ t c le left. ⊎_elim (first.before t c le) (λ now. inr now) (second.before t c (omega (arith, le, first.later)) left);
}

pub weaker : (old new : DiskView) (P Q : List ℕ → Type 0) → ((c : List ℕ) → P c → Q c) → LeavesOnly old new P → LeavesOnly old new Q
weaker old new P Q so run = record {
  later = run.later;
  each = λ c left. so c (run.each c left);
  before = λ t c le left. ⊎_elim (λ was. inl was) (λ now. inr (so c now)) (run.before t c le left);
}

-- a write under which P stays
pub kept_write : (at n : ℕ) (old new : DiskView) (P : List ℕ → Type 0) → ((d c : List ℕ) → P d → Torn at n d c → P c) → Kept old P → Torn at n old.seen new.seen → IsWritten at n old new → Kept new P
kept_write at n old new P stays kept torn crash = record {
  now = stays old.seen new.seen kept.now torn;
  left = λ c left. let from = crash c left in stays from.0 c (kept.left from.0 from.1) from.2;
}

-- a call that writes nothing
pub kept_same : (old new : DiskView) (P : List ℕ → Type 0) → Kept old P → IsUntouched old new → Kept new P
kept_same old new P kept same = record { now = subst P (sym same.seen) kept.now; left = λ c left. kept.left c (same.crash c left) }

-- a sync that succeeded
pub kept_synced : (old new : DiskView) (P : List ℕ → Type 0) → P old.seen → new.seen ≡ old.seen → LeavesJust old.seen new → Kept new P
kept_synced old new P here same only = record { now = subst P (sym same) here; left = λ c left. subst P (sym (only c left)) here }

pub kept_weaker : (disk : DiskView) (P Q : List ℕ → Type 0) → ((c : List ℕ) → P c → Q c) → Kept disk P → Kept disk Q
kept_weaker disk P Q so kept = record { now = so _ kept.now; left = λ c left. so c (kept.left c left) }
