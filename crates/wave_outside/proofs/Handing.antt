-- What a crash leaves while a disk is handed out and put back.
--     untouched_file          a call that changes nothing
--     same_file_twice         one such step after another; handed_on, a disk that is handed out likewise
--     adds_nothing            no time went by; adds_run, a run of disk calls
--     adds_more, adds_both    what has Q where P has; one after the other
--     adds_handed, adds_back  from the file in the folder on, and not from the handing out; up to it, and not to the putting back
use Rattle.std.proofs.Common.{inl, inr, ⊎_elim, ◌∙◌, ℕ, List, Option, Some, None, arith}
use Rattle.disk_model.specs.Disk.{DiskView, Elapses, IsUntouched, IsClocked, LeavesOnly}
use Rattle.wave_outside.specs.Folders.{AddsOnly, IsSameFile, IsHanded}

pub untouched_file : (x d : DiskView) → IsClocked x → IsUntouched x d → Elapses x d → IsSameFile x d
untouched_file x d clocked same time = record {
  seen = same.seen;
  crash = same.crash;
  later = time.later;
  since = λ t c le left. ⊎_elim (λ was. was) (λ now. clocked.counts_now t c le (same.crash c now)) (time.nothing_else t c le left);
  keeps = time.keeps;
}

pub same_file_twice : (x d e : DiskView) → IsSameFile x d → IsSameFile d e → IsSameFile x e
same_file_twice x d e first second = record {
  seen = second.seen ∙ first.seen;
  crash = λ c left. first.crash c (second.crash c left);
  later = omega (arith, first.later, second.later);
  since = λ t c le left. first.since t c le (second.since t c (omega (arith, le, first.later)) left);
  keeps = λ t c le left. second.keeps t c (omega (arith, le, first.later)) (first.keeps t c le left);
}

pub handed_on : {D : Type 0} (view : D → DiskView) (o : Option D) (d e : DiskView) → IsHanded view o d → IsSameFile d e → IsHanded view o e
handed_on view None d e empty same = record { seen = same.seen ∙ empty.seen; crash = λ c left. empty.crash c (same.crash c left) }
handed_on view (Some x) d e first same = same_file_twice (view x) d e first same

-- ---- what a crash leaves from one moment to another

pub adds_nothing : (x : DiskView) (P : List ℕ → Type 0) → AddsOnly x x P
adds_nothing x P = record { later = omega arith; since = λ t c le left. inl left }

pub adds_run : (x d : DiskView) (P : List ℕ → Type 0) → LeavesOnly x d P → AddsOnly x d P
adds_run x d P run = record { later = run.later; since = run.before }

pub adds_more : (x d : DiskView) (P Q : List ℕ → Type 0) → ((c : List ℕ) → P c → Q c) → AddsOnly x d P → AddsOnly x d Q
adds_more x d P Q so run = record { later = run.later; since = λ t c le left. ⊎_elim (λ was. inl was) (λ now. inr (so c now)) (run.since t c le left) }

module _ (x d e : DiskView) (P : List ℕ → Type 0) where
  pub adds_both : AddsOnly x d P → AddsOnly d e P → AddsOnly x e P
  adds_both first second = record {
    later = omega (arith, first.later, second.later);
    since = λ t c le left. ⊎_elim (first.since t c le) (λ now. inr now) (second.since t c (omega (arith, le, first.later)) left);
  }

  pub adds_handed : IsSameFile x d → AddsOnly d e P → AddsOnly x e P
  adds_handed same run = record {
    later = omega (arith, same.later, run.later);
    since = λ t c le left. ⊎_elim (λ was. inl (same.since t c le was)) (λ now. inr now) (run.since t c (omega (arith, le, same.later)) left);
  }

  pub adds_back : AddsOnly x d P → IsSameFile d e → AddsOnly x e P
  adds_back run same = record {
    later = omega (arith, run.later, same.later);
    since = λ t c le left. run.since t c le (same.since t c (omega (arith, le, run.later)) left);
  }
