-- What a write does to a file, whole or torn.
use Rattle.std.proofs.Common.{◌≡◌, ℕ, ◌+◌, ◌≤◌, List, ◌++◌, length, take, drop, refl, sym, ◌∙◌, ap, arith, append_assoc, length-append, length-drop, take-append-drop}
use Rattle.std.proofs.lemmas.List.{drop_at, length-take-le}
use Rattle.disk_model.specs.Disk.{DiskView, IsWritten, Torn, overwritten}

pub torn_same : (at n : ℕ) (f : List ℕ) → Torn at n f f
torn_same at n f = record { before = (drop at f, sym (take-append-drop at f)); after = refl; no_shorter = omega arith; no_longer = omega arith }

pub torn_none : (at n : ℕ) (f g : List ℕ) → g ≡ f → Torn at n f g
torn_none at n f g same = record { before = (drop at f, same ∙ sym (take-append-drop at f)); after = ap (λ (l : List ℕ). drop (at + n) l) same; no_shorter = omega (arith, ap length same); no_longer = omega (arith, ap length same) }

pub written_none : (at n : ℕ) (old new : DiskView) → ((c : List ℕ) → new.may_leave c → old.may_leave c) → IsWritten at n old new
written_none at n old new so c left = (c, so c left, torn_same at n c)

pub torn_overwritten : (at : ℕ) (bytes f : List ℕ) → at ≤ length f → Torn at (length bytes) f (overwritten f at bytes)
torn_overwritten at bytes f le =
    let n = at + length bytes in
    let front : length (take at f) ≡ at = length-take-le at f le in
    let whole : length (take at f ++ bytes) ≡ n = omega (arith, length-append (take at f) bytes, front) in
    let size : length (overwritten f at bytes) ≡ n + length (drop n f) = omega (arith, length-append (take at f ++ bytes) (drop n f), whole) in
    record {
      before = (bytes ++ drop n f, append_assoc (take at f) bytes (drop n f));
      after = drop_at (take at f ++ bytes) (drop n f) n whole;
      no_shorter = omega (arith, size, length-drop n f);
      no_longer = omega (arith, size, length-drop n f);
    }
