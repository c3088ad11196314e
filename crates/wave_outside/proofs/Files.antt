-- Files of a folder in memory.
--     same, other              what the test of names tells
--     last_here, last_else     one more file is found by its name, and no other is
--     made_last                one more file, which is empty
--     named, found             each name has a file, and each file a name
--     same_names               files of the same names
--     alike_at, fork_names     files that were forked
--     fork_of, one_fork        a fork of a file; one more; all_forked, none is left
use Rattle.std.proofs.Common.{◌≡◌, ◌≢◌, ◌==◌, ◌<◌, ◌≤◌, ◌+◌, inr, ℕ, zero, suc, Bool, true, false, cond, List, [], ◌∷◌, ◌++◌, slice_get, Option, Some, None, IsSome, IfSome, is_some, string_bytes, length, drop, get_or, refl, sym, ap, subst, ◌∙◌, true≢false}
use Rattle.std.specs.Cmp.Lexicographic.{pointwise, bytes_decides}
use Rattle.std.proofs.lemmas.List.{append_assoc, append-nil, drop_all, drop_more}
use Rattle.disk_model.specs.Disk.{LeavesJust}
use Rattle.disk_model.specs.Memory.{disk_view}
use Rattle.disk_model.specs.declared.memory.MemoryDisk.{MemoryDisk}
use Rattle.wave_outside.specs.Folders.{IsEmptyFile, IsHanded, IsReadAlike}
use Rattle.wave_outside.specs.MemoryFolders.{file_in, file_names, has_file, IsMade, IsFork, AreForks}
use Rattle.wave_outside.specs.declared.memory_folder.StoredFile.{StoredFile}

abbrev test : List ℕ → List ℕ → Bool
test a b = pointwise ◌==◌ a b

own : (a b : List ℕ) → a ≡ b → test a b ≡ true
own a b e = (bytes_decides a b).1 e

other : (a b : List ℕ) → b ≢ a → test a b ≡ false
other a b h = go (test a b) refl
  where
    go : (t : Bool) → test a b ≡ t → test a b ≡ false
    go true e = absurd (h (sym ((bytes_decides a b).0 e)))
    go false e = e

-- ---- one more file

abbrev here : StoredFile → List StoredFile → Bool → List ℕ → Option MemoryDisk
here f fs t n = cond t (Some f.disk) (file_in fs n)

pub last_here : (fs : List StoredFile) (f : StoredFile) (n : List ℕ) → string_bytes f.name ≡ n → has_file fs n ≡ false → file_in (fs ++ f ∷ []) n ≡ Some f.disk
last_here [] f n e h = ap (λ t. cond t (Some f.disk) None) (own (string_bytes f.name) n e)
last_here (g ∷ fs) f n e h = go (test (string_bytes g.name) n) h (last_here fs f n e)
  where
    go : (t : Bool) → is_some (here g fs t n) ≡ false → (has_file fs n ≡ false → file_in (fs ++ f ∷ []) n ≡ Some f.disk) → here g (fs ++ f ∷ []) t n ≡ Some f.disk
    go true h r = absurd (true≢false h)
    go false h r = r h

pub last_else : (fs : List StoredFile) (f : StoredFile) (m : List ℕ) → m ≢ string_bytes f.name → file_in (fs ++ f ∷ []) m ≡ file_in fs m
last_else [] f m h = ap (λ t. cond t (Some f.disk) None) (other (string_bytes f.name) m h)
last_else (g ∷ fs) f m h = ap (cond (test (string_bytes g.name) m) (Some g.disk)) (last_else fs f m h)

none : (fs : List StoredFile) (n : List ℕ) → has_file fs n ≡ false → file_in fs n ≡ None
none fs n h = go (file_in fs n) h
  where
    go : (o : Option MemoryDisk) → is_some o ≡ false → o ≡ None
    go None h = refl
    go (Some d) h = absurd (true≢false h)

pub made_last : (fs : List StoredFile) (f : StoredFile) (n : List ℕ) → string_bytes f.name ≡ n → has_file fs n ≡ false → IsEmptyFile (disk_view f.disk) → IsMade n fs (fs ++ f ∷ [])
made_last fs f n e h d =
    let is = last_here fs f n e h in
    record {
      there = subst (λ o. IfSome o (λ d. IsHanded disk_view (file_in fs n) (disk_view d))) (sym is) (subst (λ o. IsHanded disk_view o (disk_view f.disk)) (sym (none fs n h)) d);
      some = ap is_some is;
      others = λ m u. last_else fs f m (λ w. u (w ∙ e));
    }

-- ---- names

pub named : (fs : List StoredFile) (i : ℕ) → IfSome (slice_get (file_names fs) i) (λ n. IsSome (file_in fs n))
named [] i = tt
named (f ∷ fs) zero = subst (λ t. IsSome (here f fs t (string_bytes f.name))) (sym (own (string_bytes f.name) (string_bytes f.name) refl)) refl
named (f ∷ fs) (suc i) = go (slice_get (file_names fs) i) (named fs i)
  where
    at : (n : List ℕ) (t : Bool) → IsSome (file_in fs n) → IsSome (here f fs t n)
    at n true h = refl
    at n false h = h

    go : (o : Option (List ℕ)) → IfSome o (λ n. IsSome (file_in fs n)) → IfSome o (λ n. IsSome (file_in (f ∷ fs) n))
    go None h = tt
    go (Some n) h = at n (test (string_bytes f.name) n) h

pub found : (fs : List StoredFile) (n : List ℕ) → IsSome (file_in fs n) → (i : ℕ) × (slice_get (file_names fs) i ≡ Some n)
found [] n h = absurd (true≢false (sym h))
found (f ∷ fs) n h = go (λ k. found fs n k) (test (string_bytes f.name) n) refl h
  where
    go : (IsSome (file_in fs n) → (i : ℕ) × (slice_get (file_names fs) i ≡ Some n)) → (t : Bool) → test (string_bytes f.name) n ≡ t → IsSome (here f fs t n) → (i : ℕ) × (slice_get (file_names (f ∷ fs)) i ≡ Some n)
    go r true e h = (0, ap Some ((bytes_decides (string_bytes f.name) n).0 e))
    go r false e h = (suc (r h).0, (r h).1)

abbrev is_named : List (List ℕ) → List ℕ → Bool
is_named [] n = false
is_named (m ∷ names) n = cond (test m n) true (is_named names n)

by_name : (fs : List StoredFile) (n : List ℕ) → has_file fs n ≡ is_named (file_names fs) n
by_name [] n = refl
by_name (f ∷ fs) n = go (test (string_bytes f.name) n) (by_name fs n)
  where
    go : (t : Bool) → has_file fs n ≡ is_named (file_names fs) n → is_some (here f fs t n) ≡ cond t true (is_named (file_names fs) n)
    go true e = refl
    go false e = e

pub same_names : (fs gs : List StoredFile) (n : List ℕ) → file_names gs ≡ file_names fs → has_file gs n ≡ has_file fs n
same_names fs gs n e = by_name gs n ∙ ap (λ z. is_named z n) e ∙ sym (by_name fs n)

-- ---- files that were forked

pub alike_at : (fs gs : List StoredFile) → AreForks fs gs → (m : List ℕ) → IsReadAlike disk_view (file_in fs m) (file_in gs m)
alike_at [] [] forks m = tt
alike_at [] (g ∷ gs) forks m = absurd forks
alike_at (f ∷ fs) [] forks m = absurd forks
alike_at (f ∷ fs) (g ∷ gs) forks m = subst (λ n. IsReadAlike disk_view (here f fs (test (string_bytes f.name) m) m) (here g gs (test n m) m)) (sym forks.0.named) (go (alike_at fs gs forks.1 m) (test (string_bytes f.name) m))
  where
    go : IsReadAlike disk_view (file_in fs m) (file_in gs m) → (t : Bool) → IsReadAlike disk_view (here f fs t m) (here g gs t m)
    go rest true = forks.0.reads
    go rest false = rest

pub fork_names : (fs gs : List StoredFile) → AreForks fs gs → file_names gs ≡ file_names fs
fork_names [] [] forks = refl
fork_names [] (g ∷ gs) forks = absurd forks
fork_names (f ∷ fs) [] forks = absurd forks
fork_names (f ∷ fs) (g ∷ gs) forks = (λ i. forks.0.named i ∷ fork_names fs gs forks.1 i)

pub fork_of : (f g : StoredFile) → string_bytes g.name ≡ string_bytes f.name → (disk_view g.disk).seen ≡ (disk_view f.disk).seen → LeavesJust (disk_view f.disk).seen (disk_view g.disk) → IsFork f g
fork_of f g named seen synced = record { named = named; reads = record { seen = seen; images = λ c left. inr (synced c left) } }

pub one_fork : (all files : List StoredFile) (i : ℕ) (f g : StoredFile) → i < length all → f ≡ get_or all i f → IsFork f g
    → ((rest : List StoredFile) → AreForks (drop i all) rest → AreForks all (files ++ rest)) → (rest : List StoredFile) → AreForks (drop (i + 1) all) rest → AreForks all ((files ++ g ∷ []) ++ rest)
one_fork all files i f g lt is fork before rest forks =
    let split : drop i all ≡ f ∷ drop (i + 1) all = drop_more all i f lt ∙ ap (λ x. x ∷ drop (i + 1) all) (sym is) in
    subst (AreForks all) (sym (append_assoc files (g ∷ []) rest)) (before (g ∷ rest) (subst (λ l. AreForks l (g ∷ rest)) (sym split) (fork, forks)))

pub all_forked : (all files : List StoredFile) (i : ℕ) → length all ≤ i → ((rest : List StoredFile) → AreForks (drop i all) rest → AreForks all (files ++ rest)) → AreForks all files
all_forked all files i end before = subst (AreForks all) (append-nil files) (before [] (subst (λ l. AreForks l []) (sym (drop_all i all end)) tt))
