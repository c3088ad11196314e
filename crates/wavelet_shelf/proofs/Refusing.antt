-- Disks that are put back after a refusal.
--     all_of_found      what is so of each name's entry is so of each entry
--     put_as_read       a file that was read reads as before
--     after_refusal     each file does
use Rattle.std.proofs.Common.{Less, ◌≡◌, ◌≢◌, inr, ⊎_elim, ℕ, Bool, true, false, cond, List, [], ◌∷◌, Option, Some, None, IsSome, IfSome, IsTrue, refl, sym, ap, subst, ◌∙◌, true≢false}
use Rattle.std.specs.Cmp.Lexicographic.{slice_cmp, bytes_decides}
use Rattle.std.specs.Ordering.{nat_cmp}
use Rattle.std.specs.List.{AllByRecursion}
use Rattle.std.specs.Map.{lookup, keys_of}
use Rattle.std.specs.Option.{option_map}
use Rattle.doc_items.specs.Maps.{Key, same_text}
use Rattle.delta_history.specs.Copying.{AreAscending}
use Rattle.disk_model.specs.declared.disk.Disk as disk_of
use Rattle.delta_journal.specs.Journal.{on_disk}
use Rattle.wave_outside.specs.Folders.{IsOld, IsPutBack, IsAsBefore}
use Rattle.wave_outside.specs.declared.folder.Folder as folder_of
use Rattle.wave_outside.proofs.Handing.{adds_back}
use Rattle.wavelet_container.specs.Containers.{journal_of}
use Rattle.wavelet_container.specs.declared.container.Container.{Container}
use Rattle.wavelet_shelf.specs.Entries.{found}
use Rattle.wavelet_shelf.specs.FileNames.{file_name_of}
use Rattle.wavelet_shelf.specs.Folders.{IsBack, ArePutBack, IsLooked}
use Rattle.wavelet_shelf.specs.Loads.{IsReadFrom}
use Rattle.wavelet_shelf.specs.declared.filed.Filed.{Filed}
use Rattle.wavelet_shelf.proofs.Names.{own, any, below_none, decided, same_or_not}
use Rattle.wavelet_shelf.proofs.Placing.{found_above}
use Rattle.wavelet_shelf.proofs.Returning.{apart_in}
use Rattle.wavelet_shelf.proofs.Shelving.{deltas_of}

module _ {F D : Type 0} (folder : folder_of.Ghosts F D) {disk : disk_of.Ghosts D} where
  tail_found : (P : Key → Container D disk → Type 0) (e : Key × Filed D disk) (es : List (Key × Filed D disk)) → AreAscending (keys_of (e ∷ es)) → ((n : Key) → IfSome (found (e ∷ es) n) (P n)) → (n : Key) → IfSome (found es n) (P n)
  tail_found P e es a all n = go (lookup (same_text n) es) refl
    where
      go : (o : Option (Filed D disk)) → lookup (same_text n) es ≡ o → IfSome (option_map (λ (x : Filed D disk). x.container) o) (P n)
      go None is = tt
      go (Some x) is =
          let apart = decided n e.0 (λ same. below_none n (subst (λ k. slice_cmp nat_cmp k n ≡ Less) (sym same) (found_above deltas_of e.0 n es x a is))) in
          subst (λ o. IfSome (option_map (λ (x : Filed D disk). x.container) o) (P n)) (ap (λ t. cond t (Some e.1) (lookup (same_text n) es)) apart ∙ is) (all n)

  pub all_of_found : (P : Key → Container D disk → Type 0) (es : List (Key × Filed D disk)) → AreAscending (keys_of es) → ((n : Key) → IfSome (found es n) (P n)) → AllByRecursion (λ e. P e.0 e.1.container) es
  all_of_found P [] a all = tt
  all_of_found P (e ∷ es) a all = (
    subst (λ t. IfSome (option_map (λ (x : Filed D disk). x.container) (cond t (Some e.1) (lookup (same_text e.0) es))) (P e.0)) (own e.0) (all e.0),
    all_of_found P es (any e.0 (keys_of es) a) (tail_found P e es a all),
  )

  pub put_as_read : (c : Container D disk) (o p : Option D) → IsReadFrom o c → IfSome (journal_of c) (λ j. IsPutBack disk.view (on_disk j) p) → IsAsBefore disk.view o p
  put_as_read c None p read back = absurd read
  put_as_read c (Some d) p read back = there p (subst (λ k. IfSome k (λ j. IsPutBack disk.view (on_disk j) p)) read.is back)
    where
      there : (p : Option D) → IsPutBack disk.view (on_disk read.journal) p → IsAsBefore disk.view (Some d) p
      there None put = absurd put
      there (Some e) put = record {
        seen = put.seen ∙ read.read;
        images = λ x left. inr (read.images x (put.crash x left));
        moments = adds_back (disk.view d) (on_disk read.journal) (disk.view e) (IsOld (disk.view d)) read.moments put;
      }

  one_by_one : (f h : F) (m : List ℕ) (es : List (Key × Filed D disk)) → AllByRecursion (λ e. IsReadFrom (folder.files f (file_name_of e.0)) e.1.container) es → AllByRecursion (IsBack folder h) es
      → (AllByRecursion (λ e. m ≢ file_name_of e.0) es → IsAsBefore disk.view (folder.files f m) (folder.files h m)) → IsAsBefore disk.view (folder.files f m) (folder.files h m)
  one_by_one f h m [] read back other = other tt
  one_by_one f h m (e ∷ es) read back other = ⊎_elim
      (λ is. subst (λ k. IsAsBefore disk.view (folder.files f k) (folder.files h k)) (sym is) (put_as_read e.1.container (folder.files f (file_name_of e.0)) (folder.files h (file_name_of e.0)) read.0 back.0))
      (λ apart. one_by_one f h m es read.1 back.1 (λ rest. other (apart, rest)))
      (same_or_not m (file_name_of e.0))

  not_any : (m : List ℕ) (es : List (Key × Filed D disk)) → AreAscending (keys_of es) → AllByRecursion (λ e. m ≢ file_name_of e.0) es → (n : Key) → IsSome (found es n) → m ≢ file_name_of n
  not_any m [] a apart n there is = absurd (true≢false (sym there))
  not_any m (e ∷ es) a apart n there is = go (same_text n e.0) refl (λ some. not_any m es (any e.0 (keys_of es) a) apart.1 n some is) there
    where
      go : (t : Bool) → same_text n e.0 ≡ t → (IsSome (found es n) → ⊥) → IsSome (option_map (λ (x : Filed D disk). x.container) (cond t (Some e.1) (lookup (same_text n) es))) → ⊥
      go true s rest some = apart.0 (is ∙ ap file_name_of ((bytes_decides n e.0).0 s))
      go false s rest some = rest some

  pub after_refusal : (f g h : F) (es : List (Key × Filed D disk)) (done : List (List ℕ)) → AreAscending (keys_of es) → IsLooked folder f g es done → ArePutBack folder g h es → IsTrue disk.tells → (m : List ℕ) → IsAsBefore disk.view (folder.files f m) (folder.files h m)
  after_refusal f g h es done a looked back told m =
      let read = all_of_found (λ n c. IsReadFrom (folder.files f (file_name_of n)) c) es a (looked.read told) in
      one_by_one f h m es read (back.back told (apart_in folder es a looked.apart))
      (λ apart. subst (IsAsBefore disk.view (folder.files f m)) (sym (back.others told m apart)) (looked.as_before told m (not_any m es a apart)))
