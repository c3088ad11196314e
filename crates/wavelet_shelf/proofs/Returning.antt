-- Disks that are put back.
--     nothing_back, one_more       none was; one more was
--     IsPutting, putting           those after the containers that are left were; one more was
--     apart_in                     where no two names have one file, no two entries have
--     back_of, stored_of           what stands in the folder then for a name
--     no_file                      a file that is no name's is no entry's
use Rattle.std.proofs.Common.{Less, ◌≡◌, ◌≢◌, ℕ, ◌+◌, min, Bool, true, false, cond, List, [], ◌∷◌, ◌++◌, Option, Some, None, IsSome, IfSome, string_bytes, refl, sym, ap, subst, ◌∙◌, arith, append-nil}
use Rattle.std.specs.Cmp.Lexicographic.{slice_cmp}
use Rattle.std.specs.Ordering.{nat_cmp}
use Rattle.std.specs.List.{AllByRecursion}
use Rattle.std.specs.Map.{lookup, keys_of}
use Rattle.std.specs.Option.{option_map}
use Rattle.std.proofs.lemmas.Cmp.{nat_list_cmp_total}
use Rattle.std.proofs.lemmas.List.{append_assoc}
use Rattle.doc_items.specs.Maps.{Key, same_text}
use Rattle.delta_history.specs.Copying.{AscendFrom, AreAscending}
use Rattle.disk_model.specs.declared.disk.Disk as disk_of
use Rattle.delta_journal.specs.Journal.{on_disk}
use Rattle.wave_outside.specs.Folders.{IsPutBack, IsElsewhere, IsSame}
use Rattle.wave_outside.specs.declared.folder.Folder as folder_of
use Rattle.wavelet_container.specs.Containers.{history_of, journal_of}
use Rattle.wavelet_container.specs.Records.{StandsForHistory}
use Rattle.wavelet_container.specs.declared.container.Container.{Container}
use Rattle.wavelet_shelf.specs.Entries.{found, faults_in, AreInOrder, IsNamed, HaveRoom, AreSafe, IsSafe}
use Rattle.wavelet_shelf.specs.FileNames.{file_name_of}
use Rattle.wavelet_shelf.specs.Folders.{most_faults, IsBack, AreFiledApart, IsOneBack, ArePutBack}
use Rattle.wavelet_shelf.specs.Loads.{IsStoredFile}
use Rattle.wavelet_shelf.specs.Shelves.{in_folder, entries_of, HasFile}
use Rattle.wavelet_shelf.specs.declared.filed.Filed.{Filed}
use Rattle.wavelet_shelf.specs.declared.shelf.Shelf.{Shelf}
use Rattle.wavelet_shelf.proofs.Names.{own, any, below_none}
use Rattle.wavelet_shelf.proofs.Placing.{all_found, all_front, all_last}
use Rattle.wavelet_shelf.proofs.Shelving.{deltas_of}

back_counted : (f g h a s m : ℕ) → min h m ≡ min (g + a) m → min g m ≡ min (f + s) m → min h m ≡ min (f + (a + s)) m
back_counted f g h a s m one old = omega (arith, one, old)

module _ {F D : Type 0} (folder : folder_of.Ghosts F D) {disk : disk_of.Ghosts D} where
  pub nothing_back : (f : F) → ArePutBack folder {disk = disk} f f []
  nothing_back f = record { back = λ told apart. tt; others = λ told m not. refl; room = λ m. refl; still = λ told. refl; counted = omega arith }

  still_back : (g h : F) (m : List ℕ) (ys : List (Key × Filed D disk)) → IsElsewhere m (folder.files g) (folder.files h) → AllByRecursion (λ y. file_name_of y.0 ≢ m) ys → AllByRecursion (IsBack folder g) ys → AllByRecursion (IsBack folder h) ys
  still_back g h m [] others apart back = tt
  still_back g h m (y ∷ ys) others apart back = (
    subst (λ o. IfSome (journal_of y.1.container) (λ j. IsPutBack disk.view (on_disk j) o)) (sym (others (file_name_of y.0) apart.0)) back.0,
    still_back g h m ys others apart.1 back.1,
  )

  pub one_more : (f g h : F) (e : Key × Filed D disk) (done : List (Key × Filed D disk)) → IsOneBack folder g h (file_name_of e.0) e.1.container → ArePutBack folder f g done → ArePutBack folder f h (e ∷ done)
  one_more f g h e done one old = record {
    back = λ told apart. (one.there told, still_back g h (file_name_of e.0) done (one.others told) apart.0 (old.back told apart.1));
    others = λ told m not. one.others told m not.0 ∙ old.others told m not.1;
    room = λ m. one.room m ∙ old.room m;
    still = λ told. one.still told ∙ old.still told;
    counted = back_counted (folder.faults f) (folder.faults g) (folder.faults h) _ (faults_in done) most_faults one.counted old.counted;
  }

  pub record IsPutting (f g : F) (all es : List (Key × Filed D disk)) : Type 0 where
    pub done : List (Key × Filed D disk)
    pub split : all ≡ es ++ done
    pub back : ArePutBack folder f g done
    pub room : HaveRoom (folder.room g) es

  pub start_putting : (f : F) (all : List (Key × Filed D disk)) → HaveRoom (folder.room f) all → IsPutting f f all all
  start_putting f all room = record { done = []; split = sym (append-nil all); back = nothing_back f; room = room }

  room_on : (g h : F) (es : List (Key × Filed D disk)) → IsSame (folder.room g) (folder.room h) → HaveRoom (folder.room g) es → HaveRoom (folder.room h) es
  room_on g h [] same room = tt
  room_on g h (e ∷ es) same room = (same (file_name_of e.0) ∙ room.0, room_on g h es same room.1)

  pub room_last : (g : F) (es es' : List (Key × Filed D disk)) (n : Key) (x : Filed D disk) → es ≡ es' ++ (n, x) ∷ [] → AreInOrder es → HaveRoom (folder.room g) es → folder.room g (string_bytes x.file) ≡ true
  room_last g es es' n x is order room =
      let named = all_last IsNamed es' (n, x) (subst (AllByRecursion IsNamed) is order.1) in
      ap (folder.room g) named.1 ∙ all_last (λ e. folder.room g (file_name_of e.0) ≡ true) es' (n, x) (subst (HaveRoom (folder.room g)) is room)

  pub putting : (f g h : F) (all es es' : List (Key × Filed D disk)) (n : Key) (x : Filed D disk) → es ≡ es' ++ (n, x) ∷ [] → AreInOrder es → IsOneBack folder g h (string_bytes x.file) x.container → IsPutting f g all es → IsPutting f h all es'
  putting f g h all es es' n x is order one p =
      let named = all_last IsNamed es' (n, x) (subst (AllByRecursion IsNamed) is order.1) in
      let here : IsOneBack folder g h (file_name_of n) x.container = subst (λ m. IsOneBack folder g h m x.container) named.1 one in
      record {
        done = (n, x) ∷ p.done;
        split = p.split ∙ ap (λ l. l ++ p.done) is ∙ append_assoc es' ((n, x) ∷ []) p.done;
        back = one_more f g h (n, x) p.done here p.back;
        room = room_on g h es' one.room (all_front (λ e. folder.room g (file_name_of e.0) ≡ true) es' (n, x) (subst (HaveRoom (folder.room g)) is p.room));
      }

  pub all_back : (f g : F) (all es : List (Key × Filed D disk)) → es ≡ [] → IsPutting f g all es → ArePutBack folder f g all
  all_back f g all es none p = subst (ArePutBack folder f g) (sym (p.split ∙ ap (λ l. l ++ p.done) none)) p.back

  -- ---- by names

  found_head : (e : Key × Filed D disk) (es : List (Key × Filed D disk)) → IsSome (found (e ∷ es) e.0)
  found_head e es = subst (λ t. IsSome (option_map (λ (x : Filed D disk). x.container) (cond t (Some e.1) (lookup (same_text e.0) es)))) (sym (own e.0)) refl

  found_tail : (e : Key × Filed D disk) (es : List (Key × Filed D disk)) (n : Key) → IsSome (found es n) → IsSome (found (e ∷ es) n)
  found_tail e es n there = go (same_text n e.0)
    where
      go : (t : Bool) → IsSome (option_map (λ (x : Filed D disk). x.container) (cond t (Some e.1) (lookup (same_text n) es)))
      go true = refl
      go false = there

  abbrev AreNamedApart : List (Key × Filed D disk) → Type 0
  AreNamedApart es = (n m : Key) → IsSome (found es n) → IsSome (found es m) → file_name_of n ≡ file_name_of m → n ≡ m

  apart_from : (e : Key × Filed D disk) (es ys : List (Key × Filed D disk)) → AscendFrom e.0 (keys_of ys) → ((n : Key) → IsSome (found ys n) → IsSome (found (e ∷ es) n)) → AreNamedApart (e ∷ es) → AllByRecursion (λ x. file_name_of x.0 ≢ file_name_of e.0) ys
  apart_from e es [] above inside apart = tt
  apart_from e es (y ∷ ys) above inside apart = (
    λ same. below_none e.0 (subst (λ k. slice_cmp nat_cmp e.0 k ≡ Less) (apart y.0 e.0 (inside y.0 (found_head y ys)) (found_head e es) same) above.0),
    apart_from e es ys (lower_all e.0 y.0 (keys_of ys) above.0 above.1) (λ n there. inside n (found_tail y ys n there)) apart,
  )
    where
      lower_all : (n m : Key) (names : List Key) → slice_cmp nat_cmp n m ≡ Less → AscendFrom m names → AscendFrom n names
      lower_all n m [] e a = tt
      lower_all n m (k ∷ names) e a = (nat_list_cmp_total.trans n m k e a.0, a.1)

  pub apart_in : (es : List (Key × Filed D disk)) → AreAscending (keys_of es) → AreNamedApart es → AreFiledApart folder es
  apart_in [] a apart = tt
  apart_in (e ∷ es) a apart = (
    apart_from e es es a (λ n there. found_tail e es n there) apart,
    apart_in es (any e.0 (keys_of es) a) (λ n m one other. apart n m (found_tail e es n one) (found_tail e es m other)),
  )

  pub no_file : (es : List (Key × Filed D disk)) (m : List ℕ) → ((n : Key) → IsSome (found es n) → file_name_of n ≡ m → ⊥) → AllByRecursion (λ e. m ≢ file_name_of e.0) es
  no_file [] m not = tt
  no_file (e ∷ es) m not = (λ is. not e.0 (found_head e es) (sym is), no_file es m (λ n there. not n (found_tail e es n there)))

  abbrev BackOf : F → Key → Container D disk → Type 0
  BackOf f n c = IfSome (journal_of c) (λ j. IsPutBack disk.view (on_disk j) (folder.files f (file_name_of n)))

  pub back_of : (f : F) (es : List (Key × Filed D disk)) (n : Key) → AllByRecursion (IsBack folder f) es → IfSome (found es n) (BackOf f n)
  back_of f es n back = go (lookup (same_text n) es) refl
    where
      go : (o : Option (Filed D disk)) → lookup (same_text n) es ≡ o → IfSome (option_map (λ (x : Filed D disk). x.container) o) (BackOf f n)
      go None is = tt
      go (Some x) is = all_found deltas_of (IsBack folder f) es n x back is

  stands : (n : Key) (c : Container D disk) (o : Option D) (s : IsSafe c) → (history_of c).name ≡ n → IfSome (journal_of c) (λ j. IsPutBack disk.view (on_disk j) o) → IsStoredFile disk.view o n (history_of c).deltas
  stands n c o s name back = there o (subst (λ j?. IfSome j? (λ j. IsPutBack disk.view (on_disk j) o)) s.is back)
    where
      there : (o : Option D) → IsPutBack disk.view (on_disk s.journal) o → IsStoredFile disk.view o n (history_of c).deltas
      there None put = absurd put
      there (Some d) put = record {
        seen = subst (λ k. StandsForHistory k (history_of c).deltas (disk.view d).seen) name (subst (StandsForHistory (history_of c).name (history_of c).deltas) (sym put.seen) s.read);
        images = λ x left. subst (λ k. StandsForHistory k (history_of c).deltas x) name (s.images x (put.crash x left));
      }

  pub stored_of : (f : F) (es : List (Key × Filed D disk)) (n : Key) → AreInOrder es → AreSafe es → AllByRecursion (IsBack folder f) es → IfSome (found es n) (λ c. IsStoredFile disk.view (folder.files f (file_name_of n)) n (history_of c).deltas)
  stored_of f es n order safe back = go (lookup (same_text n) es) refl
    where
      go : (o : Option (Filed D disk)) → lookup (same_text n) es ≡ o → IfSome (option_map (λ (x : Filed D disk). x.container) o) (λ c. IsStoredFile disk.view (folder.files f (file_name_of n)) n (history_of c).deltas)
      go None is = tt
      go (Some x) is = stands n x.container (folder.files f (file_name_of n)) (all_found deltas_of (λ e. IsSafe e.1.container) es n x safe is) (all_found deltas_of IsNamed es n x order.1 is).0 (all_found deltas_of (IsBack folder f) es n x back is)

  pub others_of : (s : Shelf F D folder disk) (x f : F) → in_folder s ≡ Some x → ((m : List ℕ) → AllByRecursion (λ e. m ≢ file_name_of e.0) (entries_of s) → folder.files f m ≡ folder.files x m) → IfSome (in_folder s) (λ g. (m : List ℕ) → (HasFile s m → ⊥) → folder.files f m ≡ folder.files g m)
  others_of s x f is others = subst (λ (o : Option F). IfSome o (λ g. (m : List ℕ) → (HasFile s m → ⊥) → folder.files f m ≡ folder.files g m)) (sym is) (λ m not. others m (no_file (entries_of s) m (λ n there same. not (n, there, same))))
