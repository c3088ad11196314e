-- A folder whose files were looked at.
--     loaded_ok, loaded_err, unlisted      each was read; one wasn't; they weren't listed
use Rattle.std.proofs.Common.{Less, ◌≡◌, ◌≢◌, ◌⊎◌, ⊎_elim, ℕ, zero, suc, ◌+◌, ◌^◌, ◌<◌, ◌≤◌, min, true, false, List, [], ◌∷◌, ◌++◌, length, take, get_or, map, Option, Some, None, Ok, Err, Result, IsSome, IfSome, IsTrue, is_some, refl, sym, ap, subst, ◌∙◌, true≢false, arith}
use Rattle.std.specs.Cmp.Lexicographic.{slice_cmp}
use Rattle.std.specs.Ordering.{nat_cmp}
use Rattle.std.specs.List.{AllByRecursion}
use Rattle.std.specs.List.{take-map}
use Rattle.std.proofs.lemmas.List.{map-append, take_more}
use Rattle.std.specs.Map.{keys_of}
use Rattle.doc_items.specs.Maps.{Key}
use Rattle.wavelet_op.specs.Deltas.{DeltaOf}
use Rattle.delta_history.specs.Copying.{AreAscending}
use Rattle.disk_model.specs.declared.disk.Disk as disk_of
use Rattle.delta_journal.specs.File.{NamedOnce}
use Rattle.wave_outside.specs.Counts.{Rose}
use Rattle.wave_outside.specs.Folders.{IsSame, IsAsBefore}
use Rattle.wave_outside.specs.declared.folder.Folder as folder_of
use Rattle.wavelet_container.specs.Records.{StandsForHistory}
use Rattle.wavelet_shelf.specs.Entries.{found, faults_in, hosting, AreInOrder}
use Rattle.wavelet_shelf.specs.Faults.{damage_of}
use Rattle.wavelet_shelf.specs.FileNames.{file_name_of, is_file_name}
use Rattle.wavelet_shelf.specs.Folders.{most_faults, is_among, faults_with, ArePutBack, IsSkipped, IsFileRead, IsFileStep, IsFirstAmong, IsLoading, IsAllStep, IsLoadedAs}
use Rattle.wavelet_shelf.specs.Hosting.{deltas_in}
use Rattle.wavelet_shelf.specs.Loads.{IsReadFrom, IsRefusedFile, IsSound, IsFirstRefused}
use Rattle.wavelet_shelf.specs.declared.fault.ShelfFault.{ShelfFault}
use Rattle.wavelet_shelf.specs.declared.fault.ShelfFault.TheVariants.{Failed}
use Rattle.wavelet_shelf.specs.declared.filed.Filed.{Filed}
use Rattle.wavelet_shelf.proofs.Among.{ascend_apart, before_next}
use Rattle.wavelet_shelf.proofs.Loading.{as_it_is, passed_over, came_back, went_past, went_on}
use Rattle.wavelet_shelf.proofs.Refusing.{after_refusal}
use Rattle.wavelet_shelf.proofs.Shelving.{same_Err}

ok_err : {T E : Type 0} {x : T} {y : E} → ◌≡◌ {A = Result T E} (Ok x) (Err y) → ⊥
ok_err e = cc

later_still : (f g t m : ℕ) → f ≤ g → min (g + 0) m ≤ t → min (f + 0) m ≤ t
later_still f g t m le on = omega (arith, le, on)

rose_still : (f g t m : ℕ) → f ≤ g → min (min (g + 0) m + 1) m ≤ t → min (min (f + 0) m + 1) m ≤ t
rose_still f g t m le on = omega (arith, le, on)

later_back : (f g h s t m : ℕ) → f ≤ g → min (g + 0) m ≤ min (t + s) m → min h m ≡ min (t + s) m → min (f + 0) m ≤ min (h + 0) m
later_back f g h s t m le on back = omega (arith, le, on, back)

rose_back : (f g h s t m : ℕ) → f ≤ g → min (min (g + 0) m + 1) m ≤ min (t + s) m → min h m ≡ min (t + s) m → min (min (f + 0) m + 1) m ≤ min (h + 0) m
rose_back f g h s t m le on back = omega (arith, le, on, back)

unlisted_rose : (f g m : ℕ) → min (f + 1) m ≤ g → min (min (f + 0) m + 1) m ≤ min (g + 0) m
unlisted_rose f g m rose = omega (arith, rose)

unlisted_later : (f g m : ℕ) → f ≤ g → min (f + 0) m ≤ min (g + 0) m
unlisted_later f g m le = omega (arith, le)

module _ {F D : Type 0} (folder : folder_of.Ghosts F D) (disk : disk_of.Ghosts D) (f g : F) (same : IsTrue disk.tells → IsSame (folder.files f) (folder.files g)) (counts : folder.faults f ≤ folder.faults g) where
  -- a file that isn't there isn't refused
  sound_there : IsTrue disk.tells → (m : List ℕ) (o : Option D) → folder.files f m ≡ o → (IsSome (folder.files f m) → IsSound disk.view (folder.files g m) m) → IsSound disk.view o m
  sound_there told m None is k = λ named offset refused. refused
  sound_there told m (Some x) is k = subst (λ o. IsSound disk.view o m) (same told m ∙ is) (k (ap is_some is))

  damage_before : (names : List (List ℕ)) → (IsTrue disk.tells → (m : List ℕ) → IsSome (folder.files f m) → is_among names m ≡ true) → (o : Option (List ℕ × ℕ))
      → IfSome o (λ d. IsTrue disk.tells → IsFirstAmong folder disk g names d.0 d.1) → IfSome o (λ d. IsTrue disk.tells → IsFirstRefused disk.view (folder.files f) d.0 d.1)
  damage_before names listed None damage = tt
  damage_before names listed (Some d) damage = λ told. record {
    named = (damage told).named;
    refused = subst (λ o. IsRefusedFile disk.view o d.0 d.1) (same told d.0) (damage told).refused;
    first = λ l less. sound_there told l (folder.files f l) refl (λ there. (damage told).first l (listed told l there) less);
  }

  pub loaded_ok : (h : F) (es : List (Key × Filed D disk)) (names : List (List ℕ)) → (IsTrue disk.tells → (m : List ℕ) → IsSome (folder.files f m) → is_among names m ≡ true) → IsAllStep folder g h es names (Ok tt) → IsLoadedAs folder f h es (Ok tt)
  loaded_ok h es names listed step = record {
    read = λ told n. subst (λ o. IfSome (found es n) (IsReadFrom o)) (same told (file_name_of n)) (step.loading.looked.read told n);
    all = λ told. record {
      each = λ n ds good some. each_of told n ds (folder.files f (file_name_of n)) refl
          (λ there. subst (λ o. IfSome o (λ d. StandsForHistory n ds (disk.view d).seen → deltas_in (hosting es) n ≡ ds)) (same told (file_name_of n)) (step.loading.each told n ds good some (listed told (file_name_of n) there)));
    };
    sound = λ told m. sound_there told m (folder.files f m) refl (λ there. step.loading.sound told m (listed told m there));
    held = λ told. (step.loading.looked.held told, step.loading.looked.safe told);
    apart = step.loading.looked.apart;
    damaged = tt;
    none = tt;
    as_before = λ told m not. subst (λ o. IsAsBefore disk.view o (folder.files h m)) (same told m) (step.loading.looked.as_before told m not);
    later = later_still (folder.faults f) (folder.faults g) (faults_with folder h es) most_faults counts step.later;
    failed = λ e. absurd (ok_err e);
  }
    where
      each_of : IsTrue disk.tells → (n : Key) (ds : List DeltaOf) (o : Option D) → folder.files f (file_name_of n) ≡ o → (IsSome (folder.files f (file_name_of n)) → IfSome (folder.files f (file_name_of n)) (λ d. StandsForHistory n ds (disk.view d).seen → deltas_in (hosting es) n ≡ ds)) → IfSome o (λ d. StandsForHistory n ds (disk.view d).seen → deltas_in (hosting es) n ≡ ds)
      each_of told n ds None is k = tt
      each_of told n ds (Some x) is k = subst (λ o. IfSome o (λ d. StandsForHistory n ds (disk.view d).seen → deltas_in (hosting es) n ≡ ds)) is (k (ap is_some is))

  pub loaded_err : (k h : F) (es es' : List (Key × Filed D disk)) (names : List (List ℕ)) (e : ShelfFault) → (IsTrue disk.tells → (m : List ℕ) → IsSome (folder.files f m) → is_among names m ≡ true) → AreAscending (keys_of es) → IsAllStep folder g k es names (Err e) → ArePutBack folder k h es → es' ≡ [] → IsLoadedAs folder f h es' (Err e)
  loaded_err k h es es' names e listed a step back none = subst (λ l. IsLoadedAs folder f h l (Err e)) (sym none) (record {
    read = tt;
    all = tt;
    sound = tt;
    held = tt;
    apart = tt;
    damaged = damage_before names listed (damage_of e) step.damaged;
    none = refl;
    as_before = λ told m not. subst (λ o. IsAsBefore disk.view o (folder.files h m)) (same told m) (after_refusal folder g k h es step.done a step.looked back told m);
    later = later_back (folder.faults f) (folder.faults g) (folder.faults h) (faults_in es) (folder.faults k) most_faults counts step.later back.counted;
    failed = λ is. rose_back (folder.faults f) (folder.faults g) (folder.faults h) (faults_in es) (folder.faults k) most_faults counts (step.failed (ap Err (same_Err is))) back.counted;
  })

  pub unlisted : (es : List (Key × Filed D disk)) (e : ShelfFault) → es ≡ [] → (e ≡ Failed → Rose (folder.faults f) (folder.faults g)) → damage_of e ≡ None → IsLoadedAs folder f g es (Err e)
  unlisted es e none failed whole = subst (λ l. IsLoadedAs folder f g l (Err e)) (sym none) (record {
    read = tt;
    all = tt;
    sound = tt;
    held = tt;
    apart = tt;
    damaged = subst (λ o. IfSome o (λ d. IsTrue disk.tells → IsFirstRefused disk.view (folder.files f) d.0 d.1)) (sym whole) tt;
    none = refl;
    as_before = λ told m not. subst (IsAsBefore disk.view (folder.files f m)) (sym (same told m)) (as_it_is disk.view (folder.files f m));
    later = unlisted_later (folder.faults f) (folder.faults g) most_faults counts;
    failed = λ is. unlisted_rose (folder.faults f) (folder.faults g) most_faults (failed (same_Err is));
  })

-- ---- one name after the other

module _ {X : Type 0} (name : X → Key) where
  pub taken_more : (xs : List X) (k : ℕ) (x : X) → k < length xs → x ≡ get_or xs k x → map name (take (k + 1) xs) ≡ map name (take k xs) ++ name x ∷ []
  taken_more xs k x lt is = ap (map name) (take_more xs k x lt) ∙ map-append name (take k xs) (get_or xs k x ∷ []) ∙ ap (λ z. map name (take k xs) ++ name z ∷ []) (sym is)

  at_place : (xs : List X) (k : ℕ) (x : X) → k < length xs → get_or (map name xs) k (name x) ≡ name (get_or xs k x)
  at_place [] k x lt = absurd (omega (arith, lt))
  at_place (y ∷ ys) zero x lt = refl
  at_place (y ∷ ys) (suc k) x lt = at_place ys k x (omega (arith, lt))

  map_length : (xs : List X) → length (map name xs) ≡ length xs
  map_length [] = refl
  map_length (x ∷ xs) = ap suc (map_length xs)

  pub apart_at : (xs : List X) (k : ℕ) (x : X) → AreAscending (map name xs) → k < length xs → x ≡ get_or xs k x → is_among (map name (take k xs)) (name x) ≡ false
  apart_at xs k x a lt is =
      let long = map_length xs in
      subst (λ l. is_among l (name x) ≡ false) (take-map name k xs) (subst (λ m. is_among (take k (map name xs)) m ≡ false) (at_place xs k x lt ∙ ap name (sym is)) (ascend_apart (map name xs) k (name x) a (omega (arith, lt, long))))

  pub before_at : (xs : List X) (k : ℕ) (x : X) (l : Key) → AreAscending (map name xs) → k < length xs → x ≡ get_or xs k x → is_among (map name xs) l ≡ true → slice_cmp nat_cmp l (name x) ≡ Less → is_among (map name (take k xs)) l ≡ true
  before_at xs k x l a lt is among less =
      let long = map_length xs in
      let here : get_or (map name xs) k (name x) ≡ name x = at_place xs k x lt ∙ ap name (sym is) in
      subst (λ ns. is_among ns l ≡ true) (take-map name k xs) (before_next (map name xs) k (name x) l a (omega (arith, lt, long)) among (subst (λ m. slice_cmp nat_cmp l m ≡ Less) (sym here) less))

  pub all_at : (P : Key → Type 0) (xs : List X) (k : ℕ) (x : X) → AllByRecursion P (map name xs) → k < length xs → x ≡ get_or xs k x → P (name x)
  all_at P xs k x all lt is = subst (λ z. P (name z)) (sym is) (go xs k all lt)
    where
      go : (ys : List X) (i : ℕ) → AllByRecursion P (map name ys) → i < length ys → P (name (get_or ys i x))
      go [] i all lt = absurd (omega (arith, lt))
      go (y ∷ ys) zero all lt = all.0
      go (y ∷ ys) (suc i) all lt = go ys i all.1 (omega (arith, lt))

module _ {F D : Type 0} (folder : folder_of.Ghosts F D) {disk : disk_of.Ghosts D} (f g h : F) (es es' : List (Key × Filed D disk)) (done : List (List ℕ)) (m : List ℕ) (new : is_among done m ≡ false) (y : IsLoading folder f g es done) where
  pub there_still : (IsTrue disk.tells → IsSome (folder.files f m)) → IsTrue disk.tells → IsSome (folder.files g m)
  there_still there told = subst (λ o. IsSome o) (sym (y.looked.untouched told m new)) (there told)

  pub not_before : (n : Key) → IsSome (found es n) → m ≢ file_name_of n
  not_before n one is = true≢false (sym (y.looked.among n one) ∙ ap (is_among done) (sym is) ∙ new)

  pub looked_on : NamedOnce → (IsTrue disk.tells → (d : D) → length (disk.view d).seen < 2 ^ 64) → AreInOrder es → AreInOrder es' → IsFileRead folder g h m es es' → IsLoading folder f h es' (done ++ m ∷ [])
  looked_on laws bounded order order' r = ⊎_elim
      (λ p. went_past folder f g h es es' done m new y laws r.others p)
      (λ p. went_on folder f g h es es' done m new y p order order' laws bounded r.others)
      r.what

  pub failed_all : (names : List (List ℕ)) (e : ShelfFault) → is_file_name m ≡ true → ((l : List ℕ) → is_among names l ≡ true → slice_cmp nat_cmp l m ≡ Less → is_among done l ≡ true) → (IsTrue disk.tells → IsSome (folder.files f m)) → faults_with folder {disk = disk} f [] ≤ faults_with folder g es → IsFileStep folder g h m es es' (Err e) → IsAllStep folder f h es' names (Err e)
  failed_all names e named below there later step = record {
    done = done ++ m ∷ [];
    looked = came_back folder f g h es es' done m new y step.back.0 (there_still there) step.back.1;
    loading = tt;
    damaged = told_damage (damage_of e) step.damaged;
    later = le_on (faults_with folder {disk = disk} f []) (faults_with folder g es) (faults_with folder h es') later step.later;
    failed = λ is. rise_on (faults_with folder {disk = disk} f []) (faults_with folder g es) (faults_with folder h es') most_faults later (step.failed is);
  }
    where
      told_damage : (o : Option (List ℕ × ℕ)) → IfSome o (λ d. (d.0 ≡ m) × (IsTrue disk.tells → IsRefusedFile disk.view (folder.files g m) m d.1)) → IfSome o (λ d. IsTrue disk.tells → IsFirstAmong folder disk f names d.0 d.1)
      told_damage None t = tt
      told_damage (Some d) t = λ told. subst (λ k. IsFirstAmong folder disk f names k d.1) (sym t.0) (record {
        named = named;
        refused = subst (λ o. IsRefusedFile disk.view o m d.1) (y.looked.untouched told m new) (t.1 told);
        first = λ l among less. y.sound told l (below l among less);
      })

      le_on : (a b c : ℕ) → a ≤ b → b ≤ c → a ≤ c
      le_on a b c one two = omega (arith, one, two)

      rise_on : (a b c m : ℕ) → a ≤ b → min (b + 1) m ≤ c → min (a + 1) m ≤ c
      rise_on a b c m le rose = omega (arith, le, rose)

  pub looked_either : NamedOnce → (IsTrue disk.tells → (d : D) → length (disk.view d).seen < 2 ^ 64) → AreInOrder es → AreInOrder es' → IsSkipped folder g h m es es' ⊎ IsFileRead folder g h m es es' → IsLoading folder f h es' (done ++ m ∷ [])
  looked_either laws bounded order order' what = ⊎_elim
      (λ skipped. subst (λ x. IsLoading folder f x es' (done ++ m ∷ [])) (sym skipped.still) (subst (λ l. IsLoading folder f g l (done ++ m ∷ [])) (sym skipped.same) (passed_over folder f g es done m skipped.other y)))
      (λ read. looked_on laws bounded order order' read)
      what
