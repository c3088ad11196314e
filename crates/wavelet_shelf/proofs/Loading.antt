-- The files of a folder, looked at one after the other.
--     begun_loading        none was
--     passed_over          one that isn't a wavelet's was
--     went_on              a wavelet's was
use Rattle.std.proofs.Common.{◌≡◌, ◌≢◌, ◌⊎◌, inl, inr, ⊎_elim, ℕ, ◌<◌, ◌^◌, ◌≤◌, true, false, List, [], ◌∷◌, ◌++◌, length, Option, Some, None, IsSome, IfSome, IsTrue, is_some, refl, sym, ap, subst, ◌∙◌, true≢false, arith}
use Rattle.std.specs.Map.{lookup}
use Rattle.std.specs.Option.{option_map, option_map_or}
use Rattle.doc_items.specs.Maps.{Key, same_text}
use Rattle.wave_base.specs.Grammar.{is_wavelet_name}
use Rattle.wave_base.proofs.Parts.{name-bound}
use Rattle.wavelet_op.specs.Deltas.{DeltaOf}
use Rattle.disk_model.specs.Disk.{DiskView}
use Rattle.disk_model.specs.declared.disk.Disk as disk_of
use Rattle.delta_journal.specs.File.{HasName, HasNoHeader, NamedOnce}
use Rattle.wave_outside.specs.Folders.{IsElsewhere, IsOld, IsAsBefore}
use Rattle.wave_outside.specs.declared.folder.Folder as folder_of
use Rattle.wave_outside.proofs.Handing.{adds_nothing}
use Rattle.wavelet_container.specs.Containers.{IsHeld}
use Rattle.wavelet_container.specs.Records.{records_of, StandsForHistory, IsDamagedHistory}
use Rattle.wavelet_container.proofs.Loaded.{history_is_one, history_is_whole}
use Rattle.wavelet_shelf.specs.Entries.{found, hosting, AreInOrder, AreHeld, AreSafe, IsSafe}
use Rattle.wavelet_shelf.specs.FileNames.{file_name_of, is_file_name}
use Rattle.wavelet_shelf.specs.Folders.{is_among, IsPassed, IsAdded, IsFileBack, IsLooked, IsLoading}
use Rattle.wavelet_shelf.specs.Hosting.{deltas_in}
use Rattle.wavelet_shelf.specs.Loads.{IsReadFrom, IsOwnName, IsRefused, IsRefusedFile}
use Rattle.wavelet_shelf.specs.declared.filed.Filed.{Filed}
use Rattle.wavelet_shelf.proofs.Among.{more, last, split, neither}
use Rattle.wavelet_shelf.proofs.FileName.{own_form}
use Rattle.wavelet_shelf.proofs.Headers.{name_in}
use Rattle.wavelet_shelf.proofs.Names.{same_or_not}
use Rattle.wavelet_shelf.proofs.Placing.{deltas_hosting, all_put, found_put, others_put, length_keys}
use Rattle.wavelet_shelf.proofs.Shelving.{deltas_of}

no_value : {X T : Type 0} {x : X} → None ≡ Some x → T
no_value e = absurd (cc)

same_Some : {X : Type 0} {x y : X} → Some x ≡ Some y → x ≡ y
same_Some e = cc

-- ---- what reads as before

pub as_it_is : {K : Type 0} (view : K → DiskView) (o : Option K) → IsAsBefore view o o
as_it_is view None = tt
as_it_is view (Some f) = record { seen = refl; images = λ c left. inl left; moments = adds_nothing (view f) (IsOld (view f)) }

-- ---- what a file stands for

no_records : (ds : List DeltaOf) → records_of ds ≡ [] → ds ≡ []
no_records [] e = refl
no_records (d ∷ ds) e = absurd (cc)

module _ (laws : NamedOnce) (n : Key) (ds : List DeltaOf) (file : List ℕ) (good : is_wavelet_name n ≡ true) (some : ds ≢ []) (stands : StandsForHistory n ds file) where
  header_of : HasName (Some n) file
  header_of = let long = name-bound n good in name_in n (records_of ds) file (omega (arith, long)) (λ none. some (no_records ds none)) stands.stands

  not_headless : HasNoHeader file → ⊥
  not_headless none = no_value (laws.one file None (Some n) none header_of)

  same_name : (m : Key) → HasName (Some m) file → n ≡ m
  same_name m named = same_Some (laws.one file (Some n) (Some m) header_of named)

-- one that stands for none, and one that stands for a history of its wavelet, isn't refused
headless_whole : NamedOnce → (m file : List ℕ) → HasNoHeader file → (offset : ℕ) → IsRefused m offset file → ⊥
headless_whole laws m file none offset (inl broken) = laws.not_broken file None none broken.0
headless_whole laws m file none offset (inr other) = no_value (laws.one file None (Some other.0) none other.1)

read_whole : NamedOnce → (m name file : List ℕ) (ds : List DeltaOf) → length file < 2 ^ 64 → IsOwnName name m → HasName (Some name) file → StandsForHistory name ds file → (offset : ℕ) → IsRefused m offset file → ⊥
read_whole laws m name file ds small own named stands offset (inl broken) = laws.not_broken file (Some name) named broken.0
read_whole laws m name file ds small own named stands offset (inr other) =
    let is : name ≡ other.0 = same_Some (laws.one file (Some name) (Some other.0) named other.1) in
    ⊎_elim
    (λ damaged. history_is_whole name file ds offset small stands (subst (λ n. IsDamagedHistory n offset file) (sym is) damaged.1))
    (λ foreign. foreign.0 (subst (λ n. IsOwnName n m) is own))
    other.2

module _ {F D : Type 0} (folder : folder_of.Ghosts F D) {disk : disk_of.Ghosts D} where
  pub begun_loading : (f : F) → IsLoading folder {disk = disk} f f [] []
  begun_loading f = record {
    looked = record {
      apart = λ n m one other same. absurd (true≢false (sym one));
      among = λ n one. absurd (true≢false (sym one));
      untouched = λ told m not. refl;
      as_before = λ told m not. as_it_is disk.view (folder.files f m);
      read = λ told n. tt;
      held = λ told. tt;
      safe = λ told. tt;
    };
    each = λ told n ds good some among. absurd (true≢false (sym among));
    sound = λ told m among. absurd (true≢false (sym among));
  }

  -- one more name, that is no wavelet's file
  pub passed_over : (f g : F) (es : List (Key × Filed D disk)) (done : List (List ℕ)) (m : List ℕ) → is_file_name m ≡ false → IsLoading folder f g es done → IsLoading folder f g es (done ++ m ∷ [])
  passed_over f g es done m other x = record {
    looked = record {
      apart = x.looked.apart;
      among = λ n one. more done m (file_name_of n) (x.looked.among n one);
      untouched = λ told k not. x.looked.untouched told k (neither done m k not).0;
      as_before = x.looked.as_before;
      read = x.looked.read;
      held = x.looked.held;
      safe = x.looked.safe;
    };
    each = λ told n ds good some among. ⊎_elim
        (λ before. x.each told n ds good some before)
        (λ is. absurd (true≢false (sym (own_form n) ∙ ap is_file_name is ∙ other)))
        (split done m (file_name_of n) among);
    sound = λ told l among named offset refused. ⊎_elim
        (λ before. x.sound told l before named offset refused)
        (λ is. true≢false (sym named ∙ ap is_file_name is ∙ other))
        (split done m l among);
  }

  module _ (f g h : F) (es es' : List (Key × Filed D disk)) (done : List (List ℕ)) (m : List ℕ) (new : is_among done m ≡ false) (y : IsLoading folder f g es done) where
    x : IsLooked folder f g es done
    x = y.looked

    -- a name whose file was looked at before has another file
    not_this : (n : Key) → IsSome (found es n) → file_name_of n ≢ m
    not_this n one is = true≢false (sym (x.among n one) ∙ ap (is_among done) is ∙ new)

    untouched_on : (IsTrue disk.tells → IsElsewhere m (folder.files g) (folder.files h)) → IsTrue disk.tells → (k : List ℕ) → is_among (done ++ m ∷ []) k ≡ false → folder.files h k ≡ folder.files f k
    untouched_on others told k not = let parts = neither done m k not in others told k parts.1 ∙ x.untouched told k parts.0

    same_here : IsTrue disk.tells → folder.files g m ≡ folder.files f m
    same_here told = x.untouched told m new

    -- the file reads as before, and no history came of it
    looked_at : (IsTrue disk.tells → IsElsewhere m (folder.files g) (folder.files h)) → (IsTrue disk.tells → IsAsBefore disk.view (folder.files g m) (folder.files h m)) → IsLooked folder f h es (done ++ m ∷ [])
    looked_at others back = record {
      apart = x.apart;
      among = λ n one. more done m (file_name_of n) (x.among n one);
      untouched = untouched_on others;
      as_before = λ told k not. ⊎_elim
          (λ here. subst (λ l. IsAsBefore disk.view (folder.files f l) (folder.files h l)) (sym here) (subst (λ o. IsAsBefore disk.view o (folder.files h m)) (same_here told) (back told)))
          (λ there. subst (IsAsBefore disk.view (folder.files f k)) (sym (others told k there)) (x.as_before told k not))
          (same_or_not k m);
      read = x.read;
      held = x.held;
      safe = x.safe;
    }

    -- it wasn't read
    pub came_back : es' ≡ es → (IsTrue disk.tells → IsSome (folder.files g m)) → IsFileBack folder disk g h m → IsLooked folder f h es' (done ++ m ∷ [])
    came_back is there back = subst (λ l. IsLooked folder f h l (done ++ m ∷ [])) (sym is) (looked_at back.others (λ told. back.back told (there told)))

    -- it has no header
    pub went_past : (laws : NamedOnce) → (IsTrue disk.tells → IsElsewhere m (folder.files g) (folder.files h)) → IsPassed folder g h m es es' → IsLoading folder f h es' (done ++ m ∷ [])
    went_past laws others p =
        let back : IsLoading folder f h es (done ++ m ∷ []) = record {
          looked = looked_at others p.back;
          each = λ told n ds good some among. ⊎_elim
              (λ before. y.each told n ds good some before)
              (λ is. subst (λ l. IfSome (folder.files f l) (λ d. StandsForHistory n ds (disk.view d).seen → deltas_in (hosting es) n ≡ ds)) (sym is)
              (headless laws n ds good some (folder.files f m) (none_here told)))
              (split done m (file_name_of n) among);
          sound = λ told l among named offset refused. ⊎_elim
              (λ before. y.sound told l before named offset refused)
              (λ is. unrefused laws (folder.files f m) (none_here told) offset (subst (λ k. IsRefusedFile disk.view (folder.files f k) k offset) is refused))
              (split done m l among);
        } in
        subst (λ l. IsLoading folder f h l (done ++ m ∷ [])) (sym p.same) back
      where
        none_here : IsTrue disk.tells → IfSome (folder.files f m) (λ d. HasNoHeader (disk.view d).seen)
        none_here told = subst (λ o. IfSome o (λ d. HasNoHeader (disk.view d).seen)) (same_here told) (p.file told)

        unrefused : NamedOnce → (o : Option D) → IfSome o (λ d. HasNoHeader (disk.view d).seen) → (offset : ℕ) → IsRefusedFile disk.view o m offset → ⊥
        unrefused laws None none offset refused = refused
        unrefused laws (Some d) none offset refused = headless_whole laws m (disk.view d).seen none offset refused

        headless : (laws : NamedOnce) (n : Key) (ds : List DeltaOf) → is_wavelet_name n ≡ true → ds ≢ [] → (o : Option D) → IfSome o (λ d. HasNoHeader (disk.view d).seen) → IfSome o (λ d. StandsForHistory n ds (disk.view d).seen → deltas_in (hosting es) n ≡ ds)
        headless laws n ds good some None none = tt
        headless laws n ds good some (Some d) none = λ stands. absurd (not_headless laws n ds (disk.view d).seen good some stands none)

    -- a file whose history came to the others
    module _ (p : IsAdded folder g h m es es') (order : AreInOrder es) (order' : AreInOrder es') where
      own_file : file_name_of p.name ≡ m
      own_file = p.own.file_is

      inside : p.put.at ≤ length es
      inside = subst (λ k. p.put.at ≤ k) (length_keys es) p.put.place.inside

      lookup_new : lookup (same_text p.name) es' ≡ Some p.filed
      lookup_new = ap (lookup (same_text p.name)) p.put.is ∙ found_put es p.name p.filed p.put.at inside p.put.absent

      lookup_other : (n : Key) → n ≢ p.name → lookup (same_text n) es' ≡ lookup (same_text n) es
      lookup_other n other = ap (lookup (same_text n)) p.put.is ∙ others_put es p.name p.filed p.put.at n other inside

      new_found : found es' p.name ≡ Some p.filed.container
      new_found = ap (option_map (λ (x : Filed D disk). x.container)) lookup_new

      other_found : (n : Key) → n ≢ p.name → found es' n ≡ found es n
      other_found n other = ap (option_map (λ (x : Filed D disk). x.container)) (lookup_other n other)

      none_found : found es p.name ≡ None
      none_found = ap (option_map (λ (x : Filed D disk). x.container)) p.put.absent

      was_found : (n : Key) → IsSome (found es' n) → (n ≡ p.name) ⊎ IsSome (found es n)
      was_found n one = ⊎_elim (λ is. inl is) (λ other. inr (subst (λ o. IsSome o) (other_found n other) one)) (same_or_not n p.name)

      old_differs : (n : Key) → IsSome (found es n) → n ≢ p.name
      old_differs n one is = true≢false (sym one ∙ ap is_some (ap (found es) is ∙ none_found))

      still_found : (n : Key) → IsSome (found es n) → IsSome (found es' n)
      still_found n one = subst (λ o. IsSome o) (sym (other_found n (old_differs n one))) one

      clash : {T : Type 0} (n k : Key) → n ≡ p.name → IsSome (found es k) → file_name_of n ≡ file_name_of k → T
      clash n k is one same = absurd (not_this k one (sym same ∙ ap file_name_of is ∙ own_file))

      apart_now : (n k : Key) → IsSome (found es' n) → IsSome (found es' k) → file_name_of n ≡ file_name_of k → n ≡ k
      apart_now n k one other same = ⊎_elim
          (λ is. ⊎_elim (λ too. is ∙ sym too) (λ old. clash n k is old same) (was_found k other))
          (λ old. ⊎_elim (λ too. clash k n too old (sym same)) (λ both. x.apart n k old both same) (was_found k other))
          (was_found n one)

      among_now : (n : Key) → IsSome (found es' n) → is_among (done ++ m ∷ []) (file_name_of n) ≡ true
      among_now n one = ⊎_elim
          (λ is. subst (λ l. is_among (done ++ m ∷ []) l ≡ true) (sym (ap file_name_of is ∙ own_file)) (last done m))
          (λ old. more done m (file_name_of n) (x.among n old))
          (was_found n one)

      as_before_now : (IsTrue disk.tells → IsElsewhere m (folder.files g) (folder.files h)) → IsTrue disk.tells → (k : List ℕ) → ((n : Key) → IsSome (found es' n) → k ≢ file_name_of n) → IsAsBefore disk.view (folder.files f k) (folder.files h k)
      as_before_now others told k not =
          let there : k ≢ m = λ is. not p.name (subst (λ o. IsSome o) (sym new_found) refl) (is ∙ sym own_file) in
          subst (IsAsBefore disk.view (folder.files f k)) (sym (others told k there)) (x.as_before told k (λ n one. not n (still_found n one)))

      read_now : IsTrue disk.tells → (n : Key) → IfSome (found es' n) (IsReadFrom (folder.files f (file_name_of n)))
      read_now told n = ⊎_elim
          (λ is. subst (λ k. IfSome (found es' k) (IsReadFrom (folder.files f (file_name_of k)))) (sym is)
          (subst (λ o. IfSome o (IsReadFrom (folder.files f (file_name_of p.name)))) (sym new_found)
          (subst (λ l. IsReadFrom (folder.files f l) p.filed.container) (sym own_file) (subst (λ o. IsReadFrom o p.filed.container) (same_here told) (p.read told)))))
          (λ other. subst (λ o. IfSome o (IsReadFrom (folder.files f (file_name_of n)))) (sym (other_found n other)) (x.read told n))
          (same_or_not n p.name)

      deltas_same : (n : Key) → n ≢ p.name → deltas_in (hosting es') n ≡ deltas_in (hosting es) n
      deltas_same n other = deltas_hosting deltas_of es' n order'.0 ∙ ap (λ o. option_map_or deltas_of o []) (lookup_other n other) ∙ sym (deltas_hosting deltas_of es n order.0)

      deltas_new : deltas_in (hosting es') p.name ≡ deltas_of p.filed
      deltas_new = deltas_hosting deltas_of es' p.name order'.0 ∙ ap (λ o. option_map_or deltas_of o []) lookup_new

      each_new : NamedOnce → ((d : D) → length (disk.view d).seen < 2 ^ 64) → (n : Key) (ds : List DeltaOf) → is_wavelet_name n ≡ true → ds ≢ [] → (o : Option D) → IfSome o (λ d. HasName (Some p.name) (disk.view d).seen) → IsReadFrom o p.filed.container
          → IfSome o (λ d. StandsForHistory n ds (disk.view d).seen → deltas_in (hosting es') n ≡ ds)
      each_new laws bounded n ds good some None named read = tt
      each_new laws bounded n ds good some (Some d) named read = λ stands.
          let is : n ≡ p.name = same_name laws n ds (disk.view d).seen good some stands p.name named in
          let there : StandsForHistory n (deltas_of p.filed) (disk.view d).seen = subst (λ k. StandsForHistory k (deltas_of p.filed) (disk.view d).seen) (p.named.0 ∙ sym is) read.stands in
          ap (deltas_in (hosting es')) is ∙ deltas_new ∙ history_is_one n (disk.view d).seen (deltas_of p.filed) ds (bounded d) there stands

      sound_new : NamedOnce → ((d : D) → length (disk.view d).seen < 2 ^ 64) → (o : Option D) → IfSome o (λ d. HasName (Some p.name) (disk.view d).seen) → IsReadFrom o p.filed.container → (offset : ℕ) → IsRefusedFile disk.view o m offset → ⊥
      sound_new laws bounded None named read offset refused = refused
      sound_new laws bounded (Some d) named read offset refused =
          read_whole laws m p.name (disk.view d).seen (deltas_of p.filed) (bounded d) p.own named (subst (λ k. StandsForHistory k (deltas_of p.filed) (disk.view d).seen) p.named.0 read.stands) offset refused

      pub went_on : NamedOnce → (IsTrue disk.tells → (d : D) → length (disk.view d).seen < 2 ^ 64) → (IsTrue disk.tells → IsElsewhere m (folder.files g) (folder.files h)) → IsLoading folder f h es' (done ++ m ∷ [])
      went_on laws bounded others = record {
        looked = record {
          apart = apart_now;
          among = among_now;
          untouched = untouched_on others;
          as_before = as_before_now others;
          read = read_now;
          held = λ told. subst AreHeld (sym p.put.is) (all_put deltas_of (λ e. IsHeld e.1.container) es p.put.at (p.name, p.filed) inside (x.held told) (p.held told));
          safe = λ told. subst AreSafe (sym p.put.is) (all_put deltas_of (λ e. IsSafe e.1.container) es p.put.at (p.name, p.filed) inside (x.safe told) (p.safe told));
        };
        each = λ told n ds good some among. ⊎_elim
            (λ before. subst (λ (v : List DeltaOf). IfSome (folder.files f (file_name_of n)) (λ d. StandsForHistory n ds (disk.view d).seen → v ≡ ds))
            (sym (deltas_same n (λ is. true≢false (sym before ∙ ap (is_among done) (ap file_name_of is ∙ own_file) ∙ new))))
            (y.each told n ds good some before))
            (λ is. subst (λ l. IfSome (folder.files f l) (λ d. StandsForHistory n ds (disk.view d).seen → deltas_in (hosting es') n ≡ ds)) (sym is)
            (each_new laws (bounded told) n ds good some (folder.files f m) (header_here told) (read_here told)))
            (split done m (file_name_of n) among);
        sound = λ told l among named offset refused. ⊎_elim
            (λ before. y.sound told l before named offset refused)
            (λ is. sound_new laws (bounded told) (folder.files f m) (header_here told) (read_here told) offset (subst (λ k. IsRefusedFile disk.view (folder.files f k) k offset) is refused))
            (split done m l among);
      }
        where
          header_here : IsTrue disk.tells → IfSome (folder.files f m) (λ d. HasName (Some p.name) (disk.view d).seen)
          header_here told = subst (λ o. IfSome o (λ d. HasName (Some p.name) (disk.view d).seen)) (same_here told) (p.header told)

          read_here : IsTrue disk.tells → IsReadFrom (folder.files f m) p.filed.container
          read_here told = subst (λ o. IsReadFrom o p.filed.container) (same_here told) (p.read told)
