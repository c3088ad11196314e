-- Containers that answered a submission.
--     held_after            the history stands in the journal as before
--     plain_after           without one there is none then
--     safe_file             where no repair is pending it stands in the file as that reads, and in each image
--     safe_start            so it does at the start
--     safe_after            so it does after a call that answered
--     within_after          the file then stands for the history, or for it and the delta that was accepted
--     moments_after         and so did each crash since
--     began_empty           the file was new
--     faults_later, faults_rose     the disk's count
--     name_after            the name stays
use Rattle.std.proofs.Common.{◌≡◌, ◌≤◌, inl, inr, ⊎_elim, ℕ, false, List, [], ◌∷◌, Option, Some, None, IsSome, is_some, refl, sym, subst, ◌∙◌, le_refl, true≢false, IfSome}
use Rattle.doc_items.specs.Maps.{Key}
use Rattle.wavelet_op.specs.Deltas.{DeltaOf}
use Rattle.delta_history.specs.Histories.{HistoryOf}
use Rattle.disk_model.specs.Disk.{LeavesOnly, Rose as HasRisen}
use Rattle.disk_model.specs.declared.disk.Disk.{Ghosts}
use Rattle.delta_journal.specs.Journal.{on_disk, left_over, needs_repair}
use Rattle.delta_journal.specs.declared.journal.Journal.{Journal}
use Rattle.delta_journal.proofs.Stages.{sure_stands}
use Rattle.wave_outside.specs.Counts.{Rose}
use Rattle.wave_outside.specs.Folders.{AddsOnly, IsEmptyFile}
use Rattle.wave_outside.proofs.Handing.{adds_run, adds_more}
use Rattle.wavelet_container.specs.Containers.{history_of, journal_of, OfBoth, IsHeld}
use Rattle.wavelet_container.specs.Records.{records_of}
use Rattle.wavelet_container.specs.Stores.{IsStored, IsGrownBy, IsWithin, StandsForOneMore, MayFollow}
use Rattle.wavelet_container.specs.declared.container.Container.{Container}
use Rattle.wavelet_container.proofs.Journals.{sure_images, sure_none}
use Rattle.wavelet_shelf.specs.Entries.{faults_on, IsFileWithin, BeganEmpty, IsWrittenOn, IsSafe}

no_value : {X T : Type 0} {x : X} → None ≡ Some x → T
no_value e = absurd (cc)

same_Some : {X : Type 0} {x y : X} → Some x ≡ Some y → x ≡ y
same_Some e = cc

-- nothing was left over, so what stands there more was accepted
only_added : (n : Key) (ds : List DeltaOf) (left : List (List ℕ)) (added : Option DeltaOf) → left ≡ [] → (file : List ℕ) → StandsForOneMore n ds (MayFollow left added) file → StandsForOneMore n ds (λ d. added ≡ Some d) file
only_added n ds left added none file stands = ⊎_elim (λ same. inl same) (λ more. inr (more.0, ⊎_elim (λ over. no_cons (sym none ∙ over)) (λ is. is) more.1, more.2)) stands
  where
    no_cons : {T : Type 0} {x : List ℕ} {xs : List (List ℕ)} → [] ≡ x ∷ xs → T
    no_cons e = absurd (cc)

module _ {K : Type 0} {disk : Ghosts K} where
  held_from : (g h : HistoryOf) (o p : Option (Journal K disk)) → OfBoth o p (λ i j. IsStored g i → IsStored h j) → (j : Journal K disk) → o ≡ Some j → IsStored g j → (k : Journal K disk) × (p ≡ Some k) × IsStored h k
  held_from g h None p both j e s = no_value e
  held_from g h (Some i) None both j e s = absurd both
  held_from g h (Some i) (Some k) both j e s = (k, refl, both (subst (IsStored g) (sym (same_Some e)) s))

  pub held_after : (c after : Container K disk) → OfBoth (journal_of c) (journal_of after) (λ i j. IsStored (history_of c) i → IsStored (history_of after) j) → IsHeld c → IsHeld after
  held_after c after both held = held_from (history_of c) (history_of after) (journal_of c) (journal_of after) both held.0 held.1 held.2

  plain_from : (o p : Option (Journal K disk)) (P : Journal K disk → Journal K disk → Type 0) → OfBoth o p P → is_some o ≡ false → is_some p ≡ false
  plain_from None None P both e = refl
  plain_from None (Some j) P both e = absurd both
  plain_from (Some i) p P both e = absurd (true≢false e)

  pub plain_after : (c after : Container K disk) → OfBoth (journal_of c) (journal_of after) (λ i j. IsStored (history_of c) i → IsStored (history_of after) j) → is_some (journal_of c) ≡ false → is_some (journal_of after) ≡ false
  plain_after c after both e = plain_from (journal_of c) (journal_of after) (λ i j. IsStored (history_of c) i → IsStored (history_of after) j) both e

  sure_from : (o p : Option (Journal K disk)) → OfBoth o p (λ i j. needs_repair j ≡ false) → (k : Journal K disk) → p ≡ Some k → needs_repair k ≡ false
  sure_from None None both k e = no_value e
  sure_from None (Some j) both k e = absurd both
  sure_from (Some i) None both k e = absurd both
  sure_from (Some i) (Some j) both k e = subst (λ l. needs_repair l ≡ false) (same_Some e) both

  pub safe_file : (c : Container K disk) (j : Journal K disk) → journal_of c ≡ Some j → IsStored (history_of c) j → needs_repair j ≡ false → IsSafe c
  safe_file c j is s sure = record {
    journal = j;
    is = is;
    whole = sure;
    read = record {
      stands = sure_stands j.stage (history_of c).name (records_of (history_of c).deltas) (on_disk j).seen sure s.held.empty s.held.file.now;
      legal = s.legal;
      spelled = s.spelled;
    };
    images = sure_images (history_of c) j s sure;
  }

  pub safe_start : (c : Container K disk) → IsHeld c → IfSome (journal_of c) (λ j. needs_repair j ≡ false) → IsSafe c
  safe_start c held sure = safe_file c held.0 held.1 held.2 (subst (λ o. IfSome o (λ j. needs_repair j ≡ false)) held.1 sure)

  pub safe_after : (c after : Container K disk) → OfBoth (journal_of c) (journal_of after) (λ i j. IsStored (history_of c) i → IsStored (history_of after) j) → OfBoth (journal_of c) (journal_of after) (λ i j. needs_repair j ≡ false) → IsHeld c → IsSafe after
  safe_after c after both sure held =
      let now = held_after c after both held in
      safe_file after now.0 now.1 now.2 (sure_from (journal_of c) (journal_of after) sure now.0 now.1)

  left_none : (i : Journal K disk) (o : Option (Journal K disk)) (k : Journal K disk) → o ≡ Some i → o ≡ Some k → needs_repair k ≡ false → left_over i ≡ []
  left_none i o k is also sure = sure_none i (subst (λ l. needs_repair l ≡ false) (same_Some (sym also ∙ is)) sure)

  within_from : (c : Container K disk) (o p : Option (Journal K disk)) (P : DeltaOf → Type 0) → journal_of c ≡ o
      → OfBoth o p (λ i j. IsStored (history_of c) i → left_over i ≡ [] → IsWithin (history_of c).name (history_of c).deltas P j)
      → IsHeld c → IsSafe c → IfSome p (IsWithin (history_of c).name (history_of c).deltas P)
  within_from c o None P is both held safe = tt
  within_from c None (Some j) P is both held safe = absurd both
  within_from c (Some i) (Some j) P is both held safe =
      both (subst (IsStored (history_of c)) (same_Some (sym held.1 ∙ is)) held.2) (left_none i (journal_of c) safe.journal is safe.is safe.whole)

  pub within_after : (c after : Container K disk) (added : Option DeltaOf)
      → OfBoth (journal_of c) (journal_of after) (λ i j. IsStored (history_of c) i → left_over i ≡ [] → IsWithin (history_of c).name (history_of c).deltas (λ d. added ≡ Some d) j)
      → IsHeld c → IsSafe c → IsFileWithin (history_of c).name (history_of c).deltas added after
  within_after c after added both held safe = within_from c (journal_of c) (journal_of after) (λ d. added ≡ Some d) refl both held safe

  moments_from : (c : Container K disk) (o p : Option (Journal K disk)) (added : Option DeltaOf) → journal_of c ≡ o
      → OfBoth o p (λ i j. IsStored (history_of c) i → LeavesOnly (on_disk i) (on_disk j) (StandsForOneMore (history_of c).name (history_of c).deltas (MayFollow (left_over i) added)))
      → IsHeld c → IsSafe c → OfBoth o p (λ i j. AddsOnly (on_disk i) (on_disk j) (StandsForOneMore (history_of c).name (history_of c).deltas (λ d. added ≡ Some d)))
  moments_from c None None added is both held safe = tt
  moments_from c None (Some j) added is both held safe = absurd both
  moments_from c (Some i) None added is both held safe = absurd both
  moments_from c (Some i) (Some j) added is both held safe =
      let none = left_none i (journal_of c) safe.journal is safe.is safe.whole in
      adds_more (on_disk i) (on_disk j) (StandsForOneMore (history_of c).name (history_of c).deltas (MayFollow (left_over i) added)) (StandsForOneMore (history_of c).name (history_of c).deltas (λ d. added ≡ Some d))
      (λ file. only_added (history_of c).name (history_of c).deltas (left_over i) added none file)
      (adds_run (on_disk i) (on_disk j) (StandsForOneMore (history_of c).name (history_of c).deltas (MayFollow (left_over i) added)) (both (subst (IsStored (history_of c)) (same_Some (sym held.1 ∙ is)) held.2)))

  pub moments_after : (c after : Container K disk) (added : Option DeltaOf)
      → OfBoth (journal_of c) (journal_of after) (λ i j. IsStored (history_of c) i → LeavesOnly (on_disk i) (on_disk j) (StandsForOneMore (history_of c).name (history_of c).deltas (MayFollow (left_over i) added)))
      → IsHeld c → IsSafe c → IsWrittenOn (Some c) (Some after) (StandsForOneMore (history_of c).name (history_of c).deltas (λ d. added ≡ Some d))
  moments_after c after added both held safe = moments_from c (journal_of c) (journal_of after) added refl both held safe

  began_from : (o p : Option (Journal K disk)) (P : List ℕ → Type 0) → OfBoth o p (λ i j. AddsOnly (on_disk i) (on_disk j) P) → IfSome o (λ i. IsEmptyFile (on_disk i)) → IfSome p (λ j. BeganEmpty disk.view (on_disk j) P)
  began_from None None P both empty = tt
  began_from None (Some j) P both empty = absurd both
  began_from (Some i) None P both empty = absurd both
  began_from (Some i) (Some j) P both empty = record { made = i.disk; empty = empty; moments = both }

  -- a new file, and then the one call
  pub began_empty : (c after : Container K disk) (P : List ℕ → Type 0) → IsWrittenOn (Some c) (Some after) P → IfSome (journal_of c) (λ i. IsEmptyFile (on_disk i)) → IsWrittenOn None (Some after) P
  began_empty c after P both empty = began_from (journal_of c) (journal_of after) P both empty

  pub faults_later : (o p : Option (Journal K disk)) → OfBoth o p (λ i j. (on_disk i).faults ≤ (on_disk j).faults) → faults_on o ≤ faults_on p
  faults_later None None both = le_refl 0
  faults_later None (Some j) both = absurd both
  faults_later (Some i) None both = absurd both
  faults_later (Some i) (Some j) both = both

  pub faults_rose : (o p : Option (Journal K disk)) → IsSome o → OfBoth o p (λ i j. HasRisen (on_disk i) (on_disk j)) → Rose (faults_on o) (faults_on p)
  faults_rose None p some both = absurd (true≢false (sym some))
  faults_rose (Some i) None some both = absurd both
  faults_rose (Some i) (Some j) some both = both

pub name_after : (g h : HistoryOf) (added : Option DeltaOf) → IsGrownBy g added h → h.name ≡ g.name
name_after g h None same = same.name
name_after g h (Some d) grown = grown.name
