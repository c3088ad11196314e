-- How a shelf moves.
--     begins_itself, begins_added, begins_on     deltas that are the first of others
--     nothing_before        the first of none are none
--     other_name            names that differ
--     stays                 one that stays as it is
--     only_if               one that may move at fewer names
--     taken_in, refused_in  one that took a submission; one where it was refused
use Rattle.std.proofs.Common.{◌≡◌, ◌≢◌, ◌⊎◌, inl, inr, ◌≤◌, ℕ, Bool, true, false, List, [], ◌∷◌, ◌++◌, Option, None, Some, refl, sym, ap, subst, ◌∙◌, option_map, append-nil, arith, true≢false, append_assoc}
use Rattle.doc_items.specs.Maps.{Key, same_text}
use Rattle.wavelet_op.specs.Deltas.{DeltaOf}
use Rattle.wavelet_op.specs.declared.delta.Submission.{Submission}
use Rattle.delta_history.specs.Copying.{AreAscending}
use Rattle.disk_model.specs.declared.disk.Disk as disk_of
use Rattle.wave_outside.specs.declared.folder.Folder as folder_of
use Rattle.wavelet_shelf.specs.Folders.{IsUsedIn}
use Rattle.wavelet_shelf.specs.Hosting.{Hosted, names_of, deltas_in, judged_in, with_added, after_submission}
use Rattle.wavelet_shelf.specs.Shelves.{in_folder, hosted_of, container_in, fault_count, IsKept, IsNewFile}
use Rattle.wavelet_shelf.specs.declared.shelf.Shelf.{Shelf}
use Rattle.wavelet_shelf.proofs.Growing.{grows_alone}
use Rattle.wavelet_shelf.proofs.Names.{own, same_or_not}
use Rattle.wavelet_shelf.proofs.Still.{used_as, used_more}
use Rattle.pipe_machine.specs.Keeping.{Begins, IsFileAmong, IsMoved}

-- ---- histories

pub begins_itself : (ds : List DeltaOf) → Begins ds ds
begins_itself ds = ([], append-nil ds)

pub begins_on : (ds es fs : List DeltaOf) → Begins ds es → Begins es fs → Begins ds fs
begins_on ds es fs (a, e) (b, f) = (a ++ b, sym (append_assoc ds a b) ∙ ap (λ l. l ++ b) e ∙ f)

begins_grown : (hs : List Hosted) (n : Key) (d : DeltaOf) (m : Key) → AreAscending (names_of hs) → (m ≡ n) ⊎ (m ≢ n) → Begins (deltas_in hs m) (deltas_in (with_added hs n (Some d)) m)
begins_grown hs n d m up (inl e) = (d ∷ [], subst (λ k. deltas_in hs k ++ d ∷ [] ≡ deltas_in (with_added hs n (Some d)) k) (sym e) (sym (grows_alone.there hs n d up)))
begins_grown hs n d m up (inr o) = ([], append-nil (deltas_in hs m) ∙ sym (grows_alone.others hs n d m o))

pub begins_added : (hs : List Hosted) (n : Key) (o : Option DeltaOf) (m : Key) → AreAscending (names_of hs) → Begins (deltas_in hs m) (deltas_in (with_added hs n o) m)
begins_added hs n None m up = begins_itself (deltas_in hs m)
begins_added hs n (Some d) m up = begins_grown hs n d m up (same_or_not m n)

pub nothing_before : (ds es : List DeltaOf) → Begins ds es → es ≡ [] → ds ≡ []
nothing_before [] es p e = refl
nothing_before (d ∷ ds) es p e = absurd (let w : d ∷ (ds ++ p.0) ≡ [] = p.1 ∙ e in cc)

begins_as : (ds es fs : List DeltaOf) → es ≡ fs → Begins ds es → Begins ds fs
begins_as ds es fs e b = (b.0, b.1 ∙ e)

still_may : (a b : Bool) → (a ≡ false → b ≡ false) → b ≡ true → a ≡ true
still_may true b f e = refl
still_may false b f e = absurd (true≢false (sym e ∙ f refl))

pub other_name : (n m : Key) → same_text n m ≡ false → m ≢ n
other_name n m apart e = true≢false (sym (own n) ∙ ap (same_text n) (sym e) ∙ apart)

module _ {F D : Type 0} {folder : folder_of.Ghosts F D} {disk : disk_of.Ghosts D} where
  pub stays : (may : Key → Bool) (s : Shelf F D folder disk) → IsMoved may s s
  stays may s = record {
    grown = λ n. begins_itself (deltas_in (hosted_of s) n);
    others = λ n h. refl;
    kept = λ k. k;
    used = used_as folder (IsFileAmong may) (in_folder s);
    later = omega arith;
  }

  pub only_if : {may fewer : Key → Bool} (a b : Shelf F D folder disk) → ((n : Key) → may n ≡ false → fewer n ≡ false) → IsMoved fewer a b → IsMoved may a b
  only_if {may} {fewer} a b f m = record {
    grown = m.grown;
    others = λ n h. m.others n (f n h);
    kept = m.kept;
    used = used_more folder (IsFileAmong fewer) (IsFileAmong may) (λ l x. (x.0, still_may (may x.0) (fewer x.0) (f x.0) x.1, x.2)) (in_folder a) (in_folder b) m.used;
    later = m.later;
  }

  module _ (a b : Shelf F D folder disk) (name : Key) (others : (m : Key) → m ≢ name → container_in b m ≡ container_in a m)
      (kept : IsKept a → IsKept b) (s : Submission) (t : ℕ) (used : IsUsedIn folder (IsNewFile a name s t) (in_folder a) (in_folder b)) (later : fault_count a ≤ fault_count b) where
    used_file : IsUsedIn folder (IsFileAmong (same_text name)) (in_folder a) (in_folder b)
    used_file = used_more folder (IsNewFile a name s t) (IsFileAmong (same_text name)) (λ m e. (name, own name, e.2)) (in_folder a) (in_folder b) used

    pub taken_in : AreAscending (names_of (hosted_of a)) → hosted_of b ≡ after_submission (hosted_of a) name s t → IsMoved (same_text name) a b
    taken_in up is = record {
      grown = λ n. begins_as (deltas_in (hosted_of a) n) (deltas_in (after_submission (hosted_of a) name s t) n) (deltas_in (hosted_of b) n) (ap (λ hs. deltas_in hs n) (sym is))
          (begins_added (hosted_of a) name (judged_in (hosted_of a) name s t).1 n up);
      others = λ n apart. others n (other_name name n apart);
      kept = kept;
      used = used_file;
      later = later;
    }

    pub refused_in : hosted_of b ≡ hosted_of a → IsMoved (same_text name) a b
    refused_in is = record {
      grown = λ n. ([], append-nil (deltas_in (hosted_of a) n) ∙ ap (λ hs. deltas_in hs n) (sym is));
      others = λ n apart. others n (other_name name n apart);
      kept = kept;
      used = used_file;
      later = later;
    }
