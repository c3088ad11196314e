-- Shelves from one submission to the next.
--     after_answer        the container of the name answered
--     after_first         the name's first container did, and came to the others
--     accepted_first      a delta was, where the container has one
--     after_nothing       nothing was accepted where the name isn't there
--     looks_here          in the empty history the operations decide, and so at a shelf without the name
--     after_first_tests   there the verdict was given before they were looked at
--     begun_set, begun_put, begun_popped    each has a delta still
--     apart_after         where no name has the file of the new one, no two names have one file
use Rattle.std.proofs.Common.{◌≡◌, ◌≢◌, ◌==◌, inl, inr, ⊎_elim, ℕ, ◌+◌, ◌-◌, ◌^◌, ◌≤◌, min, Bool, true, false, List, [], ◌∷◌, ◌++◌, length, insert, Option, Some, None, Ok, Err, IsSome, IfSome, is_some, IfOk, Result, string_bytes, refl, sym, ap, subst, ◌∙◌, arith, le_refl, append-nil, true≢false}
use Rattle.std.specs.Result.{IsErrOf, IsOk}
use Rattle.std.specs.List.{position_or_len}
use Rattle.std.specs.Map.{lookup, keys_of, set_value}
use Rattle.std.specs.Option.{option_map, option_map_or, option_to_list}
use Rattle.std.specs.Cmp.Lexicographic.{slice_cmp}
use Rattle.std.specs.Ordering.{nat_cmp}
use Rattle.indexmap.specs.Calls.{IsSearchIndex}
use Rattle.indexmap.specs.IndexMap.{move_index, insert_entry, index_before}
use Rattle.std.proofs.lemmas.Bool.{eqb-true}
use Rattle.std.proofs.lemmas.Map.{keys-set_value}
use Rattle.std.proofs.lemmas.Result.{on_ok_weaker, on_err_weaker}
use Rattle.doc_items.specs.Maps.{Key, same_text}
use Rattle.wavelet_op.specs.Deltas.{DeltaOf}
use Rattle.wavelet_op.specs.declared.delta.Submission.{Submission}
use Rattle.wavelet_op.specs.declared.verdict.Verdict.{Verdict}
use Rattle.delta_history.specs.Copying.{AreAscending}
use Rattle.delta_history.specs.Histories.{HistoryOf}
use Rattle.delta_history.specs.Verdicts.{Judged, judge}
use Rattle.disk_model.specs.declared.disk.Disk as disk_of
use Rattle.delta_journal.specs.Journal.{on_disk}
use Rattle.wave_outside.specs.Counts.{Rose}
use Rattle.wave_outside.specs.Folders.{IsEmptyFile}
use Rattle.wave_outside.specs.declared.folder.Folder as folder_of
use Rattle.wavelet_container.specs.Containers.{history_of, journal_of, IsHeld}
use Rattle.wavelet_container.specs.Decisions.{judged, LooksAtOps}
use Rattle.wavelet_container.specs.Stores.{IsGrownBy, StandsForOneMore}
use Rattle.wavelet_container.specs.declared.container.Container.{Container}
use Rattle.wavelet_container.specs.declared.fault.SubmitFault.{SubmitFault}
use Rattle.wavelet_container.specs.declared.fault.SubmitFault.TheVariants.{DiskFault}
use Rattle.wavelet_shelf.specs.Entries.{found, shown, hosting, IsNamed, AreInOrder, HasDelta, HaveADelta, IsPut, faults_of, faults_in, AreHeld, AreSafe, IsFileWithin, IsWrittenOn, IsSafe, HaveRoom, FitsFolder, FitFolder}
use Rattle.wavelet_shelf.specs.FileNames.{file_name_of}
use Rattle.wavelet_shelf.specs.Folders.{IsUsedIn, IsUnmadeIn}
use Rattle.wavelet_shelf.specs.Hosting.{deltas_in, with_added, judged_in}
use Rattle.wavelet_shelf.specs.Shelves.{entries_of, in_folder, container_in, hosted_of, folder_faults, fault_count, IsKept, AreApart, IsNewFile, IsOneMoreOf}
use Rattle.wavelet_shelf.specs.Steps.{IsTaken, IsAnswered, IsHosted}
use Rattle.wavelet_shelf.specs.declared.filed.Filed.{Filed}
use Rattle.wavelet_shelf.specs.declared.shelf.Shelf.{Shelf}
use Rattle.wavelet_shelf.proofs.Answering.{name_after, began_empty}
use Rattle.wavelet_shelf.proofs.Names.{same_or_not}
use Rattle.wavelet_shelf.proofs.Placing.{deltas_hosting, after_set, same_set, after_put, none_put, all_set, all_put, all_found, found_set, others_set, found_put, others_put, length_keys, keys_ascend, front_ascends, all_front, place, put_at}
use Rattle.wavelet_shelf.proofs.Still.{used_as, used_more, used_there, unmade_as}
use Rattle.wavelet_shelf.proofs.Sums.{total, sum_set, sum_has, sum_put, sum_later, sum_rose}

no_cons : {X T : Type 0} {x : X} {xs : List X} → [] ≡ x ∷ xs → T
no_cons e = absurd (cc)

pub no_more : {T : Type 0} (ds : List DeltaOf) (d : DeltaOf) → [] ≡ ds ++ d ∷ [] → T
no_more [] d e = no_cons e
no_more (x ∷ ds) d e = no_cons e

pub same_Err : {T E : Type 0} {x y : E} → ◌≡◌ {A = Result T E} (Err x) (Err y) → x ≡ y
same_Err e = cc

pub ok_err : {T E : Type 0} {x : T} {y : E} → ◌≡◌ {A = Result T E} (Ok x) (Err y) → ⊥
ok_err e = cc

first_later : (f h w s t m : ℕ) → t ≡ s + w → f ≤ h → min (f + s) m ≤ min (h + t) m
first_later f h w s t m e le = omega (arith, e, le)

first_rose : (f h c w s t m : ℕ) → t ≡ s + w → f ≤ h → c ≡ 0 → min (c + 1) m ≤ w → min (min (f + s) m + 1) m ≤ min (h + t) m
first_rose f h c w s t m e le none rose = omega (arith, e, le, none, rose)

same_later : (f h s t m : ℕ) → t ≡ s → f ≤ h → min (f + s) m ≤ min (h + t) m
same_later f h s t m e le = omega (arith, e, le)

same_rose : (f h s t m : ℕ) → t ≡ s → min (f + 1) m ≤ h → min (min (f + s) m + 1) m ≤ min (h + t) m
same_rose f h s t m e le = omega (arith, e, le)

module _ {K : Type 0} {disk : disk_of.Ghosts K} where
  abbrev pub deltas_of : Filed K disk → List DeltaOf
  deltas_of f = (history_of f.container).deltas

  abbrev pub count_of : Filed K disk → ℕ
  count_of f = faults_of f.container

  pub faults_total : (es : List (Key × Filed K disk)) → faults_in es ≡ total count_of es
  faults_total [] = refl
  faults_total (e ∷ es) = ap (λ n. faults_of e.1.container + n) (faults_total es)

  -- what a container judges is what the shelf does
  judged_same : (es : List (Key × Filed K disk)) (n : Key) (s : Submission) (t : ℕ) (c : Container K disk) → (history_of c).name ≡ n → deltas_in (hosting es) n ≡ (history_of c).deltas → judged (history_of c) s t ≡ judged_in (hosting es) n s t
  judged_same es n s t c name deltas = λ i. judge (name i) (sym deltas i) s t

  within_as : (es : List (Key × Filed K disk)) (n : Key) (s : Submission) (t : ℕ) (c after : Container K disk) → (history_of c).name ≡ n → deltas_in (hosting es) n ≡ (history_of c).deltas
      → IsFileWithin (history_of c).name (history_of c).deltas (judged (history_of c) s t).1 after → IsFileWithin n (deltas_in (hosting es) n) (judged_in (hosting es) n s t).1 after
  within_as es n s t c after name deltas w = subst (λ (x : Key × List DeltaOf). IsFileWithin x.0 x.1 (judge x.0 x.1 s t).1 after) (λ i. (name i, sym deltas i)) w

  written_as : (es : List (Key × Filed K disk)) (n : Key) (s : Submission) (t : ℕ) (c : Container K disk) (Q : (List ℕ → Type 0) → Type 0) → (history_of c).name ≡ n → deltas_in (hosting es) n ≡ (history_of c).deltas
      → Q (StandsForOneMore (history_of c).name (history_of c).deltas (λ d. (judged (history_of c) s t).1 ≡ Some d)) → Q (StandsForOneMore n (deltas_in (hosting es) n) (λ d. (judged_in (hosting es) n s t).1 ≡ Some d))
  written_as es n s t c Q name deltas w = subst (λ (x : Key × List DeltaOf). Q (StandsForOneMore x.0 x.1 (λ d. (judge x.0 x.1 s t).1 ≡ Some d))) (λ i. (name i, sym deltas i)) w

  -- without a container there is nothing to say of its file
  within_none : (es : List (Key × Filed K disk)) (n : Key) (P : Container K disk → Type 0) → lookup (same_text n) es ≡ None → IfSome (found es n) P
  within_none es n P absent = subst (λ o. IfSome o P) (sym (ap (λ o. option_map (λ (f : Filed K disk). f.container) o) absent)) tt

  -- ---- the container of a name that is there

  module _ (es : List (Key × Filed K disk)) (n : Key) (old new : Filed K disk) (order : AreInOrder es) (was : lookup (same_text n) es ≡ Some old) where
    set_grown : (added : Option DeltaOf) → IsGrownBy (history_of old.container) added (history_of new.container) → hosting (set_value (same_text n) es new) ≡ with_added (hosting es) n added
    set_grown None same = ap shown (same_set deltas_of es n old new was same.deltas)
    set_grown (Some d) grown = after_set deltas_of es n old new d order.0 was grown.deltas

    old_deltas : deltas_in (hosting es) n ≡ (history_of old.container).deltas
    old_deltas = deltas_hosting deltas_of es n order.0 ∙ ap (λ o. option_map_or deltas_of o []) was

    old_name : (history_of old.container).name ≡ n
    old_name = (all_found deltas_of IsNamed es n old order.1 was).0

  -- the name stays
  taken_name : (s : Submission) (t : ℕ) (c after : Container K disk) (r : Result Verdict SubmitFault) → IsTaken s t c after r → (history_of after).name ≡ (history_of c).name
  taken_name s t c after (Ok v) x = name_after (history_of c) (history_of after) (judged (history_of c) s t).1 x.grown
  taken_name s t c after (Err e) x = x.same.name

-- ---- the folder

module _ {F D : Type 0} {disk : disk_of.Ghosts D} (room : F → List ℕ → Bool) where
  abbrev Fits : Option F → Key × Filed D disk → Type 0
  Fits folder e = FitsFolder room folder e

  pub folder_there : (folder : Option F) (es : List (Key × Filed D disk)) (n : Key) (old : Filed D disk) → lookup (same_text n) es ≡ Some old → FitFolder room folder es → IsSome (journal_of old.container) → IsSome folder
  folder_there None es n old was fit some = absurd (true≢false (sym some ∙ all_found deltas_of (λ e. Fits None e) es n old fit was))
  folder_there (Some f) es n old was fit some = refl

  fits_still : (folder : Option F) (n : Key) (old new : Filed D disk) → (is_some (journal_of old.container) ≡ false → is_some (journal_of new.container) ≡ false) → Fits folder (n, old) → Fits folder (n, new)
  fits_still None n old new plain fits = plain fits
  fits_still (Some f) n old new plain fits = fits

  pub fit_set : (folder : Option F) (es es' : List (Key × Filed D disk)) (n : Key) (old new : Filed D disk) → lookup (same_text n) es ≡ Some old → es' ≡ set_value (same_text n) es new
      → (is_some (journal_of old.container) ≡ false → is_some (journal_of new.container) ≡ false) → FitFolder room folder es → FitFolder room folder es'
  fit_set folder es es' n old new was is plain fit =
      subst (λ l. FitFolder room folder l) (sym is) (all_set deltas_of (λ e. Fits folder e) es n new fit (fits_still folder n old new plain (all_found deltas_of (λ e. Fits folder e) es n old fit was)))

  pub fit_put : (folder : Option F) (es es' : List (Key × Filed D disk)) (n : Key) (filed : Filed D disk) → IsPut n filed es es' → FitsFolder room folder (n, filed) → FitFolder room folder es → FitFolder room folder es'
  fit_put folder es es' n filed put fits fit =
      subst (λ l. FitFolder room folder l) (sym put.is) (all_put deltas_of (λ e. Fits folder e) es put.at (n, filed) (subst (λ k. put.at ≤ k) (length_keys es) put.place.inside) fit fits)

  pub fits_there : (folder : Option F) (e : Key × Filed D disk) → IsSome folder → IfSome folder (λ f. room f (file_name_of e.0) ≡ true) → FitsFolder room folder e
  fits_there None e some here = absurd (true≢false (sym some))
  fits_there (Some f) e some here = here

  pub fits_plain : (folder : Option F) (e : Key × Filed D disk) → folder ≡ None → is_some (journal_of e.1.container) ≡ false → FitsFolder room folder e
  fits_plain None e none plain = plain
  fits_plain (Some f) e none plain = absurd (true≢false (ap is_some none))

  pub room_kept : (f g : F) (es : List (Key × Filed D disk)) → ((m : List ℕ) → room f m ≡ true → room g m ≡ true) → HaveRoom (room f) es → HaveRoom (room g) es
  room_kept f g [] keeps there = tt
  room_kept f g (e ∷ es) keeps there = (keeps (file_name_of e.0) there.0, room_kept f g es keeps there.1)

-- ---- shelves

module _ {F D : Type 0} {folder : folder_of.Ghosts F D} {disk : disk_of.Ghosts D} (a b : Shelf F D folder disk) (n : Key) (s : Submission) (t : ℕ) where
  told_by : (c : Container D disk) → judged (history_of c) s t ≡ judged_in (hosted_of a) n s t → (r : Result Verdict SubmitFault) → IfOk r (λ v. v ≡ (judged (history_of c) s t).0) → IfOk r (λ v. v ≡ (judged_in (hosted_of a) n s t).0)
  told_by c same r v = subst (λ (j : Judged). IfOk r (λ v. v ≡ j.0)) same v

  pub after_answer : (r : Result Verdict SubmitFault) → AreInOrder (entries_of a) → FitFolder folder.room (in_folder a) (entries_of a) → in_folder b ≡ in_folder a → IsAnswered n s t (entries_of a) (entries_of b) r → IsHosted n s t a b r
  after_answer r order fit same x =
      let es = entries_of a in
      let c = x.old.container in
      let judges = judged_same es n s t c (old_name es n x.old x.new order x.was) (old_deltas es n x.old x.new order x.was) in
      let sums = ap (λ m. m + faults_of c) (ap faults_in x.is ∙ faults_total (set_value (same_text n) es x.new)) ∙ sum_set count_of es n x.old x.new x.was ∙ ap (λ m. m + faults_of x.new.container) (sym (faults_total es)) in
      record {
        verdict = told_by c judges r x.taken.verdict;
        grown = on_ok_weaker r
            (λ grown. ap hosting x.is ∙ set_grown es n x.old x.new order x.was (judged (history_of c) s t).1 grown ∙ ap (λ (j : Judged). with_added (hosting es) n j.1) judges)
            x.taken.grown;
        same = on_err_weaker r (λ same. ap hosting x.is ∙ ap shown (same_set deltas_of es n x.old x.new x.was same.deltas)) x.taken.same;
        others = λ m other. ap (λ l. found l m) x.is ∙ ap (λ o. option_map (λ f. f.container) o) (others_set es n x.new m other);
        begun = λ some. inl (ap is_some (ap (λ o. option_map (λ (f : Filed D disk). f.container) o) x.was));
        kept = λ k. record {
          told = k.told;
          filed = subst (λ o. IsSome o) (sym same) k.filed;
          held = subst AreHeld (sym x.is) (all_set deltas_of (λ e. IsHeld e.1.container) es n x.new k.held (x.taken.held (all_found deltas_of (λ e. IsHeld e.1.container) es n x.old k.held x.was)));
        };
        safe = on_ok_weaker r
            (λ safe k. subst (λ o. IfSome o IsSafe) (sym (ap (λ l. found l n) x.is ∙ ap (λ o. option_map (λ f. f.container) o) (found_set es n x.old x.new x.was))) (safe (all_found deltas_of (λ e. IsHeld e.1.container) es n x.old k.held x.was)))
            x.taken.safe;
        settled = on_ok_weaker r
            (λ safe k settled. subst AreSafe (sym x.is) (all_set deltas_of (λ e. IsSafe e.1.container) es n x.new settled (safe (all_found deltas_of (λ e. IsHeld e.1.container) es n x.old k.held x.was))))
            x.taken.safe;
        late = λ e. subst LooksAtOps judges (x.taken.late e);
        untouched = λ e k settled. subst AreSafe (sym x.is) (all_set deltas_of (λ e. IsSafe e.1.container) es n x.new settled (x.taken.untouched e (all_found deltas_of (λ e. IsHeld e.1.container) es n x.old k.held x.was)));
        within = λ k settled.
            let left = x.taken.within (all_found deltas_of (λ e. IsHeld e.1.container) es n x.old k.held x.was) (all_found deltas_of (λ e. IsSafe e.1.container) es n x.old settled x.was) in
            subst (λ o. IfSome o (IsFileWithin n (deltas_in (hosting es) n) (judged_in (hosting es) n s t).1)) (sym (ap (λ l. found l n) x.is ∙ ap (λ o. option_map (λ f. f.container) o) (found_set es n x.old x.new x.was)))
            (within_as es n s t c x.new.container (old_name es n x.old x.new order x.was) (old_deltas es n x.old x.new order x.was) left);
        later = sum_later (folder_faults folder.faults (in_folder a)) (folder_faults folder.faults (in_folder b)) (faults_of c) (faults_of x.new.container) (faults_in es) (faults_in (entries_of b)) (2 ^ 64 - 1) sums x.taken.later (subst (λ o. folder_faults folder.faults (in_folder a) ≤ folder_faults folder.faults o) (sym same) (le_refl _));
        failed = λ e. subst (λ o. Rose (fault_count a) (min (folder_faults folder.faults o + faults_in (entries_of b)) (2 ^ 64 - 1))) (sym same)
            (sum_rose (folder_faults folder.faults (in_folder a)) (faults_of c) (faults_of x.new.container) (faults_in es) (faults_in (entries_of b)) (2 ^ 64 - 1) sums (subst (λ m. faults_of c ≤ m) (sym (faults_total es)) (sum_has count_of es n x.old x.was)) (x.taken.failed e));
        disk_there = λ e. folder_there folder.room (in_folder a) es n x.old x.was fit (x.taken.filed e);
        moments = λ k settled.
            let written = x.taken.moments (all_found deltas_of (λ e. IsHeld e.1.container) es n x.old k.held x.was) (all_found deltas_of (λ e. IsSafe e.1.container) es n x.old settled x.was) in
            subst (λ o. IsWrittenOn (container_in a n) o (IsOneMoreOf a n s t)) (sym (ap (λ l. found l n) x.is ∙ ap (λ o. option_map (λ f. f.container) o) (found_set es n x.old x.new x.was)))
            (subst (λ o. IsWrittenOn o (Some x.new.container) (IsOneMoreOf a n s t)) (sym (ap (λ o. option_map (λ (f : Filed D disk). f.container) o) x.was))
            (written_as es n s t c (λ P. IsWrittenOn (Some c) (Some x.new.container) P) (old_name es n x.old x.new order x.was) (old_deltas es n x.old x.new order x.was) written));
        used = subst (λ o. IsUsedIn folder (IsNewFile a n s t) (in_folder a) o) (sym same) (used_as folder (IsNewFile a n s t) (in_folder a));
        unmade = λ none. subst (λ o. IsUnmadeIn folder disk (file_name_of n) (in_folder a) o) (sym same) (unmade_as folder disk (file_name_of n) (in_folder a));
      }

  -- what is known of the first container of a name
  pub record IsFirst (c : Container D disk) : Type 0 where
    pub name : (history_of c).name ≡ n
    pub empty : (history_of c).deltas ≡ []
    pub held : IsKept a → IsHeld c
    pub safe : IsKept a → IsSafe c
    pub fresh : IsKept a → IfSome (journal_of c) (λ j. IsEmptyFile (on_disk j))
    pub unfailed : faults_of c ≡ 0

  put_grown : (filed : Filed D disk) (c : Container D disk) → AreInOrder (entries_of a) → IsPut n filed (entries_of a) (entries_of b) → (history_of c).deltas ≡ [] → (added : Option DeltaOf) → IsGrownBy (history_of c) added (history_of filed.container) → hosted_of b ≡ with_added (hosted_of a) n added
  put_grown filed c order put empty None same = ap hosting put.is ∙ none_put deltas_of (entries_of a) n filed put.at order.0 put.absent put.place (same.deltas ∙ empty)
  put_grown filed c order put empty (Some d) grown = ap hosting put.is ∙ after_put deltas_of (entries_of a) n filed put.at d order.0 put.absent put.place (grown.deltas ∙ ap (λ ds. ds ++ d ∷ []) empty)

  pub after_first : (r : Result Verdict SubmitFault) (c : Container D disk) (filed : Filed D disk) → AreInOrder (entries_of a) → IsSome (judged_in (hosted_of a) n s t).1 → (IsErrOf r DiskFault → IsSome (in_folder a)) → IsUsedIn folder (λ m. m ≡ file_name_of n) (in_folder a) (in_folder b) → folder_faults folder.faults (in_folder a) ≤ folder_faults folder.faults (in_folder b)
      → IsFirst c → IsTaken s t c filed.container r → IsPut n filed (entries_of a) (entries_of b) → IsHosted n s t a b r
  after_first r c filed order accepted there same counts first taken put =
      let es = entries_of a in
      let inside = subst (λ k. put.at ≤ k) (length_keys es) put.place.inside in
      let none = deltas_hosting deltas_of es n order.0 ∙ ap (λ o. option_map_or deltas_of o []) put.absent in
      let judges = judged_same es n s t c first.name (none ∙ sym first.empty) in
      let there_now : container_in b n ≡ Some filed.container = ap (λ l. found l n) put.is ∙ ap (λ o. option_map (λ f. f.container) o) (found_put es n filed put.at inside put.absent) in
      let not_there : container_in a n ≡ None = ap (λ o. option_map (λ (f : Filed D disk). f.container) o) put.absent in
      let sums : faults_in (entries_of b) ≡ faults_in es + faults_of filed.container = ap faults_in put.is ∙ faults_total (insert es put.at (n, filed)) ∙ sum_put count_of es put.at (n, filed) inside ∙ ap (λ m. m + faults_of filed.container) (sym (faults_total es)) in
      record {
        verdict = told_by c judges r taken.verdict;
        grown = on_ok_weaker r
            (λ grown. put_grown filed c order put first.empty (judged (history_of c) s t).1 grown ∙ ap (λ (j : Judged). with_added (hosting es) n j.1) judges)
            taken.grown;
        same = on_err_weaker r (λ same. put_grown filed c order put first.empty None same) taken.same;
        others = λ m other. ap (λ l. found l m) put.is ∙ ap (λ o. option_map (λ f. f.container) o) (others_put es n filed put.at m other inside);
        begun = λ some. inr accepted;
        kept = λ k. record {
          told = k.told;
          filed = (used_there folder (λ m. m ≡ file_name_of n) (in_folder a) (in_folder b) same).0 k.filed;
          held = subst AreHeld (sym put.is) (all_put deltas_of (λ e. IsHeld e.1.container) es put.at (n, filed) inside k.held (taken.held (first.held k)));
        };
        safe = on_ok_weaker r
            (λ safe k. subst (λ o. IfSome o IsSafe) (sym there_now) (safe (first.held k)))
            taken.safe;
        settled = on_ok_weaker r
            (λ safe k settled. subst AreSafe (sym put.is) (all_put deltas_of (λ e. IsSafe e.1.container) es put.at (n, filed) inside settled (safe (first.held k))))
            taken.safe;
        late = λ e. subst LooksAtOps judges (taken.late e);
        untouched = λ e k settled. subst AreSafe (sym put.is) (all_put deltas_of (λ e. IsSafe e.1.container) es put.at (n, filed) inside settled (taken.untouched e (first.held k)));
        within = λ k settled.
            subst (λ o. IfSome o (IsFileWithin n (deltas_in (hosting es) n) (judged_in (hosting es) n s t).1)) (sym there_now)
            (within_as es n s t c filed.container first.name (none ∙ sym first.empty) (taken.within (first.held k) (first.safe k)));
        later = first_later (folder_faults folder.faults (in_folder a)) (folder_faults folder.faults (in_folder b)) (faults_of filed.container) (faults_in es) (faults_in (entries_of b)) (2 ^ 64 - 1) sums counts;
        failed = λ e. first_rose (folder_faults folder.faults (in_folder a)) (folder_faults folder.faults (in_folder b)) (faults_of c) (faults_of filed.container) (faults_in es) (faults_in (entries_of b)) (2 ^ 64 - 1) sums counts first.unfailed (taken.failed e);
        moments = λ k settled.
            let written = began_empty c filed.container (StandsForOneMore (history_of c).name (history_of c).deltas (λ d. (judged (history_of c) s t).1 ≡ Some d)) (taken.moments (first.held k) (first.safe k)) (first.fresh k) in
            subst (λ o. IsWrittenOn (container_in a n) o (IsOneMoreOf a n s t)) (sym there_now)
            (subst (λ o. IsWrittenOn o (Some filed.container) (IsOneMoreOf a n s t)) (sym not_there)
            (written_as es n s t c (λ P. IsWrittenOn None (Some filed.container) P) first.name (none ∙ sym first.empty) written));
        disk_there = there;
        used = used_more folder (λ m. m ≡ file_name_of n) (IsNewFile a n s t) (λ m is. (not_there, accepted, is)) (in_folder a) (in_folder b) same;
        unmade = λ none. absurd (true≢false (ap is_some (sym there_now ∙ none)));
      }

  abbrev NoneShares : Type 0
  NoneShares = (m : Key) → IsSome (container_in a m) → file_name_of m ≡ file_name_of n → m ≡ n

  still_there : ((m : Key) → m ≢ n → container_in b m ≡ container_in a m) → (m : Key) → m ≢ n → IsSome (container_in b m) → IsSome (container_in a m)
  still_there others m other some = subst (λ o. IsSome o) (others m other) some

  pub apart_after : ((m : Key) → m ≢ n → container_in b m ≡ container_in a m) → AreApart a → NoneShares → AreApart b
  apart_after others apart alone k m one two same = ⊎_elim
      (λ is. ⊎_elim
      (λ too. is ∙ sym too)
      (λ other. is ∙ sym (alone m (still_there others m other two) (sym same ∙ ap file_name_of is)))
      (same_or_not m n))
      (λ other. ⊎_elim
      (λ too. alone k (still_there others k other one) (same ∙ ap file_name_of too) ∙ sym too)
      (λ rest. apart k m (still_there others k other one) (still_there others m rest two) same)
      (same_or_not m n))
      (same_or_not k n)

module _ {F D : Type 0} {folder : folder_of.Ghosts F D} {disk : disk_of.Ghosts D} (a : Shelf F D folder disk) (n : Key) (s : Submission) (t : ℕ) where
  nothing_added : (c after : Container D disk) (added : Option DeltaOf) → IsGrownBy (history_of c) added (history_of after) → (history_of after).deltas ≡ [] → added ≡ None
  nothing_added c after None same none = refl
  nothing_added c after (Some d) grown none = no_more (history_of c).deltas d (sym none ∙ grown.deltas)

  accepted_one : (c after : Container D disk) (added : Option DeltaOf) → IsGrownBy (history_of c) added (history_of after) → (history_of c).deltas ≡ [] → ((history_of after).deltas ≡ [] → ⊥) → IsSome added
  accepted_one c after None same empty some = absurd (some (same.deltas ∙ empty))
  accepted_one c after (Some d) grown empty some = refl

  -- a delta was accepted, where the container has one then
  pub accepted_first : (v : Verdict) (c after : Container D disk) → AreInOrder (entries_of a) → lookup (same_text n) (entries_of a) ≡ None → (history_of c).name ≡ n → (history_of c).deltas ≡ [] → IsTaken s t c after (Ok v) → ((history_of after).deltas ≡ [] → ⊥)
      → IsSome (judged_in (hosted_of a) n s t).1
  accepted_first v c after order absent name empty taken some =
      let es = entries_of a in
      let nowhere = deltas_hosting deltas_of es n order.0 ∙ ap (λ o. option_map_or deltas_of o []) absent in
      let judges = judged_same es n s t c name (nowhere ∙ sym empty) in
      subst (λ (j : Judged). IsSome j.1) judges (accepted_one c after (judged (history_of c) s t).1 taken.grown empty some)

  pub after_nothing : (v : Verdict) (c after : Container D disk) → AreInOrder (entries_of a) → lookup (same_text n) (entries_of a) ≡ None → (history_of c).name ≡ n → (history_of c).deltas ≡ [] → IsTaken s t c after (Ok v) → (history_of after).deltas ≡ [] → IsHosted n s t a a (Ok v)
  after_nothing v c after order absent name empty taken none =
      let es = entries_of a in
      let nowhere = deltas_hosting deltas_of es n order.0 ∙ ap (λ o. option_map_or deltas_of o []) absent in
      let judges = judged_same es n s t c name (nowhere ∙ sym empty) in
      let nothing = nothing_added c after (judged (history_of c) s t).1 taken.grown none in
      record {
        verdict = taken.verdict ∙ ap (λ (j : Judged). j.0) judges;
        grown = ap (with_added (hosting es) n) (sym nothing) ∙ ap (λ (j : Judged). with_added (hosting es) n j.1) judges;
        same = tt;
        others = λ m other. refl;
        begun = λ some. inl some;
        kept = λ k. k;
        safe = λ k. subst (λ o. IfSome o IsSafe) (sym (ap (λ o. option_map (λ (f : Filed D disk). f.container) o) absent)) tt;
        settled = λ k settled. settled;
        late = λ r. absurd (ok_err r);
        untouched = λ r. absurd (ok_err r);
        within = λ k settled. within_none (entries_of a) n _ absent;
        moments = λ k settled. subst (λ o. IsWrittenOn o o (IsOneMoreOf a n s t)) (sym (ap (λ o. option_map (λ (f : Filed D disk). f.container) o) absent)) tt;
        later = le_refl _;
        failed = λ r. absurd (ok_err r);
        disk_there = λ r. absurd (ok_err r);
        used = used_as folder (IsNewFile a n s t) (in_folder a);
        unmade = λ none. unmade_as folder disk (file_name_of n) (in_folder a);
      }

  nowhere : AreInOrder (entries_of a) → lookup (same_text n) (entries_of a) ≡ None → judge n [] s t ≡ judged_in (hosted_of a) n s t
  nowhere order absent = ap (λ ds. judge n ds s t) (sym (deltas_hosting deltas_of (entries_of a) n order.0 ∙ ap (λ o. option_map_or deltas_of o []) absent))

  -- what decides in the empty history does so at the shelf, where the name isn't there
  pub looks_here : AreInOrder (entries_of a) → lookup (same_text n) (entries_of a) ≡ None → LooksAtOps (judge n [] s t) → LooksAtOps (judged_in (hosted_of a) n s t)
  looks_here order absent looks = subst LooksAtOps (nowhere order absent) looks

  -- the verdict was given before the operations were looked at
  pub after_first_tests : (v : Verdict) → AreInOrder (entries_of a) → lookup (same_text n) (entries_of a) ≡ None → judge n [] s t ≡ (v, None) → IsHosted n s t a a (Ok v)
  after_first_tests v order absent told =
      let is : (v, None) ≡ judged_in (hosted_of a) n s t = sym told ∙ nowhere order absent in
      record {
        verdict = ap (λ (j : Judged). j.0) is;
        grown = ap (λ (j : Judged). with_added (hosted_of a) n j.1) is;
        same = tt;
        others = λ m other. refl;
        begun = λ some. inl some;
        kept = λ k. k;
        safe = λ k. subst (λ o. IfSome o IsSafe) (sym (ap (λ o. option_map (λ (f : Filed D disk). f.container) o) absent)) tt;
        settled = λ k settled. settled;
        late = λ r. absurd (ok_err r);
        untouched = λ r. absurd (ok_err r);
        within = λ k settled. within_none (entries_of a) n _ absent;
        moments = λ k settled. subst (λ o. IsWrittenOn o o (IsOneMoreOf a n s t)) (sym (ap (λ o. option_map (λ (f : Filed D disk). f.container) o) absent)) tt;
        later = le_refl _;
        failed = λ r. absurd (ok_err r);
        disk_there = λ r. absurd (ok_err r);
        used = used_as folder (IsNewFile a n s t) (in_folder a);
        unmade = λ none. unmade_as folder disk (file_name_of n) (in_folder a);
      }

-- ---- their order

module _ {D : Type 0} {disk : disk_of.Ghosts D} where
  pub order_set : (s : Submission) (t : ℕ) (es es' : List (Key × Filed D disk)) (n : Key) (r : Result Verdict SubmitFault) → IsAnswered n s t es es' r → AreInOrder es → AreInOrder es'
  order_set s t es es' n r x order =
      let named = all_found deltas_of IsNamed es n x.old order.1 x.was in
      subst AreInOrder (sym x.is) (
        subst AreAscending (sym (keys-set_value (same_text n) es x.new)) order.0,
        all_set deltas_of IsNamed es n x.new order.1 (taken_name s t x.old.container x.new.container r x.taken ∙ named.0, ap string_bytes x.file ∙ named.1),
      )

  pub order_put : (es es' : List (Key × Filed D disk)) (n : Key) (filed : Filed D disk) → IsPut n filed es es' → IsNamed (n, filed) → AreInOrder es → AreInOrder es'
  order_put es es' n filed put named order = subst AreInOrder (sym put.is) (
    keys_ascend deltas_of es n filed put.at order.0 put.place,
    all_put deltas_of IsNamed es put.at (n, filed) (subst (λ k. put.at ≤ k) (length_keys es) put.place.inside) order.1 named,
  )

  pub order_front : (es : List (Key × Filed D disk)) (e : Key × Filed D disk) → AreInOrder (es ++ e ∷ []) → AreInOrder es
  order_front es e order = (front_ascends es e order.0, all_front IsNamed es e order.1)

  pub order_popped : (es es' : List (Key × Filed D disk)) (o : Option (Key × Filed D disk)) → es ≡ es' ++ option_to_list o → AreInOrder es → AreInOrder es'
  order_popped es es' None is order = subst AreInOrder (is ∙ append-nil es') order
  order_popped es es' (Some e) is order = order_front es' e (subst AreInOrder is order)

  -- what `insert_sorted` made of the entries
  pub put_sorted : {E : Type 0} (es es' : List (Key × Filed D disk)) (n : Key) (filed : Filed D disk) (r : Result (ℕ × Option (Filed D disk)) E) → AreAscending (keys_of es) → lookup (same_text n) es ≡ None → IsOk r
      → IfOk r (λ p. es' ≡ move_index (insert_entry same_text es n filed) (position_or_len (same_text n) (keys_of es)) p.0)
      → IfOk r (λ p. (i : ℕ) × IsSearchIndex (λ k. slice_cmp nat_cmp k n) (keys_of es) i × (p.0 ≡ index_before (position_or_len (same_text n) (keys_of es)) i)) → IsPut n filed es es'
  put_sorted es es' n filed (Ok p) a none went entries index = record {
    at = index.0;
    place = place es n index.0 a none index.1;
    absent = none;
    is = entries ∙ put_at es n filed index.0 p.0 none index.1.0 index.2;
  }
  put_sorted es es' n filed (Err e) a none went entries index = absurd (true≢false (sym went))

  -- the entry came to those of another moment, which are the same
  pub put_from : (es m after : List (Key × Filed D disk)) (n k : Key) (filed : Filed D disk) → m ≡ es → k ≡ n → IsPut k filed m after → IsPut n filed es after
  put_from es m after n k filed is key put = subst (λ l. IsPut n filed l after) is (subst (λ x. IsPut x filed m after) key put)

pub none_of : {X : Type 0} (o : Option X) → is_some o ≡ false → o ≡ None
none_of None e = refl
none_of (Some x) e = absurd (true≢false e)

pub empty_list : {X : Type 0} (xs : List X) → (length xs == 0) ≡ true → xs ≡ []
empty_list [] e = refl
empty_list (x ∷ xs) e = let none = eqb-true (length (x ∷ xs)) 0 e in absurd (omega (arith, none))

-- ---- whether each has a delta

not_empty : {X : Type 0} (xs : List X) → (xs ≡ [] → ⊥) → (length xs == 0) ≡ false
not_empty xs some = go (length xs == 0) refl
  where
    go : (b : Bool) → (length xs == 0) ≡ b → (length xs == 0) ≡ false
    go true e = absurd (some (empty_list xs e))
    go false e = e

grown_begun : (g h : HistoryOf) (added : Option DeltaOf) → IsGrownBy g added h → (length g.deltas == 0) ≡ false → (length h.deltas == 0) ≡ false
grown_begun g h None same some = ap (λ (ds : List DeltaOf). length ds == 0) same.deltas ∙ some
grown_begun g h (Some d) grown some = ap (λ (ds : List DeltaOf). length ds == 0) grown.deltas ∙ not_empty (g.deltas ++ d ∷ []) (λ none. no_more g.deltas d (sym none))

module _ {D : Type 0} {disk : disk_of.Ghosts D} where
  taken_begun : (s : Submission) (t : ℕ) (c after : Container D disk) (r : Result Verdict SubmitFault) → IsTaken s t c after r → (length (history_of c).deltas == 0) ≡ false → (length (history_of after).deltas == 0) ≡ false
  taken_begun s t c after (Ok v) taken some = grown_begun (history_of c) (history_of after) (judged (history_of c) s t).1 taken.grown some
  taken_begun s t c after (Err e) taken some = ap (λ (ds : List DeltaOf). length ds == 0) taken.same.deltas ∙ some

  pub begun_set : (s : Submission) (t : ℕ) (es es' : List (Key × Filed D disk)) (n : Key) (r : Result Verdict SubmitFault) → IsAnswered n s t es es' r → HaveADelta es → HaveADelta es'
  begun_set s t es es' n r x begun =
      subst HaveADelta (sym x.is) (all_set deltas_of HasDelta es n x.new begun (taken_begun s t x.old.container x.new.container r x.taken (all_found deltas_of HasDelta es n x.old begun x.was)))

  pub begun_put : (es es' : List (Key × Filed D disk)) (n : Key) (filed : Filed D disk) → IsPut n filed es es' → HaveADelta es → HasDelta (n, filed) → HaveADelta es'
  begun_put es es' n filed put begun some = subst HaveADelta (sym put.is) (all_put deltas_of HasDelta es put.at (n, filed) (subst (λ k. put.at ≤ k) (length_keys es) put.place.inside) begun some)

  pub begun_popped : (es es' : List (Key × Filed D disk)) (o : Option (Key × Filed D disk)) → es ≡ es' ++ option_to_list o → HaveADelta es → HaveADelta es'
  begun_popped es es' None is begun = subst HaveADelta (is ∙ append-nil es') begun
  begun_popped es es' (Some e) is begun = all_front HasDelta es' e (subst HaveADelta is begun)
