-- Steps that failed, or were tried and failed later.
--     settled_files     where each history stands in its file, and no repair waits
--     tried_still       nothing happened
--     tried_done        the step was done, and what follows failed
--     tried_refused     a submission was refused for a fault
--     tried_as          the step leads to the same histories
--     begun_more        what came for names with a delta, in longer histories
--     begun_both        by one step and another
--     unmade_else       a file that may not change is as it was
--     stepped_still, stepped_done    each crash meanwhile: nothing happened; a submission did, or was refused
--     stepped_as        the step leads to the same histories
--     ended_memory      a step that there was no memory for
--     ended_still, ended_done    nothing happened; a step was done
--     ended_as          a step that failed leads to the same histories, and its fault was handed on
use Rattle.std.proofs.Common.{◌≡◌, ◌≢◌, ◌⊎◌, inl, inr, ⊎_elim, true≢false, IsSome, is_some, ℕ, List, [], ◌∷◌, ◌++◌, Option, Some, None, IfSome, Result, Ok, Err, refl, sym, ap, subst, ◌∙◌, option_map}
use Rattle.std.specs.Map.{lookup}
use Rattle.std.specs.Option.{option_map_or}
use Rattle.doc_items.specs.Maps.{Key, same_text}
use Rattle.wavelet_op.specs.Deltas.{DeltaOf}
use Rattle.wavelet_op.specs.declared.delta.Submission.{Submission}
use Rattle.delta_history.specs.Copying.{AreAscending}
use Rattle.disk_model.specs.Disk.{Kept}
use Rattle.disk_model.specs.declared.disk.Disk as disk_of
use Rattle.delta_journal.specs.Journal.{on_disk}
use Rattle.delta_journal.specs.declared.journal.Journal.{Journal}
use Rattle.wave_outside.specs.declared.folder.Folder as folder_of
use Rattle.wavelet_container.specs.Containers.{history_of, journal_of}
use Rattle.wavelet_container.specs.Records.{StandsForHistory}
use Rattle.wavelet_container.specs.Stores.{StandsForOneMore}
use Rattle.wavelet_container.specs.declared.container.Container.{Container}
use Rattle.wavelet_shelf.specs.Entries.{IsFileWithin, IsWrittenOn, IsNamed, IsSafe}
use Rattle.wavelet_shelf.specs.Hosting.{Hosted, names_of, deltas_in, with_added, judged_in, after_submission}
use Rattle.wavelet_shelf.specs.FileNames.{file_name_of}
use Rattle.wavelet_shelf.specs.Folders.{IsUsedIn, IsUnmadeIn}
use Rattle.wavelet_shelf.specs.Shelves.{entries_of, in_folder, container_in, hosted_of, IsKept, IsSettled, HasFile, IsNewFile, IsOneMoreOf}
use Rattle.wavelet_shelf.specs.declared.filed.Filed.{Filed}
use Rattle.wavelet_shelf.specs.declared.shelf.Shelf.{Shelf}
use Rattle.wavelet_shelf.proofs.Growing.{grows_alone}
use Rattle.wavelet_shelf.proofs.Names.{same_or_not}
use Rattle.wavelet_shelf.proofs.Placing.{all_found, deltas_hosting}
use Rattle.wavelet_shelf.proofs.Shelving.{deltas_of, no_more}
use Rattle.wavelet_shelf.proofs.Still.{used_as, used_on, used_more, unmade_as}
use Rattle.wavelet_shelf.proofs.Written.{written_itself, written_more}
use Rattle.line_loop.specs.declared.line_machine.TurnFault.{TurnFault}
use Rattle.line_loop.specs.declared.line_machine.TurnFault.TheVariants.{Memory}
use Rattle.pipe_machine.specs.Keeping.{Begins, IsEnded, StandsForEither, IsFileOfEither, IsFileWith, AreBegun, AreStepped, IsTriedTo}
use Rattle.pipe_machine.proofs.Moving.{nothing_before}

more_or_not : (n : Key) (ds es : List DeltaOf) (added : Option DeltaOf) → ((d : DeltaOf) → added ≡ Some d → es ≡ ds ++ d ∷ []) → (bytes : List ℕ) → StandsForOneMore n ds (λ d. added ≡ Some d) bytes → StandsForEither n ds es bytes
more_or_not n ds es added grown bytes (inl stands) = inl stands
more_or_not n ds es added grown bytes (inr one) = inr (subst (λ l. StandsForHistory n l bytes) (sym (grown one.0 one.1)) one.2)

grown_to : (hs : List Hosted) (name : Key) (added : Option DeltaOf) → AreAscending (names_of hs) → (d : DeltaOf) → added ≡ Some d → deltas_in (with_added hs name added) name ≡ deltas_in hs name ++ d ∷ []
grown_to hs name added up d e = ap (λ o. deltas_in (with_added hs name o) name) e ∙ grows_alone.there hs name d up

-- a delta that is accepted stands in the histories after it
accepted_there : (hs : List Hosted) (name : Key) (added : Option DeltaOf) → AreAscending (names_of hs) → IsSome added → deltas_in (with_added hs name added) name ≢ []
accepted_there hs name None up some none = absurd (true≢false (sym some))
accepted_there hs name (Some d) up some none = no_more (deltas_in hs name) d (sym none ∙ grows_alone.there hs name d up)

module _ {K : Type 0} {disk : disk_of.Ghosts K} where
  -- the container's file stands for the history
  abbrev IsFileOf : Key → List DeltaOf → Container K disk → Type 0
  IsFileOf n ds c = IfSome (journal_of c) (λ j. Kept (on_disk j) (StandsForHistory n ds))

  safe_file : (c : Container K disk) (n : Key) (ds : List DeltaOf) → IsSafe c → (history_of c).name ≡ n → (history_of c).deltas ≡ ds → IsFileOf n ds c
  safe_file c n ds s name deltas =
      subst (λ o. IfSome o (λ j. Kept (on_disk j) (StandsForHistory n ds))) (sym s.is)
      (subst (λ m. Kept (on_disk s.journal) (StandsForHistory m ds)) name (subst (λ es. Kept (on_disk s.journal) (StandsForHistory (history_of c).name es)) deltas (record { now = s.read; left = s.images })))

  either_by : (P Q : List ℕ → Type 0) (o : Option (Journal K disk)) → ((bytes : List ℕ) → P bytes → Q bytes) → IfSome o (λ j. Kept (on_disk j) P) → IfSome o (λ j. Kept (on_disk j) Q)
  either_by P Q None f h = tt
  either_by P Q (Some j) f h = record { now = f (on_disk j).seen h.now; left = λ bytes l. f bytes (h.left bytes l) }

  of_first : (c : Container K disk) (n : Key) (ds es : List DeltaOf) → IsFileOf n ds c → IsFileOfEither n ds es c
  of_first c n ds es h = either_by (StandsForHistory n ds) (StandsForEither n ds es) (journal_of c) (λ bytes stands. inl stands) h

  of_second : (c : Container K disk) (n : Key) (ds es : List DeltaOf) → IsFileOf n es c → IsFileOfEither n ds es c
  of_second c n ds es h = either_by (StandsForHistory n es) (StandsForEither n ds es) (journal_of c) (λ bytes stands. inr stands) h

  of_within : (c : Container K disk) (n : Key) (ds es : List DeltaOf) (added : Option DeltaOf) → ((d : DeltaOf) → added ≡ Some d → es ≡ ds ++ d ∷ []) → IsFileWithin n ds added c → IsFileOfEither n ds es c
  of_within c n ds es added grown h = either_by (StandsForOneMore n ds (λ d. added ≡ Some d)) (StandsForEither n ds es) (journal_of c) (more_or_not n ds es added grown) h

pub unmade_else : {F D : Type 0} (folder : folder_of.Ghosts F D) (disk : disk_of.Ghosts D) (may : List ℕ → Type 0) (m : List ℕ) (o p : Option F) → IsUsedIn folder may o p → (may m → ⊥) → IsUnmadeIn folder disk m o p
unmade_else folder disk may m None None used not = tt
unmade_else folder disk may m None (Some g) used not = absurd used
unmade_else folder disk may m (Some f) None used not = absurd used
unmade_else folder disk may m (Some f) (Some g) used not = λ told. inl (used.others told m not)

if_some_by : {X : Type 0} (o : Option X) (P Q : X → Type 0) → ((x : X) → P x → Q x) → IfSome o P → IfSome o Q
if_some_by None P Q f h = tt
if_some_by (Some x) P Q f h = f x h

module _ {F D : Type 0} {folder : folder_of.Ghosts F D} {disk : disk_of.Ghosts D} where
  pub settled_files : (s : Shelf F D folder disk) → IsSettled s → (n : Key) → IfSome (container_in s n) (IsFileOf n (deltas_in (hosted_of s) n))
  settled_files s settled n = go (lookup (same_text n) (entries_of s)) refl
    where
      go : (o : Option (Filed D disk)) → lookup (same_text n) (entries_of s) ≡ o → IfSome (option_map (λ (f : Filed D disk). f.container) o) (IsFileOf n (deltas_in (hosted_of s) n))
      go None e = tt
      go (Some f) e =
          let order = s.containers.in_order in
          safe_file f.container n (deltas_in (hosted_of s) n) (all_found deltas_of (λ e. IsSafe e.1.container) (entries_of s) n f settled e) (all_found deltas_of IsNamed (entries_of s) n f order.1 e).0
          (sym (deltas_hosting deltas_of (entries_of s) n order.0 ∙ ap (λ x. option_map_or deltas_of x []) e))

  pub tried_still : (a : Shelf F D folder disk) (after : List Hosted) → IsTriedTo a a after
  tried_still a after = record {
    hosted = inl refl;
    files = λ k settled n. if_some_by (container_in a n) (IsFileOf n (deltas_in (hosted_of a) n)) (IsFileOfEither n (deltas_in (hosted_of a) n) (deltas_in after n)) (λ c h. of_first c n (deltas_in (hosted_of a) n) (deltas_in after n) h) (settled_files a settled n);
  }

  pub tried_done : (a b : Shelf F D folder disk) (after : List Hosted) → hosted_of b ≡ after → (IsKept a → IsSettled a → IsSettled b) → IsTriedTo a b after
  tried_done a b after is ends = record {
    hosted = inr is;
    files = λ k settled n. if_some_by (container_in b n) (IsFileOf n (deltas_in after n)) (IsFileOfEither n (deltas_in (hosted_of a) n) (deltas_in after n)) (λ c h. of_second c n (deltas_in (hosted_of a) n) (deltas_in after n) h)
        (subst (λ hs. IfSome (container_in b n) (IsFileOf n (deltas_in hs n))) is (settled_files b (ends k settled) n));
  }

  pub tried_as : (a b : Shelf F D folder disk) (after also : List Hosted) → after ≡ also → IsTriedTo a b after → IsTriedTo a b also
  tried_as a b after also e t = subst (λ hs. IsTriedTo a b hs) e t

  pub tried_refused : (a b : Shelf F D folder disk) (name : Key) (s : Submission) (t : ℕ) → AreAscending (names_of (hosted_of a)) → ((m : Key) → m ≢ name → container_in b m ≡ container_in a m) → hosted_of b ≡ hosted_of a
      → (IsKept a → IsSettled a → IfSome (container_in b name) (IsFileWithin name (deltas_in (hosted_of a) name) (judged_in (hosted_of a) name s t).1)) → IsTriedTo a b (after_submission (hosted_of a) name s t)
  tried_refused a b name s t up others is within = record {
    hosted = inl is;
    files = λ k settled n. ⊎_elim
        (λ same. subst (λ m. IfSome (container_in b m) (IsFileOfEither m (deltas_in (hosted_of a) m) (deltas_in (after_submission (hosted_of a) name s t) m))) (sym same)
        (if_some_by (container_in b name) (IsFileWithin name (deltas_in (hosted_of a) name) (judged_in (hosted_of a) name s t).1) (IsFileOfEither name (deltas_in (hosted_of a) name) (deltas_in (after_submission (hosted_of a) name s t) name))
        (λ c h. of_within c name (deltas_in (hosted_of a) name) (deltas_in (after_submission (hosted_of a) name s t) name) (judged_in (hosted_of a) name s t).1 (grown_to (hosted_of a) name (judged_in (hosted_of a) name s t).1 up) h) (within k settled)))
        (λ other. subst (λ o. IfSome o (IsFileOfEither n (deltas_in (hosted_of a) n) (deltas_in (after_submission (hosted_of a) name s t) n))) (sym (others n other))
        (if_some_by (container_in a n) (IsFileOf n (deltas_in (hosted_of a) n)) (IsFileOfEither n (deltas_in (hosted_of a) n) (deltas_in (after_submission (hosted_of a) name s t) n))
        (λ c h. of_first c n (deltas_in (hosted_of a) n) (deltas_in (after_submission (hosted_of a) name s t) n) h) (settled_files a settled n)))
        (same_or_not n name);
  }

  -- ---- what came meanwhile

  begun_itself : (a : Shelf F D folder disk) (hs : List Hosted) → AreBegun a a hs
  begun_itself a hs = record { files = used_as folder (IsFileWith hs) (in_folder a); names = λ n some. inl some }

  pub begun_more : (a b : Shelf F D folder disk) (hs gs : List Hosted) → ((n : Key) → Begins (deltas_in hs n) (deltas_in gs n)) → AreBegun a b hs → AreBegun a b gs
  begun_more a b hs gs grows begun =
      let still : (n : Key) → deltas_in hs n ≢ [] → deltas_in gs n ≢ [] = λ n some none. some (nothing_before (deltas_in hs n) (deltas_in gs n) (grows n) none) in
      record {
        files = used_more folder (IsFileWith hs) (IsFileWith gs) (λ m x. (x.0, still x.0 x.1, x.2)) (in_folder a) (in_folder b) begun.files;
        names = λ n some. ⊎_elim (λ there. inl there) (λ has. inr (still n has)) (begun.names n some);
      }

  pub begun_both : (a m b : Shelf F D folder disk) (hs : List Hosted) → AreBegun a m hs → AreBegun m b hs → AreBegun a b hs
  begun_both a m b hs one two = record {
    files = used_on folder (IsFileWith hs) (in_folder a) (in_folder m) (in_folder b) one.files two.files;
    names = λ n some. ⊎_elim (λ there. one.names n there) (λ has. inr has) (two.names n some);
  }

  begun_by : (a b : Shelf F D folder disk) (name : Key) (s : Submission) (t : ℕ) → AreAscending (names_of (hosted_of a)) → ((m : Key) → m ≢ name → container_in b m ≡ container_in a m)
      → (IsSome (container_in b name) → IsSome (container_in a name) ⊎ IsSome (judged_in (hosted_of a) name s t).1) → IsUsedIn folder (IsNewFile a name s t) (in_folder a) (in_folder b) → AreBegun a b (after_submission (hosted_of a) name s t)
  begun_by a b name s t up others begun used =
      let has : IsSome (judged_in (hosted_of a) name s t).1 → deltas_in (after_submission (hosted_of a) name s t) name ≢ [] = accepted_there (hosted_of a) name (judged_in (hosted_of a) name s t).1 up in
      record {
        files = used_more folder (IsNewFile a name s t) (IsFileWith (after_submission (hosted_of a) name s t)) (λ m x. (name, has x.1, x.2)) (in_folder a) (in_folder b) used;
        names = λ n some. ⊎_elim
            (λ same. subst (λ k. IsSome (container_in a k) ⊎ (deltas_in (after_submission (hosted_of a) name s t) k ≢ [])) (sym same)
            (⊎_elim (λ there. inl there) (λ added. inr (has added)) (begun (subst (λ k. IsSome (container_in b k)) same some))))
            (λ other. inl (subst (λ o. IsSome o) (others n other) some))
            (same_or_not n name);
      }

  -- ---- files that are no container's

  unmade_by : (a b : Shelf F D folder disk) (name : Key) (s : Submission) (t : ℕ) → IsUsedIn folder (IsNewFile a name s t) (in_folder a) (in_folder b)
      → (container_in b name ≡ None → IsUnmadeIn folder disk (file_name_of name) (in_folder a) (in_folder b)) → (m : List ℕ) → (HasFile b m → ⊥) → IsUnmadeIn folder disk m (in_folder a) (in_folder b)
  unmade_by a b name s t used gone m not = go (container_in b name) refl
    where
      go : (o : Option (Container D disk)) → container_in b name ≡ o → IsUnmadeIn folder disk m (in_folder a) (in_folder b)
      go (Some c) e = unmade_else folder disk (IsNewFile a name s t) m (in_folder a) (in_folder b) used (λ new. not (name, ap is_some e, sym new.2))
      go None e = ⊎_elim
          (λ same. subst (λ l. IsUnmadeIn folder disk l (in_folder a) (in_folder b)) (sym same) (gone e))
          (λ other. unmade_else folder disk (IsNewFile a name s t) m (in_folder a) (in_folder b) used (λ new. other new.2))
          (same_or_not m (file_name_of name))

  -- ---- each crash meanwhile

  pub stepped_still : (a : Shelf F D folder disk) (after : List Hosted) → AreStepped a a after
  stepped_still a after = record { moments = λ k settled n. written_itself (StandsForEither n (deltas_in (hosted_of a) n) (deltas_in after n)) (container_in a n); begun = begun_itself a after; unmade = λ m not. unmade_as folder disk m (in_folder a) }

  pub stepped_as : (a b : Shelf F D folder disk) (after also : List Hosted) → after ≡ also → AreStepped a b after → AreStepped a b also
  stepped_as a b after also e t = subst (λ hs. AreStepped a b hs) e t

  pub stepped_done : (a b : Shelf F D folder disk) (name : Key) (s : Submission) (t : ℕ) → AreAscending (names_of (hosted_of a)) → ((m : Key) → m ≢ name → container_in b m ≡ container_in a m)
      → (IsSome (container_in b name) → IsSome (container_in a name) ⊎ IsSome (judged_in (hosted_of a) name s t).1) → IsUsedIn folder (IsNewFile a name s t) (in_folder a) (in_folder b)
      → (container_in b name ≡ None → IsUnmadeIn folder disk (file_name_of name) (in_folder a) (in_folder b))
      → (IsKept a → IsSettled a → IsWrittenOn (container_in a name) (container_in b name) (IsOneMoreOf a name s t)) → AreStepped a b (after_submission (hosted_of a) name s t)
  stepped_done a b name s t up others begun used gone written = record {
    moments = λ k settled n.
        let hs = hosted_of a in
        let added = (judged_in hs name s t).1 in
        let after = after_submission hs name s t in
        let either : Key → List ℕ → Type 0 = λ m. StandsForEither m (deltas_in hs m) (deltas_in after m) in
        ⊎_elim
        (λ same. subst (λ m. IsWrittenOn (container_in a m) (container_in b m) (either m)) (sym same)
        (written_more (IsOneMoreOf a name s t) (either name) (more_or_not name (deltas_in hs name) (deltas_in after name) added (grown_to hs name added up)) (container_in a name) (container_in b name) (written k settled)))
        (λ other. subst (λ o. IsWrittenOn (container_in a n) o (either n)) (sym (others n other)) (written_itself (either n) (container_in a n)))
        (same_or_not n name);
    begun = begun_by a b name s t up others begun used;
    unmade = unmade_by a b name s t used gone;
  }

  -- ---- how a step ended

  pub ended_memory : {A : Type 0} (a b : Shelf F D folder disk) (after : List Hosted) (r : Result A TurnFault) (e : TurnFault) → r ≡ Err e → e ≡ Memory → IsTriedTo a b after → AreStepped a b after → IsEnded a b after r
  ended_memory a b after r e is memory tried stepped =
      subst (λ (x : Result _ TurnFault). IsEnded a b after x) (sym (is ∙ ap (λ y. Err y) memory)) (record { settled = tt; failed = λ store. absurd (cc); store = λ store. absurd (cc); tried = tried; stepped = stepped })

  pub ended_done : {A : Type 0} (a b : Shelf F D folder disk) (after : List Hosted) (x : A) → (IsKept a → IsSettled a → IsSettled b) → AreStepped a b after → IsEnded a b after (Ok x)
  ended_done a b after x settled stepped = record { settled = settled; failed = λ store. absurd (cc); store = λ store. absurd (cc); tried = tt; stepped = stepped }

  pub ended_as : {A B : Type 0} (a b : Shelf F D folder disk) (after also : List Hosted) (r : Result B TurnFault) (e : TurnFault) → also ≡ after → r ≡ Err e → IsEnded {A = A} a b also (Err e) → IsEnded a b after r
  ended_as {A} {B} a b after also r e leads is x = subst (λ (y : Result B TurnFault). IsEnded a b after y) (sym is) (record {
    settled = tt;
    failed = λ store. x.failed (ap (λ z. Err z) (same_fault store));
    store = λ store. x.store (ap (λ z. Err z) (same_fault store));
    tried = tried_as a b also after leads x.tried;
    stepped = stepped_as a b also after leads x.stepped;
  })
    where
      same_fault : {y z : TurnFault} → ◌≡◌ {A = Result B TurnFault} (Err y) (Err z) → y ≡ z
      same_fault h = cc

  pub ended_still : {A : Type 0} (a : Shelf F D folder disk) (after : List Hosted) (x : A) → IsEnded a a after (Ok x)
  ended_still a after x = ended_done a a after x (λ k settled. settled) (stepped_still a after)
