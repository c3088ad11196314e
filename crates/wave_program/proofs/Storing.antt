-- What a run over a folder leaves there.
use Rattle.std.proofs.Common.{◌≡◌, ◌≢◌, ◌⊎◌, inl, inr, ⊎_elim, ℕ, ◌+◌, ◌-◌, ◌^◌, min, List, [], ◌∷◌, ◌++◌, Bool, true, false, cond, Option, Some, None, is_some, IsSome, IfSome, IsTrue, refl, sym, ap, subst, ◌∙◌, arith, append_assoc, append-nil, true≢false}
use Rattle.std.specs.List.{All, AllByRecursion}
use Rattle.std.specs.Cmp.Lexicographic.{bytes_decides}
use Rattle.std.specs.Map.{lookup}
use Rattle.std.specs.Option.{option_map, option_map_or}
use Rattle.doc_items.specs.Maps.{Key, same_text}
use Rattle.wavelet_op.specs.Deltas.{DeltaOf}
use Rattle.wavelet_codec.specs.Spelling.{IsDelta}
use Rattle.delta_history.specs.Histories.{HistoryOf}
use Rattle.delta_history.specs.Legal.{IsLegal}
use Rattle.delta_history.proofs.Chains.{goes_on}
use Rattle.disk_model.specs.Disk.{DiskView, Kept}
use Rattle.disk_model.specs.declared.disk.Disk as disk_of
use Rattle.delta_journal.specs.File.{StandsFor, StandsForEither}
use Rattle.delta_journal.specs.Journal.{on_disk, left_over}
use Rattle.delta_journal.specs.declared.journal.Journal.{Journal}
use Rattle.delta_journal.proofs.Stages.{journal_stands}
use Rattle.wave_outside.specs.Counts.{Rose}
use Rattle.wave_outside.specs.Folders.{Entry, IsImage, IsUnmade, IsPutBack, IsAsBefore}
use Rattle.wave_outside.specs.declared.clock.Clock as clock_of
use Rattle.wave_outside.specs.declared.folder.Folder as folder_of
use Rattle.wavelet_container.specs.Containers.{history_of, journal_of, IsHeld}
use Rattle.wavelet_container.specs.Records.{records_of, StandsForHistory}
use Rattle.wavelet_container.specs.Stores.{IsPending, IsStored}
use Rattle.wavelet_container.specs.declared.container.Container.{Container}
use Rattle.wavelet_container.proofs.Journals.{records_more, spelled_more}
use Rattle.line_loop.specs.Turns.{Turn}
use Rattle.wavelet_shelf.specs.Entries.{IsWrittenOn, found, hosting, histories, faults_in, AreInOrder}
use Rattle.wavelet_shelf.specs.FileNames.{file_name_of}
use Rattle.wavelet_shelf.specs.Hosting.{Hosted, deltas_in}
use Rattle.wavelet_shelf.specs.Folders.{IsStill, IsStillIn, IsUsedIn, IsUnmadeIn}
use Rattle.wavelet_shelf.specs.Loads.{IsReadFrom, IsRefusedFile, IsSound}
use Rattle.wavelet_shelf.specs.Shelves.{in_folder, entries_of, container_in, hosted_of, folder_faults, fault_count, IsKept, IsSettled, AreApart, HasFile}
use Rattle.wavelet_shelf.specs.declared.filed.Filed.{Filed}
use Rattle.wavelet_shelf.specs.declared.shelf.Shelf.{Shelf}
use Rattle.wavelet_shelf.proofs.Growing.{shown_ascend}
use Rattle.wavelet_shelf.proofs.Loading.{as_it_is}
use Rattle.wavelet_shelf.proofs.Names.{own, same_or_not}
use Rattle.wavelet_shelf.proofs.Placing.{hist_ascends, deltas_hosting, all_found}
use Rattle.wavelet_shelf.proofs.Refusing.{put_as_read}
use Rattle.wavelet_shelf.proofs.Sharing.{found_named}
use Rattle.wavelet_shelf.proofs.Shelving.{deltas_of}
use Rattle.wavelet_shelf.proofs.Still.{still_in_on, still_on, used_still}
use Rattle.pipe_machine.specs.Held as Held
use Rattle.pipe_machine.specs.Keeping.{Begins, submitted_in, IsFileAmong, IsFileOfEither, IsFileWith, AreWrittenOn, AreBegun, IsMoved}
use Rattle.pipe_machine.specs.Machine.{start, sent}
use Rattle.pipe_machine.specs.Pipes.{StandsAlong}
use Rattle.pipe_machine.proofs.Moving.{nothing_before}
use Rattle.wave_program.specs.Asks.{IsPlayed, IsListed}
use Rattle.wave_program.specs.Pipe.{hosted_after, IsOver}
use Rattle.wave_program.specs.declared.service.Service.{Service}
use Rattle.wave_program.specs.declared.service.Service.TheVariants.{Lines, Play, Inbox}
use Rattle.wave_program.specs.Store.{GoesOn, IsFileOf, IsFileEither, IsOldOf, IsEmptiedSince, IsFileTried, IsStoredFrom, IsFileSince, IsFileBegun, IsThere, AreStored, AreStoredFrom, AreApartIn, IsLoaded, IsClosed, IsShelfRun, IsShelfUnloaded, AreStanding, IsStoredRun, IsReadRun, IsStoredAs, IsUnloaded}
use Rattle.wave_program.proofs.Moments.{file_begun, files_since}

pub damage_told : (o : Option (List ℕ × ℕ)) (P Q : List ℕ → ℕ → Type 0) → IsSome o → IfSome o (λ d. P d.0 d.1) → IfSome o (λ d. Q d.0 d.1) → (file : List ℕ) × (offset : ℕ) × P file offset × Q file offset
damage_told None P Q e p q = absurd (cc)
damage_told (Some d) P Q e p q = (d.0, d.1, p, q)

-- ---- histories that go on

begins_on : (ds es fs : List DeltaOf) → Begins ds es → Begins es fs → Begins ds fs
begins_on ds es fs p q = (p.0 ++ q.0, sym (append_assoc ds p.0 q.0) ∙ ap (λ l. l ++ q.0) p.1 ∙ q.1)

goes_on_from : (n : Key) (ds es : List DeltaOf) (bytes : List ℕ) → Begins ds es → GoesOn n es bytes → GoesOn n ds bytes
goes_on_from n ds es bytes p q = (q.0, begins_on ds es q.0 p q.1, q.2)

either_goes_on : (h : HistoryOf) (left : List (List ℕ)) (bytes : List ℕ) → IsLegal h.name h.deltas → AllByRecursion IsDelta h.deltas → IsPending h left → StandsForEither h.name (records_of h.deltas) left bytes → GoesOn h.name h.deltas bytes
either_goes_on h left bytes l s p (inl stands) = (h.deltas, ([], append-nil h.deltas), record { stands = stands; legal = l; spelled = s })
either_goes_on h left bytes l s (inl none) (inr stands) =
    (h.deltas, ([], append-nil h.deltas), record { stands = subst (λ r. StandsFor h.name r bytes) (ap (λ z. records_of h.deltas ++ z) none ∙ append-nil (records_of h.deltas)) stands; legal = l; spelled = s })
either_goes_on h left bytes l s (inr one) (inr stands) = (
  h.deltas ++ one.0 ∷ [],
  (one.0 ∷ [], refl),
  record {
    stands = subst (λ r. StandsFor h.name r bytes) (ap (λ z. records_of h.deltas ++ z) one.1 ∙ sym (records_more h.deltas one.0)) stands;
    legal = goes_on h.name h.deltas one.0 l one.3;
    spelled = spelled_more h.deltas one.0 s one.2;
  },
)

put_back_from : {D : Type 0} (view : D → DiskView) (n : Key) (ds : List DeltaOf) (v : DiskView) (o : Option D) → Kept v (GoesOn n ds) → IsPutBack view v o → IsStoredFrom view o n ds
put_back_from view n ds v None k back = absurd back
put_back_from view n ds v (Some f) k back = record { seen = rw (back.seen) k.now; images = λ c left. k.left c (back.crash c left) }

put_back_either : {D : Type 0} (view : D → DiskView) (o : Option D) (n : Key) (ds es : List DeltaOf) (v : DiskView) → Kept v (λ bytes. StandsForHistory n ds bytes ⊎ StandsForHistory n es bytes) → IsPutBack view v o → IsFileEither view o n ds es
put_back_either view None n ds es v k back = absurd back
put_back_either view (Some f) n ds es v k back = record { now = rw (back.seen) k.now; left = λ c left. k.left c (back.crash c left) }

-- ---- a file that is as it was, or emptied

old_image : {D : Type 0} (view : D → DiskView) (o h : Option D) (bytes : List ℕ) → IsAsBefore view o h → IsImage view h bytes → IsOldOf view o bytes
old_image view o None bytes before image = absurd image
old_image view None (Some h) bytes before image = absurd before
old_image view (Some f) (Some h) bytes before image = before.images bytes image

unmade_since : {D : Type 0} (view : D → DiskView) (o h k : Option D) → IsAsBefore view o h → IsUnmade view h k → IsAsBefore view o k ⊎ IsEmptiedSince view o k
unmade_since view o h k before (inl same) = inl (subst (IsAsBefore view o) (sym same) before)
unmade_since view o h None before (inr emptied) = absurd emptied
unmade_since view o h (Some k) before (inr emptied) = inr (emptied.0, λ bytes left. ⊎_elim (λ none. inl none) (λ image. inr (old_image view o h bytes before image)) (emptied.1 bytes left))

module _ {D : Type 0} {disk : disk_of.Ghosts D} where
  stored_goes_on : (h : HistoryOf) (j : Journal D disk) → IsStored h j → Kept (on_disk j) (GoesOn h.name h.deltas)
  stored_goes_on h j s =
      let k = journal_stands h.name (records_of h.deltas) j s.held in
      record {
        now = either_goes_on h (left_over j) _ s.legal s.spelled s.pending k.now;
        left = λ c left. either_goes_on h (left_over j) c s.legal s.spelled s.pending (k.left c left);
      }

  -- ---- containers by name

  -- the container of a name that has a delta
  pub record HasContainer (es : List (Key × Filed D disk)) (n : Key) : Type 0 where
    pub filed : Filed D disk
    pub is : lookup (same_text n) es ≡ Some filed
    pub deltas : (history_of filed.container).deltas ≡ deltas_in (hosting es) n
    pub named : (history_of filed.container).name ≡ n

  has_container : (es : List (Key × Filed D disk)) (n : Key) → AreInOrder es → deltas_in (hosting es) n ≢ [] → HasContainer es n
  has_container es n order some = go (lookup (same_text n) es) refl
    where
      go : (o : Option (Filed D disk)) → lookup (same_text n) es ≡ o → HasContainer es n
      go None e = absurd (some (deltas_hosting deltas_of es n order.0 ∙ ap (λ x. option_map_or deltas_of x []) e))
      go (Some f) e = record {
        filed = f;
        is = e;
        deltas = sym (deltas_hosting deltas_of es n order.0 ∙ ap (λ x. option_map_or deltas_of x []) e);
        named = found_named es n f order e;
      }

  found_is : (es : List (Key × Filed D disk)) (n : Key) (f : Filed D disk) → lookup (same_text n) es ≡ Some f → found es n ≡ Some f.container
  found_is es n f e = ap (λ (o : Option (Filed D disk)). option_map (λ (x : Filed D disk). x.container) o) e

  -- the deltas of a name that is there
  deltas_there : (es : List (Key × Filed D disk)) (n : Key) (f : Filed D disk) → AreInOrder es → lookup (same_text n) es ≡ Some f → deltas_in (hosting es) n ≡ (history_of f.container).deltas
  deltas_there es n f order e = deltas_hosting deltas_of es n order.0 ∙ ap (λ x. option_map_or deltas_of x []) e

  there : (es : List (Key × Filed D disk)) (n : Key) → is_some (found es n) ≡ true → (f : Filed D disk) × (lookup (same_text n) es ≡ Some f)
  there es n some = go (lookup (same_text n) es) refl some
    where
      go : (o : Option (Filed D disk)) → lookup (same_text n) es ≡ o → is_some (option_map (λ (x : Filed D disk). x.container) o) ≡ true → (f : Filed D disk) × (lookup (same_text n) es ≡ Some f)
      go None e s = absurd (cc)
      go (Some f) e s = (f, e)

  container_there : (es : List (Key × Filed D disk)) (n : Key) → AreInOrder es → is_some (found es n) ≡ true → HasContainer es n
  container_there es n order some =
      let x = there es n some in
      record { filed = x.0; is = x.1; deltas = sym (deltas_there es n x.0 order x.1); named = found_named es n x.0 order x.1 }

none_at : {X : Type 0} (o : Option X) → is_some o ≡ false → o ≡ None
none_at None e = refl
none_at (Some x) e = absurd (true≢false e)

if_some_at : {X : Type 0} (P : X → Type 0) (o : Option X) (x : X) → o ≡ Some x → IfSome o P → P x
if_some_at {X} P o x e h = subst (λ (p : Option X). IfSome p P) e h

file_of : {D : Type 0} {disk : disk_of.Ghosts D} (o : Option D) (c : Container D disk) (n : Key) (ds : List DeltaOf) → (history_of c).name ≡ n → (history_of c).deltas ≡ ds → IsReadFrom o c → IsFileOf disk.view o n ds
file_of None c n ds named same h = absurd h
file_of (Some f) c n ds named same h = rw (← named, ← same) h.stands

-- ---- a run

module _ {F D K : Type 0} (folder : folder_of.Ghosts F D) (disk : disk_of.Ghosts D) (clock : clock_of.Ghosts K) where
  -- the names that the shelf has at the end were loaded, or were submitted to
  from_either : (m b : Shelf F D folder disk) (ts : List Turn) → IsMoved (submitted_in ts) m b → (n : Key) → IsSome (container_in b n) → (is_some (container_in m n) ≡ true) ⊎ (submitted_in ts n ≡ true)
  from_either m b ts moved n some = go (submitted_in ts n) refl
    where
      go : (t : Bool) → submitted_in ts n ≡ t → (is_some (container_in m n) ≡ true) ⊎ (submitted_in ts n ≡ true)
      go true e = inr e
      go false e = inl (subst (λ (o : Option (Container D disk)). is_some o ≡ true) (moved.others n e) some)

  apart_at_end : (m b : Shelf F D folder disk) (ts : List Turn) → IsMoved (submitted_in ts) m b → AreApartIn (λ n. (is_some (container_in m n) ≡ true) ⊎ (submitted_in ts n ≡ true)) → AreApart b
  apart_at_end m b ts moved apart n k p q e = apart n k (from_either m b ts moved n p) (from_either m b ts moved k q) e

  -- all other files, from the folder f from which the shelf m was loaded to the folder g into which b was closed
  others_at_end : (m b : Shelf F D folder disk) (f g : F) (hs : List Hosted) → IsTrue folder.tells → IsSome (in_folder m) → AreBegun m b hs
      → IfSome (in_folder m) (λ h. (l : List ℕ) → ((n : Key) → IsSome (container_in m n) → l ≢ file_name_of n) → IsAsBefore disk.view (folder.files f l) (folder.files h l))
      → IfSome (in_folder b) (λ k. (l : List ℕ) → (HasFile b l → ⊥) → folder.files g l ≡ folder.files k l)
      → (l : List ℕ) → ((n : Key) → IsThere (λ n. is_some (container_in m n)) hs n → l ≢ file_name_of n) → IsAsBefore disk.view (folder.files f l) (folder.files g l)
  others_at_end m b f g hs tells some begun before after l none = go (in_folder m) (in_folder b) some before after begun.files
    where
      go : (o p : Option F) → IsSome o → IfSome o (λ h. (l : List ℕ) → ((n : Key) → IsSome (container_in m n) → l ≢ file_name_of n) → IsAsBefore disk.view (folder.files f l) (folder.files h l))
          → IfSome p (λ k. (l : List ℕ) → (HasFile b l → ⊥) → folder.files g l ≡ folder.files k l) → IsUsedIn folder (IsFileWith hs) o p → IsAsBefore disk.view (folder.files f l) (folder.files g l)
      go None p there one two used = absurd (true≢false (sym there))
      go (Some h) None there one two used = absurd used
      go (Some h) (Some k) there one two used = subst (IsAsBefore disk.view (folder.files f l)) (sym (
          two l (λ file. none file.0 (begun.names file.0 file.1) (sym file.2))
          ∙ used.others tells l (λ file. none file.0 (inr file.1) file.2)
          )) (one l (λ n some. none n (inl some)))

  -- the histories that there were when the machine ended, in the files
  stored_from : (b : Shelf F D folder disk) (g : F) (hs : List Hosted) → IsTrue disk.tells → IsKept b → AreApart b → IsClosed b g → ((n : Key) → Begins (deltas_in hs n) (deltas_in (hosted_of b) n))
      → AreStoredFrom disk.view (folder.files g) hs
  stored_from b g hs tells kept apart closed grown n some =
      let more : deltas_in (hosted_of b) n ≢ [] = λ none. some (nothing_before (deltas_in hs n) (deltas_in (hosted_of b) n) (grown n) none) in
      let x = has_container (entries_of b) n b.containers.in_order more in
      let c = x.filed.container in
      let held : IsHeld c = all_found deltas_of (λ e. IsHeld e.1.container) (entries_of b) n x.filed kept.held x.is in
      let back = if_some_at _ _ held.0 held.1 (if_some_at _ _ c (found_is (entries_of b) n x.filed x.is) (closed.back tells apart n)) in
      let k : Kept (on_disk held.0) (GoesOn (history_of c).name (history_of c).deltas) = stored_goes_on (history_of c) held.0 held.2 in
      let front : Begins (deltas_in hs n) (history_of c).deltas = subst (λ l. Begins (deltas_in hs n) l) (sym x.deltas) (grown n) in
      put_back_from disk.view n (deltas_in hs n) (on_disk held.0) (folder.files g (file_name_of n))
      (record {
        now = goes_on_from n (deltas_in hs n) (history_of c).deltas _ front (subst (λ (m : Key). GoesOn m (history_of c).deltas (on_disk held.0).seen) x.named k.now);
        left = λ bytes left. goes_on_from n (deltas_in hs n) (history_of c).deltas bytes front (subst (λ (m : Key). GoesOn m (history_of c).deltas bytes) x.named (k.left bytes left));
      })
      back

  -- a file that stands for the one history or the other before it is put back
  left_either : (b : Shelf F D folder disk) (g : F) (n : Key) (ds es : List DeltaOf) → IsTrue disk.tells → IsKept b → AreApart b → IsClosed b g → HasContainer (entries_of b) n → IfSome (container_in b n) (IsFileOfEither n ds es)
      → IsFileEither disk.view (folder.files g (file_name_of n)) n ds es
  left_either b g n ds es tells kept apart closed x either =
      let here = found_is (entries_of b) n x.filed x.is in
      let held : IsHeld x.filed.container = all_found deltas_of (λ e. IsHeld e.1.container) (entries_of b) n x.filed kept.held x.is in
      let back = if_some_at _ _ held.0 held.1 (if_some_at _ _ x.filed.container here (closed.back tells apart n)) in
      put_back_either disk.view (folder.files g (file_name_of n)) n ds es (on_disk held.0) (if_some_at _ _ held.0 held.1 (if_some_at _ _ x.filed.container here either)) back

  -- a file that was made, before it is put back
  begun_file : (m b : Shelf F D folder disk) (g : F) (n : Key) (P : List ℕ → Type 0) → IsTrue disk.tells → IsKept b → AreApart b → IsClosed b g → is_some (container_in m n) ≡ false → deltas_in (hosted_of b) n ≢ [] → IsWrittenOn (container_in m n) (container_in b n) P
      → IsFileBegun disk.view (folder.files g (file_name_of n)) P
  begun_file m b g n P tells kept apart closed new some written =
      let x = has_container (entries_of b) n b.containers.in_order some in
      let here = found_is (entries_of b) n x.filed x.is in
      let held : IsHeld x.filed.container = all_found deltas_of (λ e. IsHeld e.1.container) (entries_of b) n x.filed kept.held x.is in
      let back = if_some_at _ _ held.0 held.1 (if_some_at _ _ x.filed.container here (closed.back tells apart n)) in
      file_begun P (folder.files g (file_name_of n)) x.filed.container held.0 held.1 (subst (λ (o : Option (Container D disk)). IsWrittenOn o (Some x.filed.container) P) (none_at (container_in m n) new) (subst (λ (o : Option (Container D disk)). IsWrittenOn (container_in m n) o P) here written)) back

  stored_whole : (b : Shelf F D folder disk) (g : F) (P : Key → Type 0) (hs : List Hosted) → IsKept b → IsSettled b → AreApart b → IsClosed b g → hosted_of b ≡ hs → ((n : Key) → P n → HasContainer (entries_of b) n) → AreStored disk.view (folder.files g) P hs
  stored_whole b g P hs kept settled apart closed is has n some =
      let x = has n some in
      rw (← is, ← x.deltas) (if_some_at _ _ x.filed.container (found_is (entries_of b) n x.filed x.is) (closed.stored kept settled apart n))

  stand_for : (a m : Shelf F D folder disk) (f : F) → IsTrue disk.tells → in_folder a ≡ Some f → IsLoaded a m → (n : Key) → is_some (container_in m n) ≡ true → IsFileOf disk.view (folder.files f (file_name_of n)) n (deltas_in (hosted_of m) n)
  stand_for a m f tells is loaded n some =
      let x = there (entries_of m) n some in
      let order = m.containers.in_order in
      file_of (folder.files f (file_name_of n)) x.0.container n (deltas_in (hosted_of m) n) (found_named (entries_of m) n x.0 order x.1) (sym (deltas_there (entries_of m) n x.0 order x.1))
      (if_some_at _ _ x.0.container (found_is (entries_of m) n x.0 x.1) (if_some_at _ _ f is (loaded.read tells) n))

  are_loaded : (m : Shelf F D folder disk) (n : Key) → deltas_in (hosted_of m) n ≢ [] → is_some (container_in m n) ≡ true
  are_loaded m n some =
      let x = has_container (entries_of m) n m.containers.in_order some in
      ap is_some (found_is (entries_of m) n x.filed x.is)

  -- a container that was there stays, and one whose history begins comes
  stays_there : (o p : Option (Container D disk)) (P : List ℕ → Type 0) → is_some o ≡ true → IsWrittenOn o p P → is_some p ≡ true
  stays_there None p P some written = absurd (true≢false (sym some))
  stays_there (Some c) None P some written = absurd written
  stays_there (Some c) (Some d) P some written = refl

  is_there : (m b : Shelf F D folder disk) (hs : List Hosted) (P : Key → List ℕ → Type 0) → AreWrittenOn m b P → ((n : Key) → Begins (deltas_in hs n) (deltas_in (hosted_of b) n)) → (n : Key) → IsThere (λ n. is_some (container_in m n)) hs n
      → HasContainer (entries_of b) n
  is_there m b hs P written grown n (inl some) = container_there (entries_of b) n b.containers.in_order (stays_there (container_in m n) (container_in b n) (P n) some (written n))
  is_there m b hs P written grown n (inr some) = has_container (entries_of b) n b.containers.in_order (λ none. some (nothing_before (deltas_in hs n) (deltas_in (hosted_of b) n) (grown n) none))

  -- the file of a name that has no container, from the folder f from which the shelf m was loaded to the folder g into which b was closed
  unmade_at_end : (m b : Shelf F D folder disk) (f g : F) (l : List ℕ) → IsTrue folder.tells → IsSome (in_folder m)
      → IfSome (in_folder m) (λ h. (l : List ℕ) → ((n : Key) → IsSome (container_in m n) → l ≢ file_name_of n) → IsAsBefore disk.view (folder.files f l) (folder.files h l))
      → IfSome (in_folder b) (λ k. (l : List ℕ) → (HasFile b l → ⊥) → folder.files g l ≡ folder.files k l)
      → IsUnmadeIn folder disk l (in_folder m) (in_folder b) → ((n : Key) → IsSome (container_in m n) → l ≢ file_name_of n) → (HasFile b l → ⊥)
      → IsAsBefore disk.view (folder.files f l) (folder.files g l) ⊎ IsEmptiedSince disk.view (folder.files f l) (folder.files g l)
  unmade_at_end m b f g l tells some before after unmade unloaded unfiled = go (in_folder m) (in_folder b) some before after unmade
    where
      go : (o p : Option F) → IsSome o → IfSome o (λ h. (l : List ℕ) → ((n : Key) → IsSome (container_in m n) → l ≢ file_name_of n) → IsAsBefore disk.view (folder.files f l) (folder.files h l))
          → IfSome p (λ k. (l : List ℕ) → (HasFile b l → ⊥) → folder.files g l ≡ folder.files k l) → IsUnmadeIn folder disk l o p
          → IsAsBefore disk.view (folder.files f l) (folder.files g l) ⊎ IsEmptiedSince disk.view (folder.files f l) (folder.files g l)
      go None p there one two unmade = absurd (true≢false (sym there))
      go (Some h) None there one two unmade = absurd unmade
      go (Some h) (Some k) there one two unmade =
          subst (λ (o : Option D). IsAsBefore disk.view (folder.files f l) o ⊎ IsEmptiedSince disk.view (folder.files f l) o) (sym (two l unfiled))
          (unmade_since disk.view (folder.files f l) (folder.files h l) (folder.files k l) (one l unloaded) (unmade tells))

  -- from the first shelf to the folder into which the disks of the last were put back
  pub still_closed : (a b : Shelf F D folder disk) (f g : F) → in_folder a ≡ Some f → IsStillIn folder (in_folder a) (in_folder b) → IfSome (in_folder b) (λ h. IsStill folder h g) → IsStill folder f g
  still_closed a b f g is still closed = go (in_folder b) (subst (λ o. IsStillIn folder o (in_folder b)) is still) closed
    where
      go : (o : Option F) → IsStillIn folder (Some f) o → IfSome o (λ h. IsStill folder h g) → IsStill folder f g
      go None one two = absurd one
      go (Some h) one two = still_on folder f h g one two

  -- from the shelf a to the shelf m, whose files were loaded
  pub standing : (a m : Shelf F D folder disk) (f : F) → IsTrue disk.tells → in_folder a ≡ Some f → IsLoaded a m → AreStanding folder disk f (hosted_of m) (λ n. is_some (container_in m n))
  standing a m f tells is loaded = record {
    ascending = shown_ascend (histories (entries_of m)) (hist_ascends deltas_of (entries_of m) m.containers.in_order.0);
    stand = stand_for a m f tells is loaded;
    are_loaded = are_loaded m;
    all = if_some_at _ _ f is (loaded.all tells);
    sound = if_some_at _ _ f is (loaded.sound tells);
    apart = λ n k p q e. loaded.apart n k p q e;
  }

  stored_run : (a m b : Shelf F D folder disk) (f g : F) (was : K) (left0 left1 held0 held1 : Option (List ℕ)) (status : ℕ)
      → IsTrue folder.tells → IsTrue disk.tells → in_folder a ≡ Some f → ((m : Shelf F D folder disk) (ts : List Turn) → All (λ s. Held.IsHeld (hosted_after (hosted_of m) ts) s.message) (sent (start (hosted_of m)) ts))
      → IsLoaded a m → IsOver clock m b was left0 left1 held0 held1 status → IsClosed b g → IsStoredRun folder disk clock (folder.log f).entries f g was left0 left1 held0 held1 status
  stored_run a m b f g was left0 left1 held0 held1 status folder_tells tells is held loaded o closed =
      let kept = loaded.kept tells in
      record {
        hosted = hosted_of m;
        loaded = λ n. is_some (container_in m n);
        standing = standing a m f tells is loaded;
        entered = still_closed a b f g is (still_in_on folder (in_folder a) (in_folder m) (in_folder b) loaded.still (used_still folder (IsFileAmong (submitted_in (o.run.turns ++ o.tried))) (in_folder m) (in_folder b) o.moved.used)) closed.still folder_tells;
        known = o.known;
        run = o.run;
        tried = o.tried;
        lines = o.lines;
        held = held m o.run.turns;
        stored = λ apart. stored_from b g (hosted_after (hosted_of m) o.run.turns) tells (o.moved.kept kept.0) (apart_at_end m b (o.run.turns ++ o.tried) o.moved apart) closed o.grown;
        whole = λ s apart.
            stored_whole b g (IsThere (λ n. is_some (container_in m n)) (hosted_after (hosted_of m) o.run.turns)) (hosted_after (hosted_of m) o.run.turns) (o.moved.kept kept.0) ((o.whole s).1 kept.0 kept.1) (apart_at_end m b (o.run.turns ++ o.tried) o.moved apart) closed (o.whole s).0
            (is_there m b (hosted_after (hosted_of m) o.run.turns) (λ n. StandsAlong (start (hosted_of m)) n (o.run.turns ++ o.tried)) (o.left.moments kept.0 kept.1) o.grown);
        one = o.left.one;
        left = λ apart n some.
            left_either b g n (deltas_in (hosted_after (hosted_of m) o.run.turns) n) (deltas_in (hosted_after (hosted_of m) (o.run.turns ++ o.tried)) n) tells (o.moved.kept kept.0) (apart_at_end m b (o.run.turns ++ o.tried) o.moved apart) closed
            (is_there m b (hosted_after (hosted_of m) o.run.turns) (λ n. StandsAlong (start (hosted_of m)) n (o.run.turns ++ o.tried)) (o.left.moments kept.0 kept.1) o.grown n some) (o.left.files kept.0 kept.1 n);
        moments = λ apart. files_since folder m b f g (λ n. StandsAlong (start (hosted_of m)) n (o.run.turns ++ o.tried)) tells (if_some_at _ _ f is (loaded.read tells)) (o.left.moments kept.0 kept.1) (apart_at_end m b (o.run.turns ++ o.tried) o.moved apart) closed;
        begun = λ apart n new some.
            begun_file m b g n (StandsAlong (start (hosted_of m)) n (o.run.turns ++ o.tried)) tells (o.moved.kept kept.0) (apart_at_end m b (o.run.turns ++ o.tried) o.moved apart) closed new
            (λ none. some (nothing_before (deltas_in (hosted_after (hosted_of m) o.run.turns) n) (deltas_in (hosted_of b) n) (o.grown n) none)) (o.left.moments kept.0 kept.1 n);
        first = λ apart n new sent none. first_file apart n new sent none (container_in b n) refl;
        others = λ l none. others_at_end m b f g (hosted_after (hosted_of m) (o.run.turns ++ o.tried)) folder_tells kept.0.filed o.left.begun (if_some_at _ _ f is (loaded.as_before tells)) (closed.others tells) l none;
      }
    where
      first_file : AreApartIn (λ n. (is_some (container_in m n) ≡ true) ⊎ (submitted_in (o.run.turns ++ o.tried) n ≡ true)) → (n : Key) → is_some (container_in m n) ≡ false → submitted_in (o.run.turns ++ o.tried) n ≡ true
          → deltas_in (hosted_after (hosted_of m) o.run.turns) n ≡ [] → (c : Option (Container D disk)) → container_in b n ≡ c
          → IsFileTried disk.view (folder.files f (file_name_of n)) (folder.files g (file_name_of n)) n (deltas_in (hosted_after (hosted_of m) (o.run.turns ++ o.tried)) n)
      first_file apart n new sent none (Some c) here =
          let kept = loaded.kept tells in
          let es = deltas_in (hosted_after (hosted_of m) (o.run.turns ++ o.tried)) n in
          inl (left_either b g n [] es tells (o.moved.kept kept.0) (apart_at_end m b (o.run.turns ++ o.tried) o.moved apart) closed (container_there (entries_of b) n b.containers.in_order (ap is_some here))
          (subst (λ (ds : List DeltaOf). IfSome (container_in b n) (IsFileOfEither n ds es)) none (o.left.files kept.0 kept.1 n)))
      first_file apart n new sent none None here =
          let kept = loaded.kept tells in
          let alone : (k : Key) → IsSome (container_in b k) → file_name_of k ≢ file_name_of n = λ k some same.
          true≢false (sym some ∙ ap (λ (j : Key). is_some (container_in b j)) (apart k n (from_either m b (o.run.turns ++ o.tried) o.moved k some) (inr sent) same) ∙ ap is_some here) in
          inr (unmade_at_end m b f g (file_name_of n) folder_tells kept.0.filed (if_some_at _ _ f is (loaded.as_before tells)) (closed.others tells)
          (o.left.unmade (file_name_of n) (λ file. alone file.0 file.1 file.2)
          (λ file. alone file.0 (ap is_some (found_is (entries_of b) file.0 (has_delta file.0 file.1).filed (has_delta file.0 file.1).is)) (sym file.2)))
          (λ k some same. true≢false (sym some ∙ ap (λ (j : Key). is_some (container_in m j)) (apart k n (inl some) (inr sent) (sym same)) ∙ new))
          (λ file. alone file.0 file.1 file.2))
        where
          has_delta : (k : Key) → deltas_in (hosted_after (hosted_of m) o.run.turns) k ≢ [] → HasContainer (entries_of b) k
          has_delta k some = has_container (entries_of b) k b.containers.in_order (λ gone. some (nothing_before (deltas_in (hosted_after (hosted_of m) o.run.turns) k) (deltas_in (hosted_of b) k) (o.grown k) gone))

  -- a file is one of the containers', or it isn't
  has_file : (es : List (Key × Filed D disk)) (l : List ℕ) → ((n : Key) × IsSome (found es n) × (file_name_of n ≡ l)) ⊎ ((n : Key) → IsSome (found es n) → file_name_of n ≢ l)
  has_file [] l = inr (λ n some same. absurd (true≢false (sym some)))
  has_file (e ∷ es) l = go (same_or_not (file_name_of e.0) l) (has_file es l)
    where
      here : (n : Key) → is_some (found (e ∷ es) n) ≡ cond (same_text n e.0) true (is_some (found es n))
      here n = elim (same_text n e.0) as (λ b. is_some (option_map (λ (f : Filed D disk). f.container) (cond b (Some e.1) (lookup (same_text n) es))) ≡ cond b true (is_some (found es n))) [ true ↦ refl | false ↦ refl ]

      go : (file_name_of e.0 ≡ l) ⊎ (file_name_of e.0 ≢ l) → ((n : Key) × IsSome (found es n) × (file_name_of n ≡ l)) ⊎ ((n : Key) → IsSome (found es n) → file_name_of n ≢ l)
          → ((n : Key) × IsSome (found (e ∷ es) n) × (file_name_of n ≡ l)) ⊎ ((n : Key) → IsSome (found (e ∷ es) n) → file_name_of n ≢ l)
      go (inl is) rest = inl (e.0, here e.0 ∙ ap (λ b. cond b true (is_some (found es e.0))) (own e.0), is)
      go (inr other) (inl x) = inl (x.0, here x.0 ∙ ap (λ b. cond (same_text x.0 e.0) true b) x.1 ∙ either (same_text x.0 e.0), x.2)
        where
          either : (b : Bool) → cond b true true ≡ true
          either true = refl
          either false = refl
      go (inr other) (inr none) = inr (λ n some. past n (same_text n e.0) refl (sym (here n) ∙ some))
        where
          past : (n : Key) (b : Bool) → same_text n e.0 ≡ b → cond b true (is_some (found es n)) ≡ true → file_name_of n ≢ l
          past n true same some is = other (ap file_name_of (sym ((bytes_decides n e.0).0 same)) ∙ is)
          past n false same some is = none n some is

  -- histories that were looked at alone
  files_as_before : (a m : Shelf F D folder disk) (f g : F) → IsTrue disk.tells → in_folder a ≡ Some f → IsLoaded a m → IsClosed m g → (l : List ℕ) → IsAsBefore disk.view (folder.files f l) (folder.files g l)
  files_as_before a m f g tells is loaded closed l = go (has_file (entries_of m) l)
    where
      filed : (n : Key) (o : Option (Container D disk)) → IsSome o → IfSome o (λ c. IsReadFrom (folder.files f (file_name_of n)) c) → IfSome o (λ c. IfSome (journal_of c) (λ j. IsPutBack disk.view (on_disk j) (folder.files g (file_name_of n))))
          → IsAsBefore disk.view (folder.files f (file_name_of n)) (folder.files g (file_name_of n))
      filed n None some read back = absurd (true≢false (sym some))
      filed n (Some c) some read back = put_as_read folder c (folder.files f (file_name_of n)) (folder.files g (file_name_of n)) read back

      other : (o : Option F) → IfSome o (λ h. ((n : Key) → IsSome (container_in m n) → l ≢ file_name_of n) → IsAsBefore disk.view (folder.files f l) (folder.files h l)) → IfSome o (λ h. (HasFile m l → ⊥) → folder.files g l ≡ folder.files h l) → IsStillIn folder (Some f) o
          → ((n : Key) → IsSome (container_in m n) → file_name_of n ≢ l) → IsAsBefore disk.view (folder.files f l) (folder.files g l)
      other None one two still none = absurd still
      other (Some h) one two still none = subst (IsAsBefore disk.view (folder.files f l)) (sym (two (λ file. none file.0 file.1 file.2))) (one (λ n some same. none n some (sym same)))

      go : ((n : Key) × IsSome (found (entries_of m) n) × (file_name_of n ≡ l)) ⊎ ((n : Key) → IsSome (found (entries_of m) n) → file_name_of n ≢ l) → IsAsBefore disk.view (folder.files f l) (folder.files g l)
      go (inl x) = subst (λ (k : List ℕ). IsAsBefore disk.view (folder.files f k) (folder.files g k)) x.2
          (filed x.0 (container_in m x.0) x.1 (if_some_at _ _ f is (loaded.read tells) x.0) (closed.back tells loaded.apart x.0))
      go (inr none) = other (in_folder m) (each (in_folder m) (if_some_at _ _ f is (loaded.as_before tells))) (every (in_folder m) (closed.others tells)) (subst (λ o. IsStillIn folder o (in_folder m)) is loaded.still) none
        where
          each : (o : Option F) → IfSome o (λ h. (k : List ℕ) → ((n : Key) → IsSome (container_in m n) → k ≢ file_name_of n) → IsAsBefore disk.view (folder.files f k) (folder.files h k))
              → IfSome o (λ h. ((n : Key) → IsSome (container_in m n) → l ≢ file_name_of n) → IsAsBefore disk.view (folder.files f l) (folder.files h l))
          each None h = tt
          each (Some x) h = h l

          every : (o : Option F) → IfSome o (λ h. (k : List ℕ) → (HasFile m k → ⊥) → folder.files g k ≡ folder.files h k) → IfSome o (λ h. (HasFile m l → ⊥) → folder.files g l ≡ folder.files h l)
          every None h = tt
          every (Some x) h = h l

  read_run : (P : List Hosted → Type 0) (a m b : Shelf F D folder disk) (f g : F) → IsTrue folder.tells → IsTrue disk.tells → in_folder a ≡ Some f → IsLoaded a m → b ≡ m → P (hosted_of m) → IsClosed b g → IsReadRun folder disk P (folder.log f).entries f g
  read_run P a m b f g folder_tells tells is loaded same answered closed =
      let here : IsClosed m g = subst (λ (s : Shelf F D folder disk). IsClosed s g) same closed in
      record {
        hosted = hosted_of m;
        loaded = λ n. is_some (container_in m n);
        standing = standing a m f tells is loaded;
        entered = still_closed a m f g is loaded.still here.still folder_tells;
        answered = answered;
        as_before = files_as_before a m f g tells is loaded here;
      }

  -- by the service
  pub stored_as : (service : Service) (a b : Shelf F D folder disk) (f g : F) (was : K) (left0 left1 held0 held1 : Option (List ℕ)) (status : ℕ)
      → IsTrue folder.tells → IsTrue disk.tells → in_folder a ≡ Some f → ((m : Shelf F D folder disk) (ts : List Turn) → All (λ s. Held.IsHeld (hosted_after (hosted_of m) ts) s.message) (sent (start (hosted_of m)) ts))
      → IsShelfRun clock service a b was left0 left1 held0 held1 status → IsClosed b g → IsStoredAs folder disk clock service (folder.log f).entries f g was left0 left1 held0 held1 status
  stored_as Lines a b f g was left0 left1 held0 held1 status folder_tells tells is held r closed = stored_run a r.shelf b f g was left0 left1 held0 held1 status folder_tells tells is held r.loaded r.done closed
  stored_as (Play wavelet) a b f g was left0 left1 held0 held1 status folder_tells tells is held r closed =
      read_run (λ hs. IsPlayed hs wavelet left0 left1 held0 held1 status) a r.shelf b f g folder_tells tells is r.loaded r.done.0 r.done.1 closed
  stored_as (Inbox user) a b f g was left0 left1 held0 held1 status folder_tells tells is held r closed =
      read_run (λ hs. IsListed hs user left0 left1 held0 held1 status) a r.shelf b f g folder_tells tells is r.loaded r.done.0 r.done.1 closed

  -- whatever was sent is so of the histories
  pub all_held : Held.SentIsHeld → (m : Shelf F D folder disk) (ts : List Turn) → All (λ s. Held.IsHeld (hosted_after (hosted_of m) ts) s.message) (sent (start (hosted_of m)) ts)
  all_held law m ts = law.all_held (start (hosted_of m)) ts (shown_ascend (histories (entries_of m)) (hist_ascends deltas_of (entries_of m) m.containers.in_order.0))

  -- a run that ended before its first line
  pub unloaded_run : (a b : Shelf F D folder disk) (f g : F) (held0 held1 : Option (List ℕ)) (before now status : ℕ) → IsTrue folder.tells → IsTrue disk.tells → in_folder a ≡ Some f → IsShelfUnloaded a b held0 held1 before now status → IsClosed b g
      → IsUnloaded folder disk (folder.log f).entries f g held0 held1 before now status
  unloaded_run a b f g held0 held1 before now status folder_tells tells is u closed = record {
    known = u.known;
    silent = u.silent;
    damaged = λ six. let d = u.damaged six in (d.0, d.1, d.2, if_some_at _ _ f is (d.3 tells));
    as_before = go (in_folder b) (if_some_at _ _ f is (u.as_before tells)) (closed.others tells) (subst (λ o. IsStillIn folder o (in_folder b)) is u.still);
    entered = inl (still_closed a b f g is u.still closed.still folder_tells);
  }
    where
      no_container : (n : Key) → IsSome (container_in b n) → ⊥
      no_container n some = true≢false (sym some ∙ ap (λ (es : List (Key × Filed D disk)). is_some (found es n)) u.none)

      go : (o : Option F) → IfSome o (λ h. (m : List ℕ) → ((n : Key) → IsSome (container_in b n) → m ≢ file_name_of n) → IsAsBefore disk.view (folder.files f m) (folder.files h m))
          → IfSome o (λ h. (m : List ℕ) → (HasFile b m → ⊥) → folder.files g m ≡ folder.files h m) → IsStillIn folder (Some f) o → (m : List ℕ) → IsAsBefore disk.view (folder.files f m) (folder.files g m)
      go None one two still m = absurd still
      go (Some h) one two still m = subst (IsAsBefore disk.view (folder.files f m)) (sym (two m (λ file. no_container file.0 file.1))) (one m (λ n some. absurd (no_container n some)))

  -- no file was used
  pub never_read : (entries : List Entry) (f g : F) (held : Option (List ℕ)) (before now status : ℕ) → (status ≡ 5) ⊎ (status ≡ 8) → ((m : List ℕ) → folder.files g m ≡ folder.files f m)
      → ((folder.log g).entries ≡ entries) ⊎ ((status ≡ 8) × ((folder.log g).entries ≡ (folder.log f).entries)) → IsUnloaded folder disk entries f g held held before now status
  never_read entries f g held before now status known same entered = record {
    known = elim known [ inl e ↦ inl e | inr e ↦ inr (inr e) ];
    silent = λ s. refl;
    damaged = λ six. absurd (not_six known six);
    as_before = λ m. subst (IsAsBefore disk.view (folder.files f m)) (sym (same m)) (as_it_is disk.view (folder.files f m));
    entered = entered;
  }
    where
      not_six : (status ≡ 5) ⊎ (status ≡ 8) → status ≡ 6 → ⊥
      not_six (inl e) six = omega (arith, e, six)
      not_six (inr e) six = omega (arith, e, six)

  -- faults of the folder, where those of its shelf rose
  pub folder_rose : (a b : Shelf F D folder disk) (f g : F) → in_folder a ≡ Some f → entries_of a ≡ [] → IsClosed b g → Rose (fault_count a) (fault_count b) → Rose (folder.faults f) (folder.faults g)
  folder_rose a b f g is empty closed rose =
      let count : fault_count a ≡ min (folder.faults f + 0) (2 ^ 64 - 1) =
      ap (λ o. min (folder_faults folder.faults o + faults_in (entries_of a)) (2 ^ 64 - 1)) is ∙ ap (λ es. min (folder.faults f + faults_in {disk = disk} es) (2 ^ 64 - 1)) empty in
      omega (arith, count, closed.counted, rose)

  -- over files that read the same
  pub same_standing : (f e : F) (hs : List Hosted) (loaded : Key → Bool) → ((m : List ℕ) → folder.files e m ≡ folder.files f m) → AreStanding folder disk e hs loaded → AreStanding folder disk f hs loaded
  same_standing f e hs loaded same s = record {
    ascending = s.ascending;
    stand = λ n is. subst (λ (o : Option D). IsFileOf disk.view o n (deltas_in hs n)) (same (file_name_of n)) (s.stand n is);
    are_loaded = s.are_loaded;
    all = record {
      each = λ n ds name some. subst (λ (o : Option D). IfSome o (λ d. StandsForHistory n ds (disk.view d).seen → deltas_in hs n ≡ ds)) (same (file_name_of n)) (s.all.each n ds name some);
    };
    sound = λ m. subst (λ (o : Option D). IsSound disk.view o m) (same m) (s.sound m);
    apart = s.apart;
  }

  same_run : (entries : List Entry) (f e g : F) (was : K) (left0 left1 held0 held1 : Option (List ℕ)) (status : ℕ) → ((m : List ℕ) → folder.files e m ≡ folder.files f m) → (folder.log e).entries ≡ entries
      → IsStoredRun folder disk clock (folder.log e).entries e g was left0 left1 held0 held1 status → IsStoredRun folder disk clock entries f g was left0 left1 held0 held1 status
  same_run entries f e g was left0 left1 held0 held1 status same entered r = record {
    hosted = r.hosted;
    loaded = r.loaded;
    standing = same_standing f e r.hosted r.loaded same r.standing;
    entered = r.entered ∙ entered;
    known = r.known;
    run = r.run;
    tried = r.tried;
    lines = r.lines;
    held = r.held;
    stored = r.stored;
    whole = r.whole;
    one = r.one;
    left = r.left;
    moments = λ apart n is. subst (λ (o : Option D). IsFileSince disk.view o (folder.files g (file_name_of n)) (StandsAlong (start r.hosted) n (r.run.turns ++ r.tried))) (same (file_name_of n)) (r.moments apart n is);
    begun = r.begun;
    first = λ apart n new sent none. subst (λ (o : Option D). IsFileTried disk.view o (folder.files g (file_name_of n)) n (deltas_in (hosted_after r.hosted (r.run.turns ++ r.tried)) n)) (same (file_name_of n)) (r.first apart n new sent none);
    others = λ m none. subst (λ (o : Option D). IsAsBefore disk.view o (folder.files g m)) (same m) (r.others m none);
  }

  same_read : (P : List Hosted → Type 0) (entries : List Entry) (f e g : F) → ((m : List ℕ) → folder.files e m ≡ folder.files f m) → (folder.log e).entries ≡ entries → IsReadRun folder disk P (folder.log e).entries e g → IsReadRun folder disk P entries f g
  same_read P entries f e g same entered r = record {
    hosted = r.hosted;
    loaded = r.loaded;
    standing = same_standing f e r.hosted r.loaded same r.standing;
    entered = r.entered ∙ entered;
    answered = r.answered;
    as_before = λ m. subst (λ (o : Option D). IsAsBefore disk.view o (folder.files g m)) (same m) (r.as_before m);
  }

  pub same_as : (service : Service) (entries : List Entry) (f e g : F) (was : K) (left0 left1 held0 held1 : Option (List ℕ)) (status : ℕ) → ((m : List ℕ) → folder.files e m ≡ folder.files f m) → (folder.log e).entries ≡ entries
      → IsStoredAs folder disk clock service (folder.log e).entries e g was left0 left1 held0 held1 status → IsStoredAs folder disk clock service entries f g was left0 left1 held0 held1 status
  same_as Lines entries f e g was left0 left1 held0 held1 status same entered r = same_run entries f e g was left0 left1 held0 held1 status same entered r
  same_as (Play wavelet) entries f e g was left0 left1 held0 held1 status same entered r = same_read (λ hs. IsPlayed hs wavelet left0 left1 held0 held1 status) entries f e g same entered r
  same_as (Inbox user) entries f e g was left0 left1 held0 held1 status same entered r = same_read (λ hs. IsListed hs user left0 left1 held0 held1 status) entries f e g same entered r

  pub same_unloaded : (entries : List Entry) (f e g : F) (held0 held1 : Option (List ℕ)) (before now status : ℕ) → ((m : List ℕ) → folder.files e m ≡ folder.files f m) → (folder.log e).entries ≡ entries → IsUnloaded folder disk (folder.log e).entries e g held0 held1 before now status
      → IsUnloaded folder disk entries f g held0 held1 before now status
  same_unloaded entries f e g held0 held1 before now status same entered u = record {
    known = u.known;
    silent = u.silent;
    damaged = λ six. let d = u.damaged six in (
      d.0,
      d.1,
      d.2,
      record {
        named = d.3.named;
        refused = subst (λ (o : Option D). IsRefusedFile disk.view o d.0 d.1) (same d.0) d.3.refused;
        first = λ m less. subst (λ (o : Option D). IsSound disk.view o m) (same m) (d.3.first m less);
      },
    );
    as_before = λ m. subst (λ (o : Option D). IsAsBefore disk.view o (folder.files g m)) (same m) (u.as_before m);
    entered = elim u.entered [ inl e ↦ inl (e ∙ entered) | inr e ↦ inl (e.1 ∙ entered) ];
  }
