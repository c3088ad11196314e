-- What comes of one file.
--     step_read, step_passed, step_refused      its history came to the others; it stands for none; it wasn't read
--     step_kept                                 its disk wasn't handed out
use Rattle.std.proofs.Common.{◌≡◌, inl, inr, ⊎_elim, ℕ, ◌+◌, ◌-◌, ◌^◌, ◌≤◌, min, Bool, true, false, List, insert, Option, Some, None, Ok, Err, Result, IsSome, IfSome, IsTrue, is_some, string_bytes, refl, sym, ap, subst, ◌∙◌, true≢false, arith}
use Rattle.doc_items.specs.Maps.{Key}
use Rattle.disk_model.specs.Disk.{DiskView, OnlyRead, LeavesJust, Rose as HasRisen}
use Rattle.disk_model.specs.declared.disk.Disk as disk_of
use Rattle.delta_journal.specs.File.{HasName, HasNoHeader}
use Rattle.delta_journal.specs.Journal.{on_disk, needs_repair}
use Rattle.delta_journal.specs.declared.journal.Journal.{Journal}
use Rattle.wave_outside.specs.Counts.{Rose}
use Rattle.wave_outside.specs.Folders.{AddsOnly, IsSameFile, IsHanded, IsPutBack, IsElsewhere, IsSame, IsOld, ReadsAsBefore, IsAsBefore}
use Rattle.wave_outside.specs.declared.folder.Folder as folder_of
use Rattle.wave_outside.proofs.Handing.{adds_run, adds_more, adds_both, adds_handed, adds_back}
use Rattle.wavelet_container.specs.Containers.{history_of, journal_of, IsHeld}
use Rattle.wavelet_container.specs.Records.{StandsForHistory, IsDamagedHistory}
use Rattle.wavelet_container.specs.declared.container.Container.{Container}
use Rattle.wavelet_container.specs.declared.fault.LoadFault.TheVariants.{Damaged, DiskFault}
use Rattle.wavelet_container.specs.declared.load.LoadRefused.{LoadRefused}
use Rattle.wavelet_shelf.specs.Entries.{faults_of, faults_in, IsPut}
use Rattle.wavelet_shelf.specs.Faults.{damage_of}
use Rattle.wavelet_shelf.specs.Folders.{most_faults, IsFileStep}
use Rattle.wavelet_shelf.specs.Loads.{IsReadAs, IsReadFrom, IsOwnName, IsRefused, IsRefusedFile, IsOpenedAs, IsPassedAs, IsOpened, IsUnopened}
use Rattle.wavelet_shelf.specs.declared.fault.ShelfFault.{ShelfFault}
use Rattle.wavelet_shelf.specs.declared.fault.ShelfFault.TheVariants.{Failed}
use Rattle.wavelet_shelf.specs.declared.filed.Filed.{Filed}
use Rattle.wavelet_shelf.specs.declared.opened.Opened.{Opened}
use Rattle.wavelet_shelf.specs.declared.opened.Opened.TheVariants.{Read, Passed}
use Rattle.wavelet_shelf.proofs.Answering.{safe_file}
use Rattle.wavelet_shelf.proofs.Loading.{as_it_is}
use Rattle.wavelet_shelf.proofs.Names.{same_or_not}
use Rattle.wavelet_shelf.proofs.Placing.{length_keys}
use Rattle.wavelet_shelf.proofs.Shelving.{count_of, faults_total, same_Err}
use Rattle.wavelet_shelf.proofs.Sums.{sum_put}

added_later : (f g c s t m : ℕ) → f ≤ g → t ≡ s + c → min (f + s) m ≤ min (g + t) m
added_later f g c s t m le e = omega (arith, le, e)

back_later : (f g h k s m : ℕ) → f ≤ g → h ≡ min (g + k) m → min (f + s) m ≤ min (h + s) m
back_later f g h k s m le e = omega (arith, le, e)

back_rose : (f g h d k s m : ℕ) → f ≤ g → d ≡ 0 → min (d + 1) m ≤ k → h ≡ min (g + k) m → min (min (f + s) m + 1) m ≤ min (h + s) m
back_rose f g h d k s m le none rose e = omega (arith, le, none, rose, e)

kept_rose : (f g s m : ℕ) → min (f + 1) m ≤ g → min (min (f + s) m + 1) m ≤ min (g + s) m
kept_rose f g s m rose = omega (arith, rose)

kept_later : (f g s m : ℕ) → f ≤ g → min (f + s) m ≤ min (g + s) m
kept_later f g s m le = omega (arith, le)

old_handed : (x d : DiskView) → IsSameFile x d → (c : List ℕ) → IsOld d c → IsOld x c
old_handed x d handed c old = ⊎_elim (λ was. inl (handed.crash c was)) (λ is. inr (is ∙ handed.seen)) old

-- of the file that is there, of the disk that was handed out for it, and of the one that was put back
put_back : (x d k y : DiskView) → IsSameFile x d → ReadsAsBefore d k → IsSameFile k y → ReadsAsBefore x y
put_back x d k y handed read put = record {
  seen = put.seen ∙ read.seen ∙ handed.seen;
  images = λ c left. old_handed x d handed c (read.images c (put.crash c left));
  moments = adds_back x k y (IsOld x) (adds_handed x d k (IsOld x) handed (adds_more d k (IsOld d) (IsOld x) (old_handed x d handed) read.moments)) put;
}

module _ {F D : Type 0} (folder : folder_of.Ghosts F D) {disk : disk_of.Ghosts D} (f : F) (m : List ℕ) (es : List (Key × Filed D disk)) where
  handed_from : (o : Option D) (d : DiskView) (P : DiskView → Type 0) → IsSome o → IsHanded disk.view o d → ((x : DiskView) → IsSameFile x d → P x) → IfSome o (λ x. P (disk.view x))
  handed_from None d P some handed k = tt
  handed_from (Some x) d P some handed k = k (disk.view x) handed

  as_before_from : (o p : Option D) (d k : DiskView) → IsSome o → IsHanded disk.view o d → ReadsAsBefore d k → IsPutBack disk.view k p → IsAsBefore disk.view o p
  as_before_from None p d k some handed read put = absurd (true≢false (sym some))
  as_before_from (Some x) None d k some handed read put = absurd put
  as_before_from (Some x) (Some y) d k some handed read put = put_back (disk.view x) d k (disk.view y) handed read put

  read_from : (o : Option D) (d : DiskView) (c : Container D disk) → IsSome o → IsHanded disk.view o d → IsReadAs d c → IsReadFrom o c
  read_from None d c some handed read = absurd (true≢false (sym some))
  read_from (Some x) d c some handed read = record {
    stands = subst (StandsForHistory (history_of c).name (history_of c).deltas) handed.seen read.stands;
    journal = read.journal;
    is = read.is;
    read = read.read ∙ handed.seen;
    images = λ b left. read.images b left ∙ handed.seen;
    moments = adds_handed (disk.view x) d (on_disk read.journal) (IsOld (disk.view x)) handed (adds_more d (on_disk read.journal) (IsOld d) (IsOld (disk.view x)) (old_handed (disk.view x) d handed) read.moments);
  }

  refused_from : (o : Option D) (d : DiskView) (offset : ℕ) → IsSome o → IsHanded disk.view o d → IsRefused m offset d.seen → IsRefusedFile disk.view o m offset
  refused_from None d offset some handed refused = absurd (true≢false (sym some))
  refused_from (Some x) d offset some handed refused = subst (IsRefused m offset) handed.seen refused

  module _ (there : IsTrue disk.tells → IsSome (folder.files f m)) where
    pub step_read : (g : F) (d : DiskView) (es' : List (Key × Filed D disk)) (key : Key) (c : Container D disk) (filed : Filed D disk) → filed.container ≡ c → string_bytes filed.file ≡ m
        → (IsTrue disk.tells → IsHanded disk.view (folder.files f m) d) → (IsTrue disk.tells → IsElsewhere m (folder.files f) (folder.files g)) → folder.faults f ≤ folder.faults g
        → IsOpenedAs m d key filed.container → IsPut key filed es es' → IsFileStep folder f g m es es' (Ok tt)
    step_read g d es' key c filed is file handed others counts opened put = record {
      read = record {
        what = inr (record {
          name = key;
          filed = filed;
          own = opened.own;
          named = (opened.named, file ∙ sym opened.own.file_is);
          put = put;
          header = λ told. handed_from (folder.files f m) d (λ x. HasName (Some key) x.seen) (there told) (handed told) (λ x same. subst (HasName (Some key)) same.seen (opened.header told));
          read = λ told. read_from (folder.files f m) d filed.container (there told) (handed told) (opened.read told);
          held = opened.held;
          safe = opened.safe;
        });
        others = others;
      };
      back = tt;
      damaged = tt;
      later = added_later (folder.faults f) (folder.faults g) (faults_of filed.container) (faults_in es) (faults_in es') most_faults counts
          (ap faults_in put.is ∙ faults_total (insert es put.at (key, filed)) ∙ sum_put count_of es put.at (key, filed) (subst (λ k. put.at ≤ k) (length_keys es) put.place.inside) ∙ ap (λ t. t + faults_of filed.container) (sym (faults_total es)));
      failed = λ e. absurd (ok_err e);
    }
      where
        ok_err : {T E : Type 0} {x : T} {y : E} → ◌≡◌ {A = Result T E} (Ok x) (Err y) → ⊥
        ok_err e = cc

    pub step_passed : (g h : F) (d : DiskView) (k : D) → (IsTrue disk.tells → IsHanded disk.view (folder.files f m) d) → (IsTrue disk.tells → IsElsewhere m (folder.files f) (folder.files g)) → folder.faults f ≤ folder.faults g
        → IsPassedAs disk d k → (IsTrue disk.tells → IsPutBack disk.view (disk.view k) (folder.files h m)) → (IsTrue disk.tells → IsElsewhere m (folder.files g) (folder.files h)) → folder.faults h ≡ min (folder.faults g + (disk.view k).faults) most_faults → IsFileStep folder f h m es es (Ok tt)
    step_passed g h d k handed others counts passed back after counted = record {
      read = record {
        what = inl (record {
          same = refl;
          file = λ told. handed_from (folder.files f m) d (λ x. HasNoHeader x.seen) (there told) (handed told) (λ x same. subst HasNoHeader same.seen (passed.none told));
          back = λ told. as_before_from (folder.files f m) (folder.files h m) d (disk.view k) (there told) (handed told) passed.as_before (back told);
        });
        others = λ told l other. after told l other ∙ others told l other;
      };
      back = tt;
      damaged = tt;
      later = back_later (folder.faults f) (folder.faults g) (folder.faults h) (disk.view k).faults (faults_in es) most_faults counts counted;
      failed = λ e. absurd (ok_err e);
    }
      where
        ok_err : {T E : Type 0} {x : T} {y : E} → ◌≡◌ {A = Result T E} (Ok x) (Err y) → ⊥
        ok_err e = cc

    pub step_refused : (g h : F) (d : DiskView) (r : LoadRefused D) (e : ShelfFault) → d.faults ≡ 0 → (IsTrue disk.tells → IsHanded disk.view (folder.files f m) d) → (IsTrue disk.tells → IsElsewhere m (folder.files f) (folder.files g)) → folder.faults f ≤ folder.faults g
        → IsUnopened disk m d r → (IsTrue disk.tells → IsPutBack disk.view (disk.view r.disk) (folder.files h m)) → (IsTrue disk.tells → IsElsewhere m (folder.files g) (folder.files h)) → folder.faults h ≡ min (folder.faults g + (disk.view r.disk).faults) most_faults
        → IfSome (damage_of e) (λ x. (x.0 ≡ m) × (r.fault ≡ Damaged x.1)) → (e ≡ Failed → r.fault ≡ DiskFault) → IsFileStep folder f h m es es (Err e)
    step_refused g h d r e none handed others counts unopened back after counted damage failed = record {
      read = tt;
      back = (
        refl,
        record {
          back = λ told some. as_before_from (folder.files f m) (folder.files h m) d (disk.view r.disk) (there told) (handed told) unopened.as_before (back told);
          others = λ told l other. after told l other ∙ others told l other;
        },
      );
      damaged = told_damage (damage_of e) damage;
      later = back_later (folder.faults f) (folder.faults g) (folder.faults h) (disk.view r.disk).faults (faults_in es) most_faults counts counted;
      failed = λ is. back_rose (folder.faults f) (folder.faults g) (folder.faults h) d.faults (disk.view r.disk).faults (faults_in es) most_faults counts none (unopened.failed (failed (same_Err is))) counted;
    }
      where
        told_damage : (o : Option (List ℕ × ℕ)) → IfSome o (λ x. (x.0 ≡ m) × (r.fault ≡ Damaged x.1)) → IfSome o (λ x. (x.0 ≡ m) × (IsTrue disk.tells → IsRefusedFile disk.view (folder.files f m) m x.1))
        told_damage None t = tt
        told_damage (Some x) t = (t.0, λ told. refused_from (folder.files f m) d x.1 (there told) (handed told) (unopened.damaged x.1 t.1 told))

    pub step_kept : (g : F) (e : ShelfFault) → (IsTrue disk.tells → IsSame (folder.files f) (folder.files g)) → folder.faults f ≤ folder.faults g → (e ≡ Failed → Rose (folder.faults f) (folder.faults g)) → damage_of e ≡ None → IsFileStep folder f g m es es (Err e)
    step_kept g e same counts failed whole = record {
      read = tt;
      back = (
        refl,
        record {
          back = λ told some. subst (IsAsBefore disk.view (folder.files f m)) (sym (same told m)) (as_it_is disk.view (folder.files f m));
          others = λ told l other. same told l;
        },
      );
      damaged = subst (λ o. IfSome o (λ x. (x.0 ≡ m) × (IsTrue disk.tells → IsRefusedFile disk.view (folder.files f m) m x.1))) (sym whole) tt;
      later = kept_later (folder.faults f) (folder.faults g) (faults_in es) most_faults counts;
      failed = λ is. kept_rose (folder.faults f) (folder.faults g) (faults_in es) most_faults (failed (same_Err is));
    }

-- room for a disk that was handed out
pub keeps_room : (room room' : List ℕ → Bool) (m : List ℕ) → IsElsewhere m room room' → (room m ≡ true → room' m ≡ true) → (l : List ℕ) → room l ≡ true → room' l ≡ true
keeps_room room room' m others here l there = ⊎_elim
    (λ is. subst (λ k. room' k ≡ true) (sym is) (here (ap room (sym is) ∙ there)))
    (λ other. others l other ∙ there)
    (same_or_not l m)

pub damage_as : (o : Option (List ℕ × ℕ)) (a b : List ℕ) (P : ℕ → Type 0) → a ≡ b → IfSome o (λ x. (x.0 ≡ a) × P x.1) → IfSome o (λ x. (x.0 ≡ b) × P x.1)
damage_as o a b P is damage = subst (λ l. IfSome o (λ x. (x.0 ≡ l) × P x.1)) is damage

-- ---- what was only read before

old_read : (x y : DiskView) → OnlyRead x y → (c : List ℕ) → IsOld y c → IsOld x c
old_read x y first c old = ⊎_elim (λ was. first.images c was) (λ is. inr (is ∙ first.seen)) old

adds_read : (x y z : DiskView) → OnlyRead x y → AddsOnly y z (IsOld y) → AddsOnly x z (IsOld x)
adds_read x y z first second = adds_both x y z (IsOld x) (adds_run x y (IsOld x) first.moments) (adds_more y z (IsOld y) (IsOld x) (old_read x y first) second)

then_read : (x y z : DiskView) → OnlyRead x y → ReadsAsBefore y z → ReadsAsBefore x z
then_read x y z first second = record {
  seen = second.seen ∙ first.seen;
  images = λ c left. old_read x y first c (second.images c left);
  moments = adds_read x y z first second.moments;
}

risen_before : (a b c m : ℕ) → a ≤ b → min (b + 1) m ≤ c → min (a + 1) m ≤ c
risen_before a b c m le rose = omega (arith, le, rose)

le_before : (a b c : ℕ) → a ≤ b → b ≤ c → a ≤ c
le_before a b c one two = omega (arith, one, two)

module _ {K : Type 0} {disk : disk_of.Ghosts K} (m : List ℕ) (x y : DiskView) (first : OnlyRead x y) where
  pub opened_before : (o : Opened K disk) → IsOpened m y o → IsOpened m x o
  opened_before (Read n c) opened = record {
    own = opened.own;
    named = opened.named;
    header = λ told. subst (HasName (Some n)) first.seen (opened.header told);
    read = λ told. read_before (opened.read told);
    held = opened.held;
    safe = opened.safe;
  }
    where
      read_before : IsReadAs y c → IsReadAs x c
      read_before read = record {
        stands = subst (StandsForHistory (history_of c).name (history_of c).deltas) first.seen read.stands;
        journal = read.journal;
        is = read.is;
        read = read.read ∙ first.seen;
        images = λ b left. read.images b left ∙ first.seen;
        moments = adds_read x y (on_disk read.journal) first read.moments;
      }
  opened_before (Passed k) opened = record {
    none = λ told. subst HasNoHeader first.seen (opened.none told);
    as_before = then_read x y (disk.view k) first opened.as_before;
    faults = le_before x.faults y.faults (disk.view k).faults first.faults opened.faults;
  }

  pub unopened_before : (r : LoadRefused K) → IsUnopened disk m y r → IsUnopened disk m x r
  unopened_before r unopened = record {
    damaged = λ offset is told. subst (IsRefused m offset) first.seen (unopened.damaged offset is told);
    as_before = then_read x y (disk.view r.disk) first unopened.as_before;
    faults = le_before x.faults y.faults (disk.view r.disk).faults first.faults unopened.faults;
    failed = λ is. risen_before x.faults y.faults (disk.view r.disk).faults (2 ^ 64 - 1) first.faults (unopened.failed is);
  }

-- ---- a journal that was loaded

same_journal : {J : Type 0} {i j : J} → Some i ≡ Some j → i ≡ j
same_journal e = cc

module _ {K : Type 0} {disk : disk_of.Ghosts K} (m : List ℕ) (x : DiskView) (name : Key) where
  journal_at : (o : Option (Journal K disk)) (P : Journal K disk → Type 0) → IfSome o P → (j : Journal K disk) → o ≡ Some j → P j
  journal_at None P some j is = absurd (true≢false (sym (ap is_some is)))
  journal_at (Some i) P some j is = subst P (same_journal is) some

  pub opened_of : (key : Key) (c : Container K disk) → key ≡ name → (history_of c).name ≡ name → (IsTrue disk.tells → StandsForHistory name (history_of c).deltas x.seen) → (IsTrue disk.tells → IsHeld c)
      → IfSome (journal_of c) (λ j. needs_repair j ≡ false) → IfSome (journal_of c) (λ j. LeavesJust x.seen (on_disk j)) → IfSome (journal_of c) (λ j. OnlyRead x (on_disk j))
      → IsOwnName name m → (IsTrue disk.tells → HasName (Some name) x.seen) → IsOpenedAs m x key c
  opened_of key c is named exact held whole synced read own header = record {
    own = subst (λ n. IsOwnName n m) (sym is) own;
    named = named ∙ sym is;
    header = λ told. subst (λ n. HasName (Some n) x.seen) (sym is) (header told);
    read = λ told. let h = held told in record {
      stands = subst (λ n. StandsForHistory n (history_of c).deltas x.seen) (sym named) (exact told);
      journal = h.0;
      is = h.1;
      read = (journal_at (journal_of c) (λ j. OnlyRead x (on_disk j)) read h.0 h.1).seen;
      images = journal_at (journal_of c) (λ j. LeavesJust x.seen (on_disk j)) synced h.0 h.1;
      moments = adds_run x (on_disk h.0) (IsOld x) (journal_at (journal_of c) (λ j. OnlyRead x (on_disk j)) read h.0 h.1).moments;
    };
    held = held;
    safe = λ told. let h = held told in safe_file c h.0 h.1 h.2 (journal_at (journal_of c) (λ j. needs_repair j ≡ false) whole h.0 h.1);
  }

  pub unopened_of : (r : LoadRefused K) → ((offset : ℕ) → r.fault ≡ Damaged offset → IsTrue disk.tells → IsDamagedHistory name offset x.seen) → OnlyRead x (disk.view r.disk) → (r.fault ≡ DiskFault → HasRisen x (disk.view r.disk)) → IsOwnName name m → (IsTrue disk.tells → HasName (Some name) x.seen) → IsUnopened disk m x r
  unopened_of r damaged read failed own header = record {
    damaged = λ offset is told. inr (name, header told, inl (own, damaged offset is told));
    as_before = record { seen = read.seen; images = read.images; moments = adds_run x (disk.view r.disk) (IsOld x) read.moments };
    faults = read.faults;
    failed = failed;
  }
