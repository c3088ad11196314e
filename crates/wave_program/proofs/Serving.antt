-- A server's run over the files of a folder.
--     none_there       nothing is asked of what isn't there
--     told_other       a store that wasn't loaded isn't status 0
--     served_from      the marks begin with the histories for which the files stand
--     same_from        so they do over files that read the same
--     left_same        a folder's own files are there
--     left_before      files are there that are as before
--     left_from        files of one folder are there as those of another that has the same ones
use Rattle.std.proofs.Common.{◌≡◌, ◌∙◌, ◌⊎◌, inl, inr, arith, ℕ, List, Bool, true, false, true≢false, Option, Some, None, IfSome, IsTrue, is_some, sym, subst}
use Rattle.doc_items.specs.Maps.{Key}
use Rattle.disk_model.specs.declared.disk.Disk as disk_of
use Rattle.wave_outside.specs.declared.clock.Clock as clock_of
use Rattle.wave_outside.specs.declared.folder.Folder as folder_of
use Rattle.disk_model.specs.Disk.{DiskView}
use Rattle.wave_outside.specs.Folders.{Entry, IsAsBefore, IsReadAlike}
use Rattle.wavelet_shelf.proofs.Loading.{as_it_is}
use Rattle.wavelet_shelf.specs.Shelves.{in_folder, container_in, hosted_of}
use Rattle.wavelet_shelf.specs.declared.shelf.Shelf.{Shelf}
use Rattle.turn_cells.specs.declared.cells.Passes.{Passes}
use Rattle.shard_marks.specs.declared.mark.Mark.{Mark}
use Rattle.shard_marks.specs.Passes.{marks_of}
use Rattle.wave_server.specs.Running.{BeginWith}
use Rattle.wave_program.specs.Net.{IsServedFrom, AreLeft}
use Rattle.wave_program.specs.Store.{IsLoaded}
use Rattle.wave_program.proofs.Storing.{standing, same_standing}

pub none_there : {X : Type 0} (o : Option X) (P : X → Type 0) → is_some o ≡ false → IfSome o P
none_there None P h = tt
none_there (Some x) P h = absurd (true≢false h)

each_of : {X : Type 0} (o : Option X) (P Q : X → Type 0) → ((x : X) → P x → Q x) → IfSome o P → IfSome o Q
each_of None P Q f h = tt
each_of (Some x) P Q f h = f x h

pub told_other : {X : Type 0} (s : ℕ) → (s ≡ 5) ⊎ ((s ≡ 6) ⊎ (s ≡ 8)) → s ≡ 0 → X
told_other s (inl e) f = absurd (omega (arith, e, f))
told_other s (inr (inl e)) f = absurd (omega (arith, e, f))
told_other s (inr (inr e)) f = absurd (omega (arith, e, f))

module _ {F D K T : Type 0} (folder : folder_of.Ghosts F D) (disk : disk_of.Ghosts D) (clock : clock_of.Ghosts K) (d : Key) where
  pub served_from : (a m : Shelf F D folder disk) (f g : F) (o : Option (Passes T Mark)) → IsTrue disk.tells → in_folder a ≡ Some f → IsLoaded a m → (folder.log g).entries ≡ (folder.log f).entries
      → IfSome o (λ p. BeginWith d (hosted_of m) (marks_of p)) → IfSome o (λ p. IsServedFrom folder disk d (marks_of p) (folder.log f).entries f g)
  served_from a m f g o tells is loaded entered begun =
      each_of o (λ p. BeginWith d (hosted_of m) (marks_of p)) (λ p. IsServedFrom folder disk d (marks_of p) (folder.log f).entries f g)
      (λ p b. record {
        hosted = hosted_of m;
        loaded = λ n. is_some (container_in m n);
        standing = standing folder disk clock a m f tells is loaded;
        entered = entered;
        begun = b;
      })
      begun

  pub same_from : (entries : List Entry) (f e g : F) (o : Option (Passes T Mark)) → ((m : List ℕ) → folder.files e m ≡ folder.files f m) → (folder.log e).entries ≡ entries
      → IfSome o (λ p. IsServedFrom folder disk d (marks_of p) (folder.log e).entries e g) → IfSome o (λ p. IsServedFrom folder disk d (marks_of p) entries f g)
  same_from entries f e g o same entered served =
      each_of o (λ p. IsServedFrom folder disk d (marks_of p) (folder.log e).entries e g) (λ p. IsServedFrom folder disk d (marks_of p) entries f g)
      (λ p s. record {
        hosted = s.hosted;
        loaded = s.loaded;
        standing = same_standing folder disk clock f e s.hosted s.loaded same s.standing;
        entered = s.entered ∙ entered;
        begun = s.begun;
      })
      served

before_alike : {D : Type 0} (view : D → DiskView) (o p : Option D) → IsAsBefore view o p → IsReadAlike view o p
before_alike view None None h = tt
before_alike view None (Some g) h = absurd h
before_alike view (Some f) None h = absurd h
before_alike view (Some f) (Some g) h = record { seen = h.seen; images = h.images }

module _ {F D : Type 0} (folder : folder_of.Ghosts F D) (disk : disk_of.Ghosts D) where
  pub left_before : (f g : F) → ((m : List ℕ) → IsAsBefore disk.view (folder.files f m) (folder.files g m)) → AreLeft folder disk f g
  left_before f g before m = before_alike disk.view (folder.files f m) (folder.files g m) (before m)

  pub left_same : (f : F) → AreLeft folder disk f f
  left_same f = left_before f f (λ m. as_it_is disk.view (folder.files f m))

  pub left_from : (f e g : F) → ((m : List ℕ) → folder.files e m ≡ folder.files f m) → AreLeft folder disk e g → AreLeft folder disk f g
  left_from f e g same left m = subst (λ (o : Option D). IsReadAlike disk.view o (folder.files g m)) (same m) (left m)
