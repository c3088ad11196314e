-- Folders that are used.
--     still_as, still_used, still_on       no path was entered: where nothing was done; by a call that uses it; by one and another
--     still_in_on                          so it is of a folder before and after
--     used_as, used_on, used_more          at most some files changed: where nothing was done; by one and another; or others, too
--     used_there, used_still               where there was one, there is one; no path was entered
--     used_by                              a call that may change one file
--     unmade_as                            a file stands as it was, where nothing was done
use Rattle.std.proofs.Common.{◌≡◌, ◌↔◌, inl, ℕ, List, Option, Some, None, IsSome, IsTrue, refl, ap, ◌∙◌}
use Rattle.disk_model.specs.declared.disk.Disk as disk_of
use Rattle.wave_outside.specs.Folders.{FolderLog, IsElsewhere, used_log}
use Rattle.wave_outside.specs.declared.folder.Folder as folder_of
use Rattle.wavelet_shelf.specs.Folders.{IsStill, IsStillIn, IsUsed, IsUsedIn, IsUnmadeIn}

module _ {F D : Type 0} (folder : folder_of.Ghosts F D) where
  pub still_as : (f : F) → IsStill folder f f
  still_as f told = refl

  pub still_used : (f g : F) → (IsTrue folder.tells → folder.log g ≡ used_log (folder.log f)) → IsStill folder f g
  still_used f g call told = ap (λ (l : FolderLog). l.entries) (call told)

  pub still_on : (f g h : F) → IsStill folder f g → IsStill folder g h → IsStill folder f h
  still_on f g h one two told = two told ∙ one told

  pub still_in_on : (o p q : Option F) → IsStillIn folder o p → IsStillIn folder p q → IsStillIn folder o q
  still_in_on None None None one two = tt
  still_in_on None None (Some h) one two = absurd two
  still_in_on None (Some g) q one two = absurd one
  still_in_on (Some f) None q one two = absurd one
  still_in_on (Some f) (Some g) None one two = absurd two
  still_in_on (Some f) (Some g) (Some h) one two = still_on f g h one two

  -- ---- at most some files changed

  module _ (may : List ℕ → Type 0) where
    pub used_as : (o : Option F) → IsUsedIn folder may o o
    used_as None = tt
    used_as (Some f) = record { still = still_as f; others = λ told m not. refl }

    pub used_on : (o p q : Option F) → IsUsedIn folder may o p → IsUsedIn folder may p q → IsUsedIn folder may o q
    used_on None None None one two = tt
    used_on None None (Some h) one two = absurd two
    used_on None (Some g) q one two = absurd one
    used_on (Some f) None q one two = absurd one
    used_on (Some f) (Some g) None one two = absurd two
    used_on (Some f) (Some g) (Some h) one two = record { still = still_on f g h one.still two.still; others = λ told m not. two.others told m not ∙ one.others told m not }

    pub used_there : (o p : Option F) → IsUsedIn folder may o p → IsSome o ↔ IsSome p
    used_there None None one = (λ some. some, λ some. some)
    used_there None (Some g) one = absurd one
    used_there (Some f) None one = absurd one
    used_there (Some f) (Some g) one = (λ some. refl, λ some. refl)

    pub used_still : (o p : Option F) → IsUsedIn folder may o p → IsStillIn folder o p
    used_still None None one = tt
    used_still None (Some g) one = absurd one
    used_still (Some f) None one = absurd one
    used_still (Some f) (Some g) one = one.still

  pub used_more : (may more : List ℕ → Type 0) → ((m : List ℕ) → may m → more m) → (o p : Option F) → IsUsedIn folder may o p → IsUsedIn folder more o p
  used_more may more then None None one = tt
  used_more may more then None (Some g) one = absurd one
  used_more may more then (Some f) None one = absurd one
  used_more may more then (Some f) (Some g) one = record { still = one.still; others = λ told m not. one.others told m (λ may. not (then m may)) }

  pub used_by : (n : List ℕ) (f g : F) → (IsTrue folder.tells → folder.log g ≡ used_log (folder.log f)) → (IsTrue folder.tells → IsElsewhere n (folder.files f) (folder.files g)) → IsUsed folder (λ m. m ≡ n) f g
  used_by n f g call others = record { still = still_used f g call; others = λ told m not. others told m not }

module _ {F D : Type 0} (folder : folder_of.Ghosts F D) (disk : disk_of.Ghosts D) where
  pub unmade_as : (m : List ℕ) (o : Option F) → IsUnmadeIn folder disk m o o
  unmade_as m None = tt
  unmade_as m (Some f) = λ told. inl refl
