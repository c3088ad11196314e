-- A shard, as contracts see it.
--     entries_of s       the history of the shard
--     copies_at s        the copies at the moment of its last mark
--     IsLoaded d k p s   a shard of that domain and number, of what the domain hosts on a shelf, with a mark for each delta
--     AreLoaded d k ps ss     each of some shards is loaded so, the first with the number k, each further one with the next
use Rattle.std.specs.Prelude.{◌≡◌, ℕ, ◌+◌, List, [], ◌∷◌}
use Rattle.doc_items.specs.Maps.{Key}
use Rattle.disk_model.specs.declared.disk.Disk as disk_of
use Rattle.wave_outside.specs.declared.folder.Folder as folder_of
use Rattle.session_core.specs.Access.{Shown}
use Rattle.wavelet_shelf.specs.Shelves.{hosted_of}
use Rattle.wavelet_shelf.specs.declared.shelf.Shelf.{Shelf}
use Rattle.hosted_copies.specs.Domains.{hosted_by}
use Rattle.shard_marks.specs.declared.mark.Mark.{Mark}
use Rattle.session_hub.specs.declared.shard.Shard.{Shard}
use Rattle.shard_marks.specs.Marks.{founded, loaded, shown_at}
use Rattle.session_hub.specs.Records.{marks_in}

module _ {F D : Type 0} {folder : folder_of.Ghosts F D} {disk : disk_of.Ghosts D} where
  abbrev pub entries_of : Shard F D folder disk → List Mark
  entries_of s = marks_in s.domain s.number s.records.items

  abbrev pub copies_at : Shard F D folder disk → Shown
  copies_at s = shown_at s.domain s.number (entries_of s)

  pub record IsLoaded (d : Key) (k : ℕ) (p : Shelf F D folder disk) (s : Shard F D folder disk) : Type 0 where
    pub domain : s.domain ≡ d
    pub number : s.number ≡ k
    pub entries : entries_of s ≡ founded d k (loaded (hosted_by d (hosted_of p)))

  abbrev pub AreLoaded : Key → ℕ → List (Shelf F D folder disk) → List (Shard F D folder disk) → Type 0
  AreLoaded d k [] [] = Unit {0}
  AreLoaded d k [] (s ∷ ss) = ⊥
  AreLoaded d k (p ∷ ps) [] = ⊥
  AreLoaded d k (p ∷ ps) (s ∷ ss) = IsLoaded d k p s × AreLoaded d (k + 1) ps ss
