-- Runs of a server.
--     IfServe c P            P of the words of a command that is one of a server
--     IsServer c             it is such a command
--     IsEntered ..           nothing more was entered; for want of memory, maybe nothing at all
--     AreLeft f g            each file of one folder is in the other, where a read gives the same and a crash leaves no more
--     IsServedFrom .. marks  the folder was entered, and the marks of each shard begin with the histories for which its files stood
--     IsHostStatus s         a status with which a server's run ends
--     IsHostedFrom ..        what a run over a folder leaves of it, where these entries are logged then
--     IsHosted ..            what a run leaves of the folder, over that of a path where one is given
use Rattle.std.specs.Prelude.{◌≡◌, ◌⊎◌, ℕ, Bool, false, List, [], Option, Some, None, IfSome, IsSome, IsTrue, is_some}
use Rattle.doc_items.specs.Maps.{Key}
use Rattle.disk_model.specs.declared.disk.Disk as disk_of
use Rattle.wave_outside.specs.Counts.{Rose}
use Rattle.wave_outside.specs.declared.folder.Folder as folder_of
use Rattle.wave_outside.specs.declared.sink.Sink as sink_of
use Rattle.wave_outside.specs.Folders.{Entry, IsReadAlike}
use Rattle.command_words.specs.Peers.{Peer}
use Rattle.command_words.specs.Commands.{CommandOf, Pipe, Load, Play, Inbox, Serve, Edit}
use Rattle.wavelet_shelf.specs.Hosting.{Hosted}
use Rattle.turn_cells.specs.declared.cells.Passes.{Passes}
use Rattle.shard_marks.specs.declared.mark.Mark.{Mark}
use Rattle.shard_marks.specs.Passes.{marks_of}
use Rattle.wave_server.specs.Running.{BeginWith}
use Rattle.wave_server.specs.Statuses.{IsServerStatus}
use Rattle.wave_program.specs.Store.{AreStanding, IsUnloaded, entered_at}

abbrev pub IfServe : Option CommandOf → ((domain listen : List ℕ) → (peers : List Peer) → (sessions : Option ℕ)
    → (store : Option (List ℕ)) → Type 0) → Type 0
IfServe None P = Unit {0}
IfServe (Some (Pipe folder)) P = Unit {0}
IfServe (Some (Load n)) P = Unit {0}
IfServe (Some (Play folder wavelet)) P = Unit {0}
IfServe (Some (Inbox folder user)) P = Unit {0}
IfServe (Some (Serve domain listen peers sessions folder echo)) P = P domain listen peers sessions folder
IfServe (Some (Edit user client connect)) P = Unit {0}

abbrev pub IsServer : Option CommandOf → Type 0
IsServer None = ⊥
IsServer (Some (Pipe folder)) = ⊥
IsServer (Some (Load n)) = ⊥
IsServer (Some (Play folder wavelet)) = ⊥
IsServer (Some (Inbox folder user)) = ⊥
IsServer (Some (Serve domain listen peers sessions folder echo)) = Unit {0}
IsServer (Some (Edit user client connect)) = ⊥

-- the folder before and after it
abbrev pub IsEntered : {F D : Type 0} → folder_of.Ghosts F D → List Entry → F → F → ℕ → Type 0
IsEntered folder entries f g status = ((folder.log g).entries ≡ entries)
    ⊎ ((status ≡ 8) × ((folder.log g).entries ≡ (folder.log f).entries))

module _ {F D : Type 0} (folder : folder_of.Ghosts F D) (disk : disk_of.Ghosts D) where
  abbrev pub AreLeft : F → F → Type 0
  AreLeft f g = (m : List ℕ) → IsReadAlike disk.view (folder.files f m) (folder.files g m)

  -- the folder before and after it
  pub record IsServedFrom (d : Key) (marks : ℕ → List Mark) (entries : List Entry) (f g : F) : Type 0 where
    pub hosted : List Hosted
    pub loaded : Key → Bool
    pub standing : AreStanding folder disk f hosted loaded
    pub entered : (folder.log g).entries ≡ entries
    pub begun : BeginWith d hosted marks

abbrev pub IsHostStatus : ℕ → Type 0
IsHostStatus status = IsServerStatus status ⊎ ((status ≡ 5) ⊎ (status ≡ 6))

module _ {F D W T : Type 0} (folder : folder_of.Ghosts F D) (disk : disk_of.Ghosts D) (sink : sink_of.Ghosts W) (domain : Key) where
  -- what was seen; the folder and the sink, before and after
  pub record IsHostedFrom (entries : List Entry) (passes : Option (Passes T Mark)) (f g : F) (a b : W) (status : ℕ) : Type 0 where
    pub entered : IsTrue folder.tells → IsEntered folder entries f g status
    pub stored : IsTrue folder.tells → IsTrue disk.tells → IfSome passes (λ p. IsServedFrom folder disk domain (marks_of p) entries f g)
    pub unloaded : IsTrue folder.tells → IsTrue disk.tells → (status ≡ 5) ⊎ (status ≡ 6)
        → IsUnloaded folder disk entries f g (sink.written a) (sink.written b) (sink.faults a) (sink.faults b) status
    pub left : IsTrue folder.tells → IsTrue disk.tells → is_some passes ≡ false → AreLeft folder disk f g
    pub silent : (status ≡ 6 → ⊥) → b ≡ a
    pub store_failed : status ≡ 5 → Rose (folder.faults f) (folder.faults g)
    pub known : IsHostStatus status

  pub record IsHosted (store : Option (List ℕ)) (passes : Option (Passes T Mark)) (f g : F) (a b : W) (status : ℕ) : Type 0 where
    pub plain : store ≡ None → IfSome passes (λ p. BeginWith domain [] (marks_of p))
    pub alone : store ≡ None → g ≡ f
    pub entered : IfSome store (λ path. IsTrue folder.tells → IsEntered folder (entered_at folder path f) f g status)
    pub stored : IfSome store (λ path. IsTrue folder.tells → IsTrue disk.tells
        → IfSome passes (λ p. IsServedFrom folder disk domain (marks_of p) (entered_at folder path f) f g))
    pub unloaded : IfSome store (λ path. IsTrue folder.tells → IsTrue disk.tells → (status ≡ 5) ⊎ (status ≡ 6)
        → IsUnloaded folder disk (entered_at folder path f) f g (sink.written a) (sink.written b) (sink.faults a) (sink.faults b) status)
    pub left : IsTrue folder.tells → IsTrue disk.tells → is_some passes ≡ false → AreLeft folder disk f g
    pub silent : (status ≡ 6 → ⊥) → b ≡ a
    pub store_failed : status ≡ 5 → Rose (folder.faults f) (folder.faults g)
    pub known : IsHostStatus status
    pub damaged : status ≡ 6 → IsSome store
