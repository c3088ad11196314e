-- What a turn does to the shelf, whatever its answer.
--     Begins ds es        the deltas are the first of those
--     submits m n         the message is a submission to the wavelet of the name
--     asks_for r n        the request is for a submission to that wavelet
--     submits_to l n      the line is a submission to it
--     submitted_in ts n   the line of one of the turns is a submission to it
--     IsFileAmong may m   this is the file of a name of which this holds
--     IsMoved may a b     the shelf before and after a step that may submit to the names of which this holds
--     StandsForEither n ds es f   the file stands for the one history of the name, or for the other
--     IsFileOfEither n ds es c    as it reads, and in each image, the container's file stands for the one history or the other
--     AreWrittenOn a b P  the files of all containers were written on, and a crash since then left what it might have left before, or what
--                         has P of the name
--     IsFileWith hs m     this is the file of a name that has a delta in these histories
--     AreBegun a b hs     files and containers came for names alone that have a delta in these histories
--     AreStepped a b hs   they were written on by a step that leads to these histories, each crash left the history of before, or that,
--                         nothing came for names without a delta, and a file that is no container's is as it was, or emptied
--     IsTriedTo a b hs    a step was tried that leads to these histories: there are those of before, or these, and so it is with each file
--     IsEnded a b hs r    no repair waits after it; or why it failed, and that it was tried
use Rattle.std.specs.Prelude.{◌≡◌, ◌≢◌, ◌⊎◌, ◌≤◌, ℕ, List, [], ◌++◌, Bool, true, false, Result, Ok, Err, IsSome, IfSome, OnOk, OnErr, IsErrOf}
use Rattle.std.specs.List.{list_any}
use Rattle.doc_items.specs.Maps.{Key, same_text}
use Rattle.wavelet_op.specs.Deltas.{DeltaOf}
use Rattle.disk_model.specs.Disk.{Kept}
use Rattle.disk_model.specs.declared.disk.Disk as disk_of
use Rattle.message_json.specs.declared.message.Message.{Message}
use Rattle.message_json.specs.declared.message.Message.TheVariants.{Hello, OpenWavelet, Submit, CloseWavelet, Welcome, Opened, Snapshot, Unopened, Ack, Refused, Queued, Update, Closed, Bad, Peer, Have, Relay, Applied, Relayed, Dropped}
use Rattle.wave_messages.specs.Read as reading
use Rattle.wave_outside.specs.Counts.{Rose}
use Rattle.wave_outside.specs.declared.folder.Folder as folder_of
use Rattle.delta_journal.specs.Journal.{on_disk}
use Rattle.wavelet_container.specs.Containers.{journal_of}
use Rattle.wavelet_container.specs.Records.{StandsForHistory}
use Rattle.wavelet_container.specs.declared.container.Container.{Container}
use Rattle.wavelet_shelf.specs.Entries.{IsWrittenOn}
use Rattle.wavelet_shelf.specs.FileNames.{file_name_of}
use Rattle.wavelet_shelf.specs.Folders.{IsUsedIn, IsUnmadeIn}
use Rattle.wavelet_shelf.specs.Hosting.{Hosted, deltas_in}
use Rattle.wavelet_shelf.specs.Shelves.{hosted_of, in_folder, container_in, fault_count, IsKept, IsSettled, HasFile}
use Rattle.wavelet_shelf.specs.declared.shelf.Shelf.{Shelf}
use Rattle.session_core.specs.declared.request.Request.{Request}
use Rattle.session_core.specs.declared.request.Request.TheVariants as ask
use Rattle.line_loop.specs.Turns.{Turn}
use Rattle.line_loop.specs.declared.line_machine.TurnFault.{TurnFault}
use Rattle.line_loop.specs.declared.line_machine.TurnFault.TheVariants.{Store}

abbrev pub Begins : List DeltaOf → List DeltaOf → Type 0
Begins ds es = (rest : List DeltaOf) × (ds ++ rest ≡ es)

abbrev pub submits : Message → Key → Bool
submits (Submit name client number from ops) n = same_text name n
submits (Hello user) n = false
submits (OpenWavelet name from) n = false
submits (CloseWavelet name) n = false
submits (Welcome user) n = false
submits (Opened name version) n = false
submits (Snapshot s) n = false
submits (Unopened name reason) n = false
submits (Ack name client number place to) n = false
submits (Refused name client number v) n = false
submits (Queued name client number) n = false
submits (Update name d) n = false
submits (Closed name reason) n = false
submits (Bad reason) n = false
submits (Peer domain) n = false
submits (Have name from) n = false
submits (Relay name s) n = same_text name n
submits (Applied name d) n = false
submits (Relayed name id v) n = false
submits (Dropped name) n = false

abbrev pub asks_for : Request → Key → Bool
asks_for (ask.Reply m) n = false
asks_for (ask.Attach name from) n = false
asks_for (ask.Submit name s) n = same_text name n
asks_for (ask.Have name from) n = false

abbrev pub submits_read : Result (Key × Message) reading.Refused → Key → Bool
submits_read (Ok line) n = submits line.1 n
submits_read (Err r) n = false

abbrev pub submits_to : List ℕ → Key → Bool
submits_to line n = submits_read (reading.line_read line) n

abbrev pub submitted_in : List Turn → Key → Bool
submitted_in ts n = list_any (λ t. submits_to t.line n) ts

abbrev pub IsFileAmong : (Key → Bool) → List ℕ → Type 0
IsFileAmong may m = (n : Key) × (may n ≡ true) × (m ≡ file_name_of n)

abbrev pub StandsForEither : Key → List DeltaOf → List DeltaOf → List ℕ → Type 0
StandsForEither n ds es bytes = StandsForHistory n ds bytes ⊎ StandsForHistory n es bytes

abbrev pub IsFileWith : List Hosted → List ℕ → Type 0
IsFileWith hs m = (n : Key) × (deltas_in hs n ≢ []) × (m ≡ file_name_of n)

module _ {D : Type 0} {disk : disk_of.Ghosts D} where
  abbrev pub IsFileOfEither : Key → List DeltaOf → List DeltaOf → Container D disk → Type 0
  IsFileOfEither n ds es c = IfSome (journal_of c) (λ j. Kept (on_disk j) (StandsForEither n ds es))

module _ {F D : Type 0} {folder : folder_of.Ghosts F D} {disk : disk_of.Ghosts D} where
  pub record IsMoved (may : Key → Bool) (a b : Shelf F D folder disk) : Type 0 where
    pub grown : (n : Key) → Begins (deltas_in (hosted_of a) n) (deltas_in (hosted_of b) n)
    pub others : (n : Key) → may n ≡ false → container_in b n ≡ container_in a n
    pub kept : IsKept a → IsKept b
    pub used : IsUsedIn folder (IsFileAmong may) (in_folder a) (in_folder b)
    pub later : fault_count a ≤ fault_count b

  abbrev pub AreWrittenOn : Shelf F D folder disk → Shelf F D folder disk → (Key → List ℕ → Type 0) → Type 0
  AreWrittenOn a b P = (n : Key) → IsWrittenOn (container_in a n) (container_in b n) (P n)

  pub record AreBegun (a b : Shelf F D folder disk) (hs : List Hosted) : Type 0 where
    pub files : IsUsedIn folder (IsFileWith hs) (in_folder a) (in_folder b)
    pub names : (n : Key) → IsSome (container_in b n) → IsSome (container_in a n) ⊎ (deltas_in hs n ≢ [])

  pub record AreStepped (a b : Shelf F D folder disk) (after : List Hosted) : Type 0 where
    pub moments : IsKept a → IsSettled a → AreWrittenOn a b (λ n. StandsForEither n (deltas_in (hosted_of a) n) (deltas_in after n))
    pub begun : AreBegun a b after
    pub unmade : (m : List ℕ) → (HasFile b m → ⊥) → IsUnmadeIn folder disk m (in_folder a) (in_folder b)

  pub record IsTriedTo (a b : Shelf F D folder disk) (after : List Hosted) : Type 0 where
    pub hosted : (hosted_of b ≡ hosted_of a) ⊎ (hosted_of b ≡ after)
    pub files : IsKept a → IsSettled a → (n : Key)
        → IfSome (container_in b n) (IsFileOfEither n (deltas_in (hosted_of a) n) (deltas_in after n))

  pub record IsEnded {A : Type 0} (a b : Shelf F D folder disk) (after : List Hosted) (r : Result A TurnFault) : Type 0 where
    pub settled : OnOk r (IsKept a → IsSettled a → IsSettled b)
    pub failed : IsErrOf r Store → Rose (fault_count a) (fault_count b)
    pub store : IsErrOf r Store → IsSome (in_folder a)
    pub tried : OnErr r (IsTriedTo a b after)
    pub stepped : AreStepped a b after
