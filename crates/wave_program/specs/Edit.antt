-- Runs of the terminal client.
--     IfEdit c P       P of the words of a command that is one of the terminal client
--     IsClient c       it is one
--     HasNetCause c .. why a net failed: for a server its door failed, for a client the line
--     IsEdited ..      the address was dialled, the run was the client's over that link, and the link was put back
--     IsUndialled ..   the dialling gave no link, and none was put back
--     IsEditRun ..     one of these; where there was no link, nothing was read and nothing written
use Rattle.std.specs.Prelude.{◌≡◌, ◌⊎◌, ◌≤◌, ◌+◌, ◌-◌, ◌^◌, ◌==◌, ◌++◌, ◌∷◌, [], ℕ, List, Option, Some, None, min, IsTrue}
use Rattle.doc_items.specs.Maps.{Key}
use Rattle.wave_outside.specs.Counts.{Rose}
use Rattle.wave_outside.specs.declared.link.Link as link_of
use Rattle.wave_outside.specs.declared.net.Net as net_of
use Rattle.client_terminal.specs.Whole.{IsEditStatus, IsRunAs, origin_of}
use Rattle.command_words.specs.Commands.{CommandOf, Pipe, Load, Play, Inbox, Serve, Edit}

abbrev pub IfEdit : Option CommandOf → ((user : List ℕ) → (client : ℕ) → (connect : List ℕ) → Type 0) → Type 0
IfEdit None P = Unit {0}
IfEdit (Some (Pipe folder)) P = Unit {0}
IfEdit (Some (Load n)) P = Unit {0}
IfEdit (Some (Play folder wavelet)) P = Unit {0}
IfEdit (Some (Inbox folder user)) P = Unit {0}
IfEdit (Some (Serve domain listen peers sessions folder echo)) P = Unit {0}
IfEdit (Some (Edit user client connect)) P = P user client connect

abbrev pub IsClient : Option CommandOf → Type 0
IsClient None = ⊥
IsClient (Some (Pipe folder)) = ⊥
IsClient (Some (Load n)) = ⊥
IsClient (Some (Play folder wavelet)) = ⊥
IsClient (Some (Inbox folder user)) = ⊥
IsClient (Some (Serve domain listen peers sessions folder echo)) = ⊥
IsClient (Some (Edit user client connect)) = Unit {0}

abbrev pub HasNetCause : Option CommandOf → (door line : Type 0) → Type 0
HasNetCause None door line = ⊥
HasNetCause (Some (Pipe folder)) door line = ⊥
HasNetCause (Some (Load n)) door line = ⊥
HasNetCause (Some (Play folder wavelet)) door line = ⊥
HasNetCause (Some (Inbox folder user)) door line = ⊥
HasNetCause (Some (Serve domain listen peers sessions folder echo)) door line = door
HasNetCause (Some (Edit user client connect)) door line = line

module _ {N L : Type 0} (net : net_of.Ghosts N L) (link : link_of.Ghosts L) (connect : List ℕ) (n m : N) where
  -- the net before and after it; what the source has left and what the sink holds, before and after
  pub record IsEdited (user : Key) (client : ℕ) (left0 left1 held0 held1 : Option (List ℕ)) (status : ℕ) : Type 0 where
    pub used : L
    pub back : net.back m ≡ net.back n ++ used ∷ []
    pub counted : min (net.line n + link.faults used) (2 ^ 64 - 1) ≤ net.line m
    pub asked : IsTrue net.tells → net.asked m ≡ net.asked n ++ connect ∷ []
    pub run : IsRunAs link.tells (origin_of user client [] held0) (link.events used) left0 left1 held1 status
    pub known : IsEditStatus status
    pub closed : link.closed used ≡ (status == 11)
    pub failed : status ≡ 7 → Rose 0 (link.faults used)

  -- for want of memory, maybe no address was dialled
  pub record IsUndialled (status : ℕ) : Type 0 where
    pub known : (status ≡ 7) ⊎ (status ≡ 8)
    pub back : net.back m ≡ net.back n
    pub asked : IsTrue net.tells → (net.asked m ≡ net.asked n ++ connect ∷ []) ⊎ ((status ≡ 8) × (net.asked m ≡ net.asked n))

  abbrev pub IsEditRun : {S W : Type 0} → (S → Option (List ℕ)) → (W → Option (List ℕ)) → Key → ℕ → (source0 source1 : S)
      → (sink0 sink1 : W) → ℕ → Type 0
  IsEditRun left held user client source0 source1 sink0 sink1 status =
      IsEdited user client (left source0) (left source1) (held sink0) (held sink1) status
      ⊎ ((source1 ≡ source0) × ((sink1 ≡ sink0) × IsUndialled status))
