-- One step on a link.
--     is_cut i             the link was cut
--     IsHolding b i        this message is to be taken
--     IsCome ..            a message that was to be taken, or else that came
--     HasTaken ..          it was taken: what it asks for was called, and nothing else
--     HasSent .. any       nothing came, and the submissions that weren't sent yet were sent, any or none
--     HasEnded ..          the link failed, or its peer closed it
--     HasKept e ..         a message is to be taken still, since there was no memory or no turn
--     HasPaused ..         there was no memory or no turn to send what waits, or to look
--     IsSending ..         what waits was sent, whole or in part, by what it came to
--     IsStep ..            one step, by what it came to
--     IsAtRest, IsIdle     nothing came, and each submission that was asked for had been sent on this link
use Rattle.std.specs.Prelude.{◌≡◌, ◌⊎◌, ⊤, ℕ, Bool, true, false, IsTrue, List, [], ◌∷◌, ◌++◌, map, Result, Ok, Err}
use Rattle.std.specs.List.{All}
use Rattle.doc_items.specs.Maps.{Key}
use Rattle.wave_outside.specs.Counts.{Rose}
use Rattle.wave_outside.specs.declared.link.LinkEvent.{LinkEvent}
use Rattle.wave_outside.specs.declared.link.LinkEvent.TheVariants.{Received, Idle, Ended}
use Rattle.session_core.specs.declared.session.Waiting.{Waiting}
use Rattle.peer_turns.specs.Calls.{gifts}
use Rattle.peer_turns.specs.declared.call.TurnCall.{TurnCall}
use Rattle.peer_turns.specs.declared.fault.TurnFault.{TurnFault}
use Rattle.peer_turns.specs.declared.item.Relay.{Relay}
use Rattle.federation_link.specs.Asking.{HasSentSome, HasAskedFresh}
use Rattle.federation_link.specs.Sends.{relay_calls, noted, WasSent}
use Rattle.federation_link.specs.Takes.{heard, Gives, Keeps, HasGiven, settled}
use Rattle.federation_link.specs.declared.ear.Ear.{Ear}
use Rattle.federation_link.specs.declared.ear.Ear.TheVariants.{Open, Holding, Cut}
use Rattle.federation_link.specs.declared.stepped.Stepped.{Stepped}
use Rattle.federation_link.specs.declared.stepped.Stepped.TheVariants as came_to

abbrev pub is_cut : Ear → Bool
is_cut Open = false
is_cut (Holding v) = false
is_cut Cut = true

abbrev pub IsHolding : List ℕ → Ear → Type 0
IsHolding bytes Open = ⊥
IsHolding bytes (Holding v) = bytes ≡ v.items
IsHolding bytes Cut = ⊥

-- whether the link's list is told, and the calls; that list, before and after; what there is to hear; what was sent and has no answer; the
-- calls
module _ (tells told : Bool) (domain : Key) where
  abbrev pub IsCome : Ear → List ℕ → List LinkEvent → List LinkEvent → Type 0
  IsCome Open bytes es fs = IsTrue tells → fs ≡ es ++ Received bytes ∷ []
  IsCome (Holding v) bytes es fs = (bytes ≡ v.items) × (IsTrue tells → fs ≡ es)
  IsCome Cut bytes es fs = ⊥

  pub record HasTaken (es fs : List LinkEvent) (i j : Ear) (ws vs : List Waiting) (cs ds : List TurnCall) : Type 0 where
    pub bytes : List ℕ
    pub came : IsCome i bytes es fs
    pub given : HasGiven told (Gives (heard bytes)) cs ds
    pub settled_is : vs ≡ settled (heard bytes) ws
    pub free : j ≡ Open

  pub record HasKept (e : TurnFault) (es fs : List LinkEvent) (i j : Ear) (ws vs : List Waiting) (cs ds : List TurnCall) : Type 0 where
    pub bytes : List ℕ
    pub came : IsCome i bytes es fs
    pub given : HasGiven told (Keeps e (heard bytes)) cs ds
    pub same : vs ≡ ws
    pub holding : IsHolding bytes j

  pub record HasSent (any : Bool) (es fs : List LinkEvent) (i j : Ear) (ws vs : List Waiting) (cs ds : List TurnCall)
      (looks0 looks1 : ℕ) : Type 0 where
    pub asked : HasAskedFresh tells told domain ws vs (es ++ Idle ∷ []) fs cs ds any
    pub looked : Rose looks0 looks1
    pub begun : i ≡ Open
    pub free : j ≡ Open

  -- some of what waits was sent after nothing came, or none
  abbrev pub HasSentOn : List LinkEvent → List LinkEvent → List Waiting → List Waiting → Type 0
  HasSentOn es fs ws vs = (IsTrue tells → fs ≡ es) × (vs ≡ ws) ⊎ ((rs : List Relay) × HasSentSome tells ws vs (es ++ Idle ∷ []) fs rs)

  pub record HasPaused (es fs : List LinkEvent) (i j : Ear) (ws vs : List Waiting) (cs ds : List TurnCall) : Type 0 where
    pub sent : HasSentOn es fs ws vs
    pub ungiven : IsTrue told → gifts ds ≡ gifts cs
    pub begun : i ≡ Open
    pub free : j ≡ Open

  pub record HasEnded (es fs : List LinkEvent) (i j : Ear) (ws vs : List Waiting) (cs ds : List TurnCall) (faults0 faults1 : ℕ)
      (closed1 : Bool) : Type 0 where
    pub sent : HasSentOn es fs ws vs ⊎ ((IsTrue tells → fs ≡ es ++ Ended ∷ []) × (vs ≡ ws))
    pub ungiven : IsTrue told → gifts ds ≡ gifts cs
    pub cause : Rose faults0 faults1 ⊎ (closed1 ≡ true)
    pub begun : i ≡ Open
    pub cut : j ≡ Cut

  abbrev pub IsSendingPart : List LinkEvent → List LinkEvent → List Waiting → List Waiting → List TurnCall → List TurnCall → Type 0
  IsSendingPart es fs ws vs cs ds = ((rs : List Relay) × HasSentSome tells ws vs es fs rs) × (IsTrue told → gifts ds ≡ gifts cs)

  -- after nothing came
  abbrev pub IsSending : List LinkEvent → List LinkEvent → Ear → List Waiting → List Waiting → List TurnCall → List TurnCall
      → (faults0 faults1 : ℕ)
      → Result Stepped TurnFault → Type 0
  IsSending es fs j ws vs cs ds f0 f1 (Ok came_to.Dialled) = ⊥
  IsSending es fs j ws vs cs ds f0 f1 (Ok came_to.Worked) = HasAskedFresh tells told domain ws vs es fs cs ds true × (j ≡ Open)
  IsSending es fs j ws vs cs ds f0 f1 (Ok came_to.Idle) = HasAskedFresh tells told domain ws vs es fs cs ds false × (j ≡ Open)
  IsSending es fs j ws vs cs ds f0 f1 (Ok came_to.Cut) = IsSendingPart es fs ws vs cs ds × (Rose f0 f1 × (j ≡ Cut))
  IsSending es fs j ws vs cs ds f0 f1 (Err e) = IsSendingPart es fs ws vs cs ds × (j ≡ Open)

  abbrev pub IsStep : List LinkEvent → List LinkEvent → Ear → Ear → List Waiting → List Waiting → List TurnCall → List TurnCall
      → (looks0 looks1 faults0 faults1 : ℕ) → Bool → Result Stepped TurnFault → Type 0
  IsStep es fs i j ws vs cs ds l0 l1 f0 f1 c (Ok came_to.Dialled) = ⊥
  IsStep es fs i j ws vs cs ds l0 l1 f0 f1 c (Ok came_to.Worked) = HasTaken es fs i j ws vs cs ds ⊎ HasSent true es fs i j ws vs cs ds l0 l1
  IsStep es fs i j ws vs cs ds l0 l1 f0 f1 c (Ok came_to.Idle) = HasSent false es fs i j ws vs cs ds l0 l1
  IsStep es fs i j ws vs cs ds l0 l1 f0 f1 c (Ok came_to.Cut) = HasEnded es fs i j ws vs cs ds f0 f1 c
  IsStep es fs i j ws vs cs ds l0 l1 f0 f1 c (Err e) = HasKept e es fs i j ws vs cs ds ⊎ HasPaused es fs i j ws vs cs ds

  -- each of these submissions was sent
  abbrev pub WereSent : List LinkEvent → List Relay → Type 0
  WereSent es rs = ∥ (IsTrue tells → All (WasSent es) (map noted rs)) ∥₁

  pub record IsAtRest (es fs : List LinkEvent) (cs ds : List TurnCall) (looks0 looks1 : ℕ) : Type 0 where
    pub relays : List Relay
    pub calls : IsTrue told → ds ≡ cs ++ relay_calls domain 0 relays
    pub sent : WereSent fs relays
    pub looked : Rose looks0 looks1
    pub last : IsTrue tells → fs ≡ es ++ Idle ∷ []

  abbrev pub IsIdle : List LinkEvent → List LinkEvent → List TurnCall → List TurnCall → (looks0 looks1 : ℕ) → Result Stepped TurnFault
      → Type 0
  IsIdle es fs cs ds l0 l1 (Ok came_to.Dialled) = ⊤
  IsIdle es fs cs ds l0 l1 (Ok came_to.Worked) = ⊤
  IsIdle es fs cs ds l0 l1 (Ok came_to.Idle) = IsAtRest es fs cs ds l0 l1
  IsIdle es fs cs ds l0 l1 (Ok came_to.Cut) = ⊤
  IsIdle es fs cs ds l0 l1 (Err e) = ⊤
