-- What `Asking`, `Steps` and `Dials` say, of links and turns as calls have them.
--     TellsNext, TellsAll, RelaysNext, RelaysAll, Tells, Greets     what a new link begins with
--     SendsNext, SendsFresh, Sends                                  what is sent after nothing came
--     StepsOn, GoesOn, Rests                                        one step on an open link
--     Begins, Dials                                                 a new link
use Rattle.std.specs.Prelude.{ℕ, List, Bool, Option, Result}
use Rattle.doc_items.specs.Maps.{Key}
use Rattle.wave_outside.specs.declared.link.Link as link_of
use Rattle.session_core.specs.declared.session.Waiting.{Waiting}
use Rattle.peer_turns.specs.declared.fault.TurnFault.{TurnFault}
use Rattle.peer_turns.specs.declared.turns.PeerTurns as turns_of
use Rattle.federation_link.specs.Asking.{IsNext, HasToldNext, HasRelayedNext, HasSentHaves, HasAskedAll, HasAskedFresh, HasTold, HasGreeted}
use Rattle.federation_link.specs.Dials.{line_after, IsGone, HasBegun, HasDialled}
use Rattle.federation_link.specs.Steps.{IsSending, IsStep, IsIdle}
use Rattle.federation_link.specs.declared.ear.Ear.{Ear}
use Rattle.federation_link.specs.declared.stepped.Stepped.{Stepped}

module _ {L : Type 0} (link : link_of.Ghosts L) {T : Type 0} (turns : turns_of.Ghosts T) (d : Key) where
  -- ---- what is sent

  abbrev pub TellsNext : ℕ → L → L → T → T → Bool → Type 0
  TellsNext place l m t u more = HasToldNext link.tells turns.tells d place (link.events l) (link.events m) (turns.calls t)
      (turns.calls u) more

  abbrev pub TellsAll : L → L → T → T → Type 0
  TellsAll l m t u = HasSentHaves link.tells turns.tells d (link.events l) (link.events m) (turns.calls t) (turns.calls u)

  abbrev pub RelaysNext : ℕ → List Waiting → List Waiting → L → L → T → T → Bool → Type 0
  RelaysNext place ws vs l m t u more = HasRelayedNext link.tells turns.tells d place ws vs (link.events l) (link.events m) (turns.calls t)
      (turns.calls u) more

  abbrev pub RelaysAll : List Waiting → List Waiting → L → L → T → T → Type 0
  RelaysAll ws vs l m t u = HasAskedAll link.tells turns.tells d ws vs (link.events l) (link.events m) (turns.calls t) (turns.calls u)

  abbrev pub Tells : List Waiting → L → L → T → T → Type 0
  Tells vs l m t u = HasTold link.tells turns.tells d vs (link.events l) (link.events m) (turns.calls t) (turns.calls u)

  abbrev pub Greets : Key → List Waiting → L → L → T → T → Type 0
  Greets own vs l m t u = HasGreeted link.tells turns.tells d own vs (link.events l) (link.events m) (turns.calls t) (turns.calls u)

  abbrev pub SendsNext : ℕ → List Waiting → List Waiting → L → L → T → T → Option Bool → Type 0
  SendsNext place ws vs l m t u n = IsNext link.tells turns.tells d place ws vs (link.events l) (link.events m) (turns.calls t)
      (turns.calls u) n

  abbrev pub SendsFresh : List Waiting → List Waiting → L → L → T → T → Bool → Type 0
  SendsFresh ws vs l m t u any = HasAskedFresh link.tells turns.tells d ws vs (link.events l) (link.events m) (turns.calls t)
      (turns.calls u) any

  -- ---- steps

  abbrev pub Sends : L → L → Ear → List Waiting → List Waiting → T → T → Result Stepped TurnFault → Type 0
  Sends l m j ws vs t u r = IsSending link.tells turns.tells d (link.events l) (link.events m) j ws vs (turns.calls t) (turns.calls u)
      (link.faults l) (link.faults m) r

  abbrev pub StepsOn : L → L → Ear → Ear → List Waiting → List Waiting → T → T → Result Stepped TurnFault → Type 0
  StepsOn l m i j ws vs t u r = IsStep link.tells turns.tells d (link.events l) (link.events m) i j ws vs (turns.calls t) (turns.calls u)
      (link.looks l) (link.looks m) (link.faults l) (link.faults m) (link.closed m) r

  abbrev pub GoesOn : Option L → Option L → Ear → Ear → List Waiting → List Waiting → T → T → Result Stepped TurnFault → Type 0
  GoesOn before now i j ws vs t u r = IsGone before now (λ l m. StepsOn l m i j ws vs t u r)

  abbrev pub Rests : Option L → Option L → T → T → Result Stepped TurnFault → Type 0
  Rests before now t u r = IsGone before now
      (λ l m. IsIdle link.tells turns.tells d (link.events l) (link.events m) (turns.calls t) (turns.calls u) (link.looks l)
      (link.looks m) r)

  abbrev pub Begins : Key → Option L → Ear → List Waiting → T → T → Result Stepped TurnFault → Type 0
  Begins own now j vs t u r = HasBegun link.tells turns.tells link.events link.faults d own now j vs (turns.calls t) (turns.calls u) r

  -- `line` is the count of the line before, `line1` after
  abbrev pub Dials : Key → Option L → Option L → Ear → List Waiting → T → T → (line line1 : ℕ) → Result Stepped TurnFault → Type 0
  Dials own before now j vs t u line line1 r = HasDialled link.tells turns.tells link.events link.faults d own now j vs (turns.calls t)
      (turns.calls u)
      (line_after link.faults before line) line1 r
