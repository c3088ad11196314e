-- A step adds to the list of its link.
--     step_grows       whatever it comes to
use Rattle.std.proofs.Common.{◌≡◌, ◌∙◌, ◌⊎◌, inl, inr, sym, ℕ, Bool, IsTrue, List, [], ◌∷◌, ◌++◌, map, Result, Ok, Err, append_assoc, append-nil}
use mathlib.Core.List.{IsPrefix}
use Rattle.doc_items.specs.Maps.{Key}
use Rattle.wave_outside.specs.declared.link.LinkEvent.{LinkEvent}
use Rattle.wave_outside.specs.declared.link.LinkEvent.TheVariants.{Received, Idle, Ended}
use Rattle.session_core.specs.declared.session.Waiting.{Waiting}
use Rattle.peer_turns.specs.declared.call.TurnCall.{TurnCall}
use Rattle.peer_turns.specs.declared.fault.TurnFault.{TurnFault}
use Rattle.peer_turns.specs.declared.item.Relay.{Relay}
use Rattle.federation_link.specs.Asking.{HasSentSome}
use Rattle.federation_link.specs.Sends.{relay, fresh}
use Rattle.federation_link.specs.Steps.{IsCome, HasSentOn, IsStep}
use Rattle.federation_link.specs.declared.ear.Ear.{Ear}
use Rattle.federation_link.specs.declared.ear.Ear.TheVariants.{Open, Holding, Cut}
use Rattle.federation_link.specs.declared.stepped.Stepped.{Stepped}
use Rattle.federation_link.specs.declared.stepped.Stepped.TheVariants as came_to

module _ (tells told : Bool) (domain : Key) where
  abbrev Grows : List LinkEvent → List LinkEvent → Type 0
  Grows es fs = IsTrue tells → IsPrefix es fs

  more : (es fs gs : List LinkEvent) → (IsTrue tells → fs ≡ es ++ gs) → Grows es fs
  more es fs gs is = λ t. (gs, sym (is t))

  none : (es fs : List LinkEvent) → (IsTrue tells → fs ≡ es) → Grows es fs
  none es fs is = λ t. ([], append-nil es ∙ sym (is t))

  come_grows : (i : Ear) (bytes : List ℕ) (es fs : List LinkEvent) → IsCome tells told domain i bytes es fs → Grows es fs
  come_grows Open bytes es fs came = more es fs (Received bytes ∷ []) came
  come_grows (Holding v) bytes es fs came = none es fs came.1
  come_grows Cut bytes es fs came = absurd came

  some_grows : (es fs : List LinkEvent) (ws vs : List Waiting) (rs : List Relay) → HasSentSome tells ws vs (es ++ Idle ∷ []) fs rs → Grows es fs
  some_grows es fs ws vs rs h = more es fs (Idle ∷ map relay rs) (λ t. h.events t ∙ append_assoc es (Idle ∷ []) (map relay rs))

  on_grows : (es fs : List LinkEvent) (ws vs : List Waiting) → HasSentOn tells told domain es fs ws vs → Grows es fs
  on_grows es fs ws vs (inl same) = none es fs same.0
  on_grows es fs ws vs (inr some) = some_grows es fs ws vs some.0 some.1

  ended_grows : (es fs : List LinkEvent) (ws vs : List Waiting) → HasSentOn tells told domain es fs ws vs ⊎ ((IsTrue tells → fs ≡ es ++ Ended ∷ []) × (vs ≡ ws)) → Grows es fs
  ended_grows es fs ws vs (inl on) = on_grows es fs ws vs on
  ended_grows es fs ws vs (inr end) = more es fs (Ended ∷ []) end.0

  pub step_grows : (es fs : List LinkEvent) (i j : Ear) (ws vs : List Waiting) (cs ds : List TurnCall) (l0 l1 f0 f1 : ℕ) (c : Bool) (r : Result Stepped TurnFault)
      → IsStep tells told domain es fs i j ws vs cs ds l0 l1 f0 f1 c r → IsTrue tells → IsPrefix es fs
  step_grows es fs i j ws vs cs ds l0 l1 f0 f1 c (Ok came_to.Dialled) s = absurd s
  step_grows es fs i j ws vs cs ds l0 l1 f0 f1 c (Ok came_to.Worked) (inl s) = come_grows i s.bytes es fs s.came
  step_grows es fs i j ws vs cs ds l0 l1 f0 f1 c (Ok came_to.Worked) (inr s) = some_grows es fs ws vs (fresh ws s.asked.relays) s.asked.sent
  step_grows es fs i j ws vs cs ds l0 l1 f0 f1 c (Ok came_to.Idle) s = some_grows es fs ws vs (fresh ws s.asked.relays) s.asked.sent
  step_grows es fs i j ws vs cs ds l0 l1 f0 f1 c (Ok came_to.Cut) s = ended_grows es fs ws vs s.sent
  step_grows es fs i j ws vs cs ds l0 l1 f0 f1 c (Err e) (inl s) = come_grows i s.bytes es fs s.came
  step_grows es fs i j ws vs cs ds l0 l1 f0 f1 c (Err e) (inr s) = on_grows es fs ws vs s.sent
