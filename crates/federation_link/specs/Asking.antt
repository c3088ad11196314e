-- What was sent of what was asked.
--     is_any rs             there is one among these
--     HasSentSome ..        these submissions were sent and noted
--     IsNext .. n           the submission at a place was sent, or it had been; or there is none
--     HasAskedFresh ..      the submissions were asked for, and those sent that weren't sent yet
--     HasToldNext .. b      it was said how far the copy at a place reaches, if there is one
--     HasRelayedNext .. b   the submission at a place was sent, if there is one
--     HasAskedAll ..        they were asked for, and all sent
--     HasSentHaves ..       the copies were asked for, and it was said how far each reaches
--     HasTold ..            both, of copies and submissions
--     HasGreeted ..         a new link was begun
use Rattle.std.specs.Prelude.{◌≡◌, ℕ, Bool, true, false, not, if◌then◌else◌, IsTrue, List, [], ◌∷◌, ◌++◌, map, Option, Some, None, Ok}
use Rattle.doc_items.specs.Maps.{Key}
use Rattle.wave_outside.specs.declared.link.LinkEvent.{LinkEvent}
use Rattle.session_core.specs.declared.session.Waiting.{Waiting}
use Rattle.peer_turns.specs.declared.call.TurnCall.{TurnCall}
use Rattle.peer_turns.specs.declared.call.TurnCall.TheVariants.{NextRelay, NextCopy}
use Rattle.peer_turns.specs.declared.item.CopyAt.{CopyAt}
use Rattle.peer_turns.specs.declared.item.Relay.{Relay}
use Rattle.federation_link.specs.Sends.{have, relay, greeting, copy_calls, relay_calls, noted, has, fresh}

abbrev pub is_any : List Relay → Bool
is_any [] = false
is_any (r ∷ rs) = true

-- `tells` says whether the link's list is told
pub record HasSentSome (tells : Bool) (ws vs : List Waiting) (es fs : List LinkEvent) (rs : List Relay) : Type 0 where
  pub noted_is : vs ≡ ws ++ map noted rs
  pub events : IsTrue tells → fs ≡ es ++ map relay rs

-- `told` says whether the calls of turns are told
module _ (tells told : Bool) (domain : Key) where
  pub record IsPassed (place : ℕ) (ws vs : List Waiting) (es fs : List LinkEvent) (cs ds : List TurnCall) (sent : Bool) : Type 0 where
    pub relay : Relay
    pub new : has ws relay ≡ not sent
    pub calls : IsTrue told → ds ≡ cs ++ NextRelay domain place (Ok (Some relay)) ∷ []
    pub passed : HasSentSome tells ws vs es fs (if sent then relay ∷ [] else [])

  pub record IsOver (place : ℕ) (ws vs : List Waiting) (es fs : List LinkEvent) (cs ds : List TurnCall) : Type 0 where
    pub calls : IsTrue told → ds ≡ cs ++ NextRelay domain place (Ok None) ∷ []
    pub passed : HasSentSome tells ws vs es fs []

  abbrev pub IsNext : ℕ → List Waiting → List Waiting → List LinkEvent → List LinkEvent → List TurnCall → List TurnCall → Option Bool
      → Type 0
  IsNext place ws vs es fs cs ds (Some sent) = IsPassed place ws vs es fs cs ds sent
  IsNext place ws vs es fs cs ds None = IsOver place ws vs es fs cs ds

  pub record HasAskedFresh (ws vs : List Waiting) (es fs : List LinkEvent) (cs ds : List TurnCall) (any : Bool) : Type 0 where
    pub relays : List Relay
    pub calls : IsTrue told → ds ≡ cs ++ relay_calls domain 0 relays
    pub sent : HasSentSome tells ws vs es fs (fresh ws relays)
    pub any_is : any ≡ is_any (fresh ws relays)

  -- `more` says whether there was one at the place
  abbrev pub HasToldNext : ℕ → List LinkEvent → List LinkEvent → List TurnCall → List TurnCall → Bool → Type 0
  HasToldNext place es fs cs ds true = (c : CopyAt) × (IsTrue told → ds ≡ cs ++ NextCopy domain place (Ok (Some c)) ∷ [])
      × (IsTrue tells → fs ≡ es ++ have c ∷ [])
  HasToldNext place es fs cs ds false = (IsTrue told → ds ≡ cs ++ NextCopy domain place (Ok None) ∷ []) × (IsTrue tells → fs ≡ es)

  abbrev pub HasRelayedNext : ℕ → List Waiting → List Waiting → List LinkEvent → List LinkEvent → List TurnCall → List TurnCall → Bool
      → Type 0
  HasRelayedNext place ws vs es fs cs ds true = (r : Relay) × (IsTrue told → ds ≡ cs ++ NextRelay domain place (Ok (Some r)) ∷ [])
      × HasSentSome tells ws vs es fs (r ∷ [])
  HasRelayedNext place ws vs es fs cs ds false = (IsTrue told → ds ≡ cs ++ NextRelay domain place (Ok None) ∷ [])
      × HasSentSome tells ws vs es fs []

  pub record HasAskedAll (ws vs : List Waiting) (es fs : List LinkEvent) (cs ds : List TurnCall) : Type 0 where
    pub relays : List Relay
    pub calls : IsTrue told → ds ≡ cs ++ relay_calls domain 0 relays
    pub sent : HasSentSome tells ws vs es fs relays

  pub record HasSentHaves (es fs : List LinkEvent) (cs ds : List TurnCall) : Type 0 where
    pub copies : List CopyAt
    pub calls : IsTrue told → ds ≡ cs ++ copy_calls domain 0 copies
    pub sent : IsTrue tells → fs ≡ es ++ map have copies

  pub record HasTold (vs : List Waiting) (es fs : List LinkEvent) (cs ds : List TurnCall) : Type 0 where
    pub copies : List CopyAt
    pub relays : List Relay
    pub calls : IsTrue told → ds ≡ cs ++ (copy_calls domain 0 copies ++ relay_calls domain 0 relays)
    pub sent : IsTrue tells → fs ≡ es ++ (map have copies ++ map relay relays)
    pub noted_is : vs ≡ map noted relays

  -- `own` is the domain for which this server speaks
  pub record HasGreeted (own : Key) (vs : List Waiting) (es fs : List LinkEvent) (cs ds : List TurnCall) : Type 0 where
    pub copies : List CopyAt
    pub relays : List Relay
    pub calls : IsTrue told → ds ≡ cs ++ (copy_calls domain 0 copies ++ relay_calls domain 0 relays)
    pub sent : IsTrue tells → fs ≡ es ++ greeting own copies relays
    pub noted_is : vs ≡ map noted relays
