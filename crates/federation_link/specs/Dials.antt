-- A link that there may be, and a new one.
--     events_in f l        its list
--     count_in l, list_in l      one where there is a link, as a number and as a list
--     line_after f l n     the count of the line after the link was put back
--     AreSent ..           what was sent on it and has no answer yet was sent on it
--     IsGone l m P         the link is there still, and this holds of it before and after
--     IsHeld l P           there is a link, and this holds of it
--     HasBegun ..          what a new link was begun with, by what that came to
--     HasDialled ..        a link was asked for, by what that came to
--     IsBack r ..          the links that were put back: the one that there was, and where the step gave no answer perhaps the new one
--     WasAsked r ..        the addresses that were dialled: this one more, and where the step gave no answer perhaps none more
use Rattle.std.specs.Prelude.{◌≡◌, ◌⊎◌, ℕ, ◌+◌, ◌-◌, ◌^◌, min, Bool, IsTrue, List, [], ◌∷◌, ◌++◌, Option, Some, None, Result, Ok, Err}
use Rattle.std.specs.List.{All}
use Rattle.doc_items.specs.Maps.{Key}
use Rattle.wave_outside.specs.Counts.{Rose}
use Rattle.wave_outside.specs.declared.link.LinkEvent.{LinkEvent}
use Rattle.session_core.specs.declared.session.Waiting.{Waiting}
use Rattle.peer_turns.specs.declared.call.TurnCall.{TurnCall}
use Rattle.peer_turns.specs.declared.fault.TurnFault.{TurnFault}
use Rattle.federation_link.specs.Asking.{HasGreeted}
use Rattle.federation_link.specs.Sends.{WasSent}
use Rattle.federation_link.specs.declared.ear.Ear.{Ear}
use Rattle.federation_link.specs.declared.ear.Ear.TheVariants.{Open, Cut}
use Rattle.federation_link.specs.declared.stepped.Stepped.{Stepped}
use Rattle.federation_link.specs.declared.stepped.Stepped.TheVariants as came_to

module _ {L : Type 0} where
  abbrev pub events_in : (L → List LinkEvent) → Option L → List LinkEvent
  events_in events None = []
  events_in events (Some l) = events l

  abbrev pub count_in : Option L → ℕ
  count_in None = 0
  count_in (Some l) = 1

  abbrev pub list_in : Option L → List L
  list_in None = []
  list_in (Some l) = l ∷ []

  abbrev pub line_after : (L → ℕ) → Option L → ℕ → ℕ
  line_after faults None line = line
  line_after faults (Some l) line = min (line + faults l) (2 ^ 64 - 1)

  abbrev pub AreSent : Bool → (L → List LinkEvent) → Option L → List Waiting → Type 0
  AreSent tells events link ws = ∥ (IsTrue tells → All (WasSent (events_in events link)) ws) ∥₁

  abbrev pub IsGone : Option L → Option L → (L → L → Type 0) → Type 0
  IsGone None link P = ⊥
  IsGone (Some l) None P = ⊥
  IsGone (Some l) (Some m) P = P l m

  abbrev pub IsHeld : Option L → (L → Type 0) → Type 0
  IsHeld None P = ⊥
  IsHeld (Some l) P = P l

  -- ---- a new link

  abbrev pub IsUnlinked : Option L → Ear → Type 0
  IsUnlinked link i = (link ≡ None) × (i ≡ Cut)

  -- whether lists are told, and calls; a link's list and count; of the other domain and this one
  module _ (tells told : Bool) (events : L → List LinkEvent) (faults : L → ℕ) (domain own : Key) where
    abbrev pub HasBegun : Option L → Ear → List Waiting → List TurnCall → List TurnCall → Result Stepped TurnFault → Type 0
    HasBegun link i ws cs ds (Ok came_to.Dialled) = IsHeld link (λ l. HasGreeted tells told domain own ws [] (events l) cs ds) × (i ≡ Open)
    HasBegun link i ws cs ds (Ok came_to.Worked) = ⊥
    HasBegun link i ws cs ds (Ok came_to.Idle) = ⊥
    HasBegun link i ws cs ds (Ok came_to.Cut) = IsHeld link (λ l. Rose 0 (faults l)) × (i ≡ Cut)
    HasBegun link i ws cs ds (Err e) = IsUnlinked link i

    -- `line0` is the count of the line after the link was put back that there was
    abbrev pub HasDialled : Option L → Ear → List Waiting → List TurnCall → List TurnCall → (line0 line1 : ℕ) → Result Stepped TurnFault
        → Type 0
    HasDialled link i ws cs ds line0 line1 (Ok came_to.Dialled) = HasBegun link i ws cs ds (Ok came_to.Dialled)
    HasDialled link i ws cs ds line0 line1 (Ok came_to.Worked) = ⊥
    HasDialled link i ws cs ds line0 line1 (Ok came_to.Idle) = ⊥
    HasDialled link i ws cs ds line0 line1 (Ok came_to.Cut) = (IsUnlinked link i × Rose line0 line1) ⊎ HasBegun link i ws cs ds
        (Ok came_to.Cut)
    HasDialled link i ws cs ds line0 line1 (Err e) = IsUnlinked link i

  abbrev pub IsBack : Result Stepped TurnFault → Option L → List L → List L → Type 0
  IsBack (Ok s) link before now = now ≡ before ++ list_in link
  IsBack (Err e) link before now = (new : Option L) × (now ≡ (before ++ list_in link) ++ list_in new)

abbrev pub WasAsked : Result Stepped TurnFault → List ℕ → List (List ℕ) → List (List ℕ) → Type 0
WasAsked (Ok s) address before now = now ≡ before ++ address ∷ []
WasAsked (Err e) address before now = (now ≡ before) ⊎ (now ≡ before ++ address ∷ [])
