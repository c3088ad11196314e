-- What calls of a net leave: `IfLink` and `IfNone`, by what `accept` gave; `accepted_more` and `out_more`, the number of links accepted
-- and of those handed out after it; `asked_more`, the addresses after a call of `dial`.
use Rattle.std.specs.Prelude.{⊤, ℕ, ◌+◌, List, [], ◌∷◌, ◌++◌, Result, Ok, Err}
use Rattle.wave_outside.specs.Counts.{raised}
use Rattle.wave_outside.specs.declared.net.Accepted.{Accepted}
use Rattle.wave_outside.specs.declared.net.Accepted.TheVariants.{Link, Nothing}
use Rattle.wave_outside.specs.declared.net.NetFault.{NetFault}
use Rattle.wave_outside.specs.declared.net.NetFault.TheVariants.{Failed, Memory}

abbrev pub IfLink : {L : Type 0} → Accepted L → (L → Type 0) → Type 0
IfLink (Link l) P = P l
IfLink Nothing P = ⊤

abbrev pub IfNone : {L : Type 0} → Accepted L → Type 0 → Type 0
IfNone (Link l) P = ⊤
IfNone Nothing P = P

abbrev pub accepted_more : {L : Type 0} → Result (Accepted L) NetFault → ℕ → ℕ
accepted_more (Ok (Link l)) n = raised n
accepted_more (Ok Nothing) n = n
accepted_more (Err e) n = n

abbrev pub out_more : {L : Type 0} → Result (Accepted L) NetFault → ℕ → ℕ
out_more (Ok (Link l)) n = n + 1
out_more (Ok Nothing) n = n
out_more (Err e) n = n

-- an address is kept where it was dialled, also where that failed
abbrev pub asked_more : {L : Type 0} → Result L NetFault → List ℕ → List (List ℕ) → List (List ℕ)
asked_more (Ok l) address asked = asked ++ address ∷ []
asked_more (Err Failed) address asked = asked ++ address ∷ []
asked_more (Err Memory) address asked = asked
