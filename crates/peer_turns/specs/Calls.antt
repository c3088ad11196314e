-- What a call leaves in the list of calls, and what a list of calls holds.
--     told call r     a call with this answer: nothing where there was no memory for it
--     refused r       the turn that was refused, where an answer says so
--     refusals cs     the turns that were refused, in order
--     gifts cs        the calls that gave a copy something, in order
use Rattle.std.specs.Prelude.{List, [], ◌∷◌, Result, Ok, Err}
use Rattle.std.specs.List.{flat_map}
use Rattle.turn_lock.specs.declared.cell.Spent.{Spent}
use Rattle.peer_turns.specs.declared.call.TurnCall.{TurnCall}
use Rattle.peer_turns.specs.declared.call.TurnCall.TheVariants.{TakeApplied, TakeAnswer, TakeDropped, NextRelay, NextCopy}
use Rattle.peer_turns.specs.declared.fault.TurnFault.{TurnFault}
use Rattle.peer_turns.specs.declared.fault.TurnFault.TheVariants as fault

abbrev pub told : {A : Type 0} → (Result A Spent → TurnCall) → Result A TurnFault → List TurnCall
told call (Ok a) = call (Ok a) ∷ []
told call (Err (fault.Spent s)) = call (Err s) ∷ []
told call (Err fault.Memory) = []

abbrev pub fault_refused : TurnFault → List Spent
fault_refused fault.Memory = []
fault_refused (fault.Spent s) = s ∷ []

abbrev pub refused : {A : Type 0} → Result A TurnFault → List Spent
refused (Ok a) = []
refused (Err e) = fault_refused e

abbrev pub answer_refused : {A : Type 0} → Result A Spent → List Spent
answer_refused (Ok a) = []
answer_refused (Err s) = s ∷ []

abbrev pub call_refused : TurnCall → List Spent
call_refused (TakeApplied name delta answer) = answer_refused answer
call_refused (TakeAnswer name id verdict answer) = answer_refused answer
call_refused (TakeDropped name answer) = answer_refused answer
call_refused (NextRelay domain place answer) = answer_refused answer
call_refused (NextCopy domain place answer) = answer_refused answer

abbrev pub refusals : List TurnCall → List Spent
refusals cs = flat_map call_refused cs

abbrev pub call_gift : TurnCall → List TurnCall
call_gift (TakeApplied name delta answer) = TakeApplied name delta answer ∷ []
call_gift (TakeAnswer name id verdict answer) = TakeAnswer name id verdict answer ∷ []
call_gift (TakeDropped name answer) = TakeDropped name answer ∷ []
call_gift (NextRelay domain place answer) = []
call_gift (NextCopy domain place answer) = []

abbrev pub gifts : List TurnCall → List TurnCall
gifts cs = flat_map call_gift cs
