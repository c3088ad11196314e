-- What one call adds to the turns that were refused and to the calls that gave a copy something.
--     refused_more, gifts_same      for calls of any kind
use Rattle.std.proofs.Common.{◌≡◌, ◌∙◌, ap, refl, List, [], ◌++◌, Result, Ok, Err, append-nil}
use Rattle.std.proofs.lemmas.List.Concat.{flat_map-append}
use Rattle.turn_lock.specs.declared.cell.Spent.{Spent}
use Rattle.peer_turns.specs.Calls.{told, refused, refusals, gifts, call_refused, call_gift, answer_refused}
use Rattle.peer_turns.specs.declared.call.TurnCall.{TurnCall}
use Rattle.peer_turns.specs.declared.fault.TurnFault.{TurnFault}
use Rattle.peer_turns.specs.declared.fault.TurnFault.TheVariants as fault

module _ {A : Type 0} (call : Result A Spent → TurnCall) where
  refused_told : ((a : Result A Spent) → call_refused (call a) ≡ answer_refused a) → (r : Result A TurnFault) → refusals (told call r) ≡ refused r
  refused_told is (Ok a) = append-nil (call_refused (call (Ok a))) ∙ is (Ok a)
  refused_told is (Err (fault.Spent s)) = append-nil (call_refused (call (Err s))) ∙ is (Err s)
  refused_told is (Err fault.Memory) = refl

  gifts_none : ((a : Result A Spent) → call_gift (call a) ≡ []) → (r : Result A TurnFault) → gifts (told call r) ≡ []
  gifts_none is (Ok a) = append-nil (call_gift (call (Ok a))) ∙ is (Ok a)
  gifts_none is (Err (fault.Spent s)) = append-nil (call_gift (call (Err s))) ∙ is (Err s)
  gifts_none is (Err fault.Memory) = refl

  pub refused_more : (before after : List TurnCall) (r : Result A TurnFault) → ((a : Result A Spent) → call_refused (call a) ≡ answer_refused a)
      → after ≡ before ++ told call r → refusals after ≡ refusals before ++ refused r
  refused_more before after r is grown = ap refusals grown ∙ flat_map-append call_refused before (told call r) ∙ ap (λ s. refusals before ++ s) (refused_told is r)

  pub gifts_same : (before after : List TurnCall) (r : Result A TurnFault) → ((a : Result A Spent) → call_gift (call a) ≡ [])
      → after ≡ before ++ told call r → gifts after ≡ gifts before
  gifts_same before after r is grown = ap gifts grown ∙ flat_map-append call_gift before (told call r) ∙ ap (λ s. gifts before ++ s) (gifts_none is r) ∙ append-nil (gifts before)
