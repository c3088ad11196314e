-- The parts of a step.
--     IsPair ls es p          both lists past each other, in normal form; the earlier one structured
--     AreStructured es        each entry's operations on documents are structured
--     IsRebased es acts p     the entries past the acts, and what is left of these
--     IsOver g q acts p       the flight and the entries past the acts, and what is left of these
--     IsInvalid s acts e      why acts aren't valid
--     IsTried s acts full short e   why an edit is refused at the screen s
--     IsComparison g d m      what a delta with the flight's id is to it
--     IsMeeting f d m         what a delta at the follower's hashed version is to the flight
use Rattle.std.specs.Prelude.{◌≡◌, ◌≢◌, ◌++◌, Bool, true, false, List, [], map, Option, Some, None}
use Rattle.std.specs.List.{All}
use Rattle.std.specs.Option.{option_map, option_to_list}
use Rattle.wavelet_op.specs.Acts.{meanings, AreNormal, AreStructuredActs}
use Rattle.wavelet_op.specs.Deltas.{DeltaOf}
use Rattle.wavelet_op.specs.declared.op.WaveletOp.{WaveletOp}
use Rattle.wavelet_op.specs.declared.pair.OpsPair.{OpsPair}
use Rattle.delta_history.specs.Points.{acts_of}
use Rattle.delta_history.specs.Verdicts.{ops_of}
use Rattle.wavelet_op.specs.Acts.{Act}
use Rattle.wavelet_op.specs.States.{State, run, first_invalid}
use Rattle.follower_rules.specs.declared.fault.FollowerFault.{FollowerFault}
use Rattle.follower_rules.specs.declared.fault.FollowerFault.TheVariants.{OpInvalid, EditFull, TooBig, NumbersSpent, Memory}
use Rattle.follower_rules.specs.declared.received.Received.TheVariants.{OtherFlight}
use Rattle.follower_rules.specs.Followers.{Flight, FollowerOf, flying}
use Rattle.follower_rules.specs.Receiving.{past, rebase, over, is_own, advance, receive_other, receive_flight}
use Rattle.client_control.specs.declared.flight.InFlight.{InFlight}
use Rattle.client_control.specs.declared.past.Rebased.{Rebased}
use Rattle.client_control.specs.declared.past.Passed.{Passed}
use Rattle.client_control.specs.declared.receiving.Meeting.{Meeting}
use Rattle.client_control.specs.declared.receiving.Meeting.TheVariants.{Other, Own, Clash}
use Rattle.client_control.specs.Parts.{flight_of, with_ops, IsNormalFlight}

pub record IsPair (later earlier : List WaveletOp) (p : OpsPair) : Type 0 where
  pub is : past (meanings later) (meanings earlier) ≡ Some (meanings p.later, meanings p.earlier)
  pub later_normal : AreNormal p.later
  pub earlier_structured : AreStructuredActs (meanings p.earlier)

abbrev pub AreStructured : List (List WaveletOp) → Type 0
AreStructured entries = All (λ ops. AreStructuredActs (meanings ops)) entries

pub record IsRebased (entries : List (List WaveletOp)) (ops : List WaveletOp) (p : Rebased) : Type 0 where
  pub is : rebase (map meanings entries) (meanings ops) ≡ Some (map meanings p.entries.items, meanings p.left)
  pub normal : All AreNormal p.entries.items

pub record IsOver (g : Option InFlight) (q : List (List WaveletOp)) (ops : List WaveletOp) (p : Passed) : Type 0 where
  pub is : over (option_map flight_of g) (map meanings q) (meanings ops)
      ≡ Some ((option_map flight_of (with_ops g p.flight), map meanings p.queue.items), meanings p.left)
  pub flying : map meanings (option_to_list p.flight ++ p.queue.items) ≡ flying (option_map flight_of (with_ops g p.flight))
      ++ map meanings p.queue.items
  pub flight_normal : IsNormalFlight (with_ops g p.flight)
  pub queue_normal : All AreNormal p.queue.items

abbrev pub IsInvalid : State → List Act → FollowerFault → Type 0
IsInvalid s acts (OpInvalid k) = (run s acts ≡ None) × (k ≡ first_invalid s acts)
IsInvalid s acts EditFull = ⊥
IsInvalid s acts TooBig = ⊥
IsInvalid s acts NumbersSpent = ⊥
IsInvalid s acts Memory = Unit {0}

abbrev pub IsTried : State → List Act → Bool → Bool → FollowerFault → Type 0
IsTried s acts full short (OpInvalid k) = (run s acts ≡ None) × (k ≡ first_invalid s acts)
IsTried s acts full short EditFull = (run s acts ≢ None) × (full ≡ true)
IsTried s acts full short TooBig = (run s acts ≢ None) × (full ≡ false) × (short ≡ false)
IsTried s acts full short NumbersSpent = ⊥
IsTried s acts full short Memory = Unit {0}

abbrev pub IsComparison : InFlight → DeltaOf → Meeting → Type 0
IsComparison g d Other = ⊥
IsComparison g d Own = (is_own d (meanings g.ops) ≡ true) × (acts_of d ≡ meanings g.ops)
IsComparison g d (Clash mine theirs) = (is_own d (meanings g.ops) ≡ false) × (mine ≡ ops_of (meanings g.ops)) × (theirs ≡ d.ops)

abbrev pub IsMeeting : FollowerOf → DeltaOf → Meeting → Type 0
IsMeeting f d Other = receive_flight f d f.flight ≡ receive_other f d
IsMeeting f d Own = (receive_flight f d f.flight ≡ advance f d (Some ((None, f.queue), [])))
    × ((x : Flight) × (f.flight ≡ Some x) × (acts_of d ≡ x.acts))
IsMeeting f d (Clash mine theirs) = receive_flight f d f.flight ≡ (OtherFlight mine theirs, f)
