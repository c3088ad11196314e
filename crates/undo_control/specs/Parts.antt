-- A chain as its code keeps it: with operations in the place of acts.
--     Chain                 the state, and the operations of each entry, the newest first
--     chain s es            the chain of these
--     chain_of c            as definitions speak of it
--     IsKept c              its entries are valid in turn at its state, not too many, and in normal form
--     IsPast c ops es       the entries past operations
--     IsRefusedChange c acts f     why a change made by others isn't taken
use Rattle.std.specs.Prelude.{◌≡◌, ◌≤◌, List, length, map, None, Some, IsSome}
use Rattle.std.specs.List.{All}
use Rattle.wavelet_op.specs.Acts.{Act, meanings, AreNormal}
use Rattle.wavelet_op.specs.States.{State, run, first_invalid}
use Rattle.wavelet_op.specs.declared.fault.WaveletFault.{WaveletFault}
use Rattle.wavelet_op.specs.declared.fault.WaveletFault.TheVariants.{OpInvalid, CountTooLarge, Conflict, DontFit, Memory}
use Rattle.wavelet_op.specs.declared.op.WaveletOp.{WaveletOp}
use Rattle.follower_rules.specs.Receiving.{rebase}
use Rattle.undo_control.specs.Chains.{max_entries, ChainOf, IsInTurn, IsCrowded}

pub record Chain : Type 0 where
  pub state : State
  pub entries : List (List WaveletOp)

abbrev pub chain : State → List (List WaveletOp) → Chain
chain state entries = record { state = state; entries = entries }

abbrev pub chain_of : Chain → ChainOf
chain_of c = record { state = c.state; entries = map meanings c.entries }

pub record IsKept (c : Chain) : Type 0 where
  pub in_turn : IsInTurn (chain_of c)
  pub few : length c.entries ≤ max_entries
  pub normal : All AreNormal c.entries

pub record IsPast (c : ChainOf) (acts : List Act) (entries : List (List WaveletOp)) : Type 0 where
  pub left : List Act
  pub is : rebase c.entries acts ≡ Some (map meanings entries, left)
  pub normal : All AreNormal entries

abbrev pub IsRefusedChange : ChainOf → List Act → WaveletFault → Type 0
IsRefusedChange c acts (OpInvalid k) = (run c.state acts ≡ None) × (k ≡ first_invalid c.state acts)
IsRefusedChange c acts CountTooLarge = IsSome (run c.state acts) × IsCrowded c.entries acts
IsRefusedChange c acts (Conflict k) = ⊥
IsRefusedChange c acts (DontFit place) = ⊥
IsRefusedChange c acts Memory = Unit {0}
