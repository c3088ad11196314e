-- What an operation on a wavelet means: an act. Addresses and names of documents are their bytes.
--     Act                         nothing; an address is added, removed, or given a new role in place of an old one; the actions
--                                 of an operation on a document
--     meaning o, meanings os      the acts of operations
--     inserted_act a, inserted as     how many items acts insert
--     IsStructuredAct a, AreStructuredActs as     each operation on a document is structured
--     IsNormal o, AreNormal os    each operation on a document is in normal form
--     same_role                   the test of ≡ on roles
use Rattle.std.specs.Prelude.{◌≡◌, ℕ, ◌+◌, Bool, true, false, List, [], ◌∷◌, map}
use Rattle.std.specs.List.{All}
use Rattle.doc_items.specs.Maps.{Key}
use Rattle.doc_op.specs.Actions.{Action, actions}
use Rattle.doc_op.specs.Lengths.{inserted_len}
use Rattle.doc_op.specs.Normal.{normal_form}
use Rattle.doc_op.specs.Structure.{Structured}
use Rattle.wavelet_op.specs.declared.op.WaveletOp.{WaveletOp}
use Rattle.wavelet_op.specs.declared.op.WaveletOp.TheVariants.{NoOp, Add, Remove, Mutate, SetRole}
use Rattle.wavelet_op.specs.declared.role.Role.{Role}
use Rattle.wavelet_op.specs.declared.role.Role.TheVariants.{Full, ReadOnly}

pub data Act : Type 0 where
  Idle : Act
  Adds : Key → Act
  Removes : Key → Act
  Sets : Key → Role → Role → Act
  Mutates : Key → List Action → Act

abbrev pub same_role : Role → Role → Bool
same_role Full Full = true
same_role Full ReadOnly = false
same_role ReadOnly Full = false
same_role ReadOnly ReadOnly = true

-- ---- what operations mean

abbrev pub meaning : WaveletOp → Act
meaning NoOp = Idle
meaning (Add address) = Adds address
meaning (Remove address) = Removes address
meaning (Mutate document op) = Mutates document (actions op)
meaning (SetRole address old new) = Sets address old new

abbrev pub meanings : List WaveletOp → List Act
meanings ops = map meaning ops

-- ---- of acts

unfoldable pub inserted_act : Act → ℕ
inserted_act Idle = 0
inserted_act (Adds a) = 0
inserted_act (Removes a) = 0
inserted_act (Sets a old new) = 0
inserted_act (Mutates d acts) = inserted_len acts

abbrev pub inserted : List Act → ℕ
inserted [] = 0
inserted (a ∷ more) = inserted_act a + inserted more

abbrev pub IsStructuredAct : Act → Type 0
IsStructuredAct Idle = Unit {0}
IsStructuredAct (Adds a) = Unit {0}
IsStructuredAct (Removes a) = Unit {0}
IsStructuredAct (Sets a old new) = Unit {0}
IsStructuredAct (Mutates d acts) = Structured acts

abbrev pub AreStructuredActs : List Act → Type 0
AreStructuredActs acts = All IsStructuredAct acts

-- ---- of operations

abbrev pub IsNormal : WaveletOp → Type 0
IsNormal NoOp = Unit {0}
IsNormal (Add address) = Unit {0}
IsNormal (Remove address) = Unit {0}
IsNormal (Mutate document op) = op ≡ normal_form (actions op)
IsNormal (SetRole address old new) = Unit {0}

abbrev pub AreNormal : List WaveletOp → Type 0
AreNormal ops = All IsNormal ops
