-- The one spelling of an operation is that of its normal form. One of 2^32 bytes or more has none.
--     canonical cs       the bytes of the normal form of the operation with these components
--     IsSpelling cs      a built operation in normal form, which has a spelling
--     IsRead bytes cs used     these components are spelled by the first `used` of the bytes
use Rattle.std.specs.Prelude.{◌≡◌, ℕ, List, ◌++◌, ◌<◌, length, drop}
use Rattle.doc_op.specs.declared.component.Component.{Component}
use Rattle.doc_op.specs.Actions.{actions}
use Rattle.doc_op.specs.Refusals.{IsBuilt}
use Rattle.doc_op.specs.Normal.{normal_form}
use Rattle.op_codec.specs.Spelling.{spelling, limit, IsSpelled}

abbrev pub canonical : List Component → List ℕ
canonical cs = spelling (normal_form (actions cs))

pub record IsSpelling (cs : List Component) : Type 0 where
  pub built : IsBuilt cs
  pub short : length (spelling cs) < limit
  pub spelled : IsSpelled cs
  pub normal : normal_form (actions cs) ≡ cs

pub record IsRead (bytes : List ℕ) (cs : List Component) (used : ℕ) : Type 0 where
  pub is : IsSpelling cs
  pub front : bytes ≡ spelling cs ++ drop used bytes
  pub len : used ≡ length (spelling cs)
