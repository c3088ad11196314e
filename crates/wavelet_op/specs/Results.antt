-- What `transform_op`, `transform_delta` and `compact` answer.
--     Refuses r f           the fault f tells the refusal r: the index of a conflict, or that counts are too large
--     IsPair l e p          the results of two operations, in normal form and structured
--     IsOpsPair ls es p     the results of two lists of operations, likewise, each list as long as before
--     IsCompaction os r     the compacted operations, in normal form; structured where those before are
--     TellsUnfit r f        the fault f tells why no act takes the place of two
--     IsUnfit os f          the fault f tells why operations aren't compacted
--     fault_of f k, fault_of_compose f     the fault where operations on a document have no transform, or no composition
use Rattle.std.specs.Prelude.{◌≡◌, ℕ, List, length, Result, Ok, Err}
use Rattle.op_compose.specs.declared.fault.ComposeFault.{ComposeFault}
use Rattle.op_compose.specs.declared.fault.ComposeFault.TheVariants as of_compose
use Rattle.op_transform.specs.declared.fault.TransformFault.{TransformFault}
use Rattle.op_transform.specs.declared.fault.TransformFault.TheVariants as of_transform
use Rattle.wavelet_op.specs.Acts.{meaning, meanings, IsNormal, AreNormal, IsStructuredAct, AreStructuredActs}
use Rattle.wavelet_op.specs.Compacts.{Unfit, OverLimit, Misfit, bounded_compact}
use Rattle.wavelet_op.specs.Grids.{bounded_grid}
use Rattle.wavelet_op.specs.Transform.{Refusal, TooLarge, Clash, bounded}
use Rattle.wavelet_op.specs.declared.fault.WaveletFault.{WaveletFault}
use Rattle.wavelet_op.specs.declared.fault.WaveletFault.TheVariants.{OpInvalid, CountTooLarge, Conflict, DontFit, Memory}
use Rattle.wavelet_op.specs.declared.op.WaveletOp.{WaveletOp}
use Rattle.wavelet_op.specs.declared.pair.OpPair.{OpPair}
use Rattle.wavelet_op.specs.declared.pair.OpsPair.{OpsPair}

abbrev pub fault_of : TransformFault → ℕ → WaveletFault
fault_of of_transform.CountTooLarge k = CountTooLarge
fault_of (of_transform.Conflict place) k = Conflict k
fault_of of_transform.Memory k = Memory

abbrev pub fault_of_compose : ComposeFault → WaveletFault
fault_of_compose of_compose.CountTooLarge = CountTooLarge
fault_of_compose (of_compose.DontFit place) = DontFit place
fault_of_compose of_compose.Memory = Memory

abbrev pub Refuses : {X : Type 0} → Result X (ℕ × Refusal) → WaveletFault → Type 0
Refuses r (OpInvalid k) = ⊥
Refuses r CountTooLarge = (k : ℕ) × (r ≡ Err (k, TooLarge))
Refuses r (Conflict k) = r ≡ Err (k, Clash)
Refuses r (DontFit place) = ⊥
Refuses r Memory = Unit {0}

pub record IsPair (later earlier : WaveletOp) (p : OpPair) : Type 0 where
  pub is : bounded (meaning later) (meaning earlier) ≡ Ok (meaning p.later, meaning p.earlier)
  pub later_normal : IsNormal p.later
  pub earlier_normal : IsNormal p.earlier
  pub later_structured : IsStructuredAct (meaning p.later)
  pub earlier_structured : IsStructuredAct (meaning p.earlier)

pub record IsOpsPair (later earlier : List WaveletOp) (p : OpsPair) : Type 0 where
  pub is : bounded_grid (meanings later) (meanings earlier) ≡ Ok (meanings p.later, meanings p.earlier)
  pub later_normal : AreNormal p.later
  pub earlier_normal : AreNormal p.earlier
  pub later_long : length p.later ≡ length later
  pub earlier_long : length p.earlier ≡ length earlier
  pub later_structured : AreStructuredActs (meanings p.later)
  pub earlier_structured : AreStructuredActs (meanings p.earlier)

pub record IsCompaction (ops fewer : List WaveletOp) : Type 0 where
  pub is : bounded_compact (meanings ops) ≡ Ok (meanings fewer)
  pub normal : AreNormal fewer
  pub structured : AreStructuredActs (meanings ops) → AreStructuredActs (meanings fewer)

abbrev pub TellsUnfit : {X : Type 0} → Result X Unfit → WaveletFault → Type 0
TellsUnfit r (OpInvalid k) = ⊥
TellsUnfit r CountTooLarge = r ≡ Err OverLimit
TellsUnfit r (Conflict k) = ⊥
TellsUnfit r (DontFit place) = r ≡ Err (Misfit place)
TellsUnfit r Memory = Unit {0}

abbrev pub IsUnfit : List WaveletOp → WaveletFault → Type 0
IsUnfit ops f = TellsUnfit (bounded_compact (meanings ops)) f
