-- Deltas as contracts see them.
--     is_count n       a delta may have so many operations
--     DeltaOf          a delta of a history: its id, the version at which it was applied, when, and the operations
use Rattle.std.specs.Prelude.{ℕ, Bool, ◌&&◌, nat_le, List}
use Rattle.wave_base.specs.Versions.{IdOf, VersionAt}
use Rattle.wavelet_op.specs.declared.op.WaveletOp.{WaveletOp}

abbrev pub is_count : ℕ → Bool
is_count n = nat_le 1 n && nat_le n 1000

pub record DeltaOf : Type 0 where
  pub id : IdOf
  pub from : VersionAt
  pub time : ℕ
  pub ops : List WaveletOp
