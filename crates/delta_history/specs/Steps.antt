-- What is asked of the next delta of a history, its state apart.
--     IsWithin at n d         after a delta at this hashed version, where n items were inserted, the three bounds hold
--     step_after at n d      the hashed version and the number of items after it
--     IsStep at n d s         the bounds hold, and s is what the delta leads to
--     IsWritten at n d s t    the bounds hold, s is what the delta leads to, and t are the bytes that it has
--     IsFitting h d           the delta starts at the head, its id is new, and the bounds hold
--     IsUnfit h d e           why it doesn't fit
use Rattle.std.specs.Prelude.{◌≡◌, ◌≢◌, ◌≤◌, ◌+◌, ℕ, false, List, length}
use Rattle.doc_items.specs.Limits.{max_count}
use Rattle.wave_base.specs.Versions.{VersionAt}
use Rattle.wavelet_op.specs.Acts.{inserted}
use Rattle.wavelet_op.specs.Deltas.{DeltaOf}
use Rattle.wavelet_codec.specs.Spelling.{delta_bytes, IsDelta}
use Rattle.delta_history.specs.declared.fault.HistoryFault.{HistoryFault}
use Rattle.delta_history.specs.declared.fault.HistoryFault.TheVariants.{NotNext, NotLegal, Memory}
use Rattle.delta_history.specs.declared.step.Step.{Step}
use Rattle.delta_history.specs.Histories.{HistoryOf, head_of}
use Rattle.delta_history.specs.Legal.{has_id, max_delta}
use Rattle.wavelet_state.specs.Snapshots.{max_inserted}
use Rattle.delta_history.specs.Points.{acts_of, version_after}

pub record IsWithin (at : VersionAt) (n : ℕ) (d : DeltaOf) : Type 0 where
  pub counted : at.version + length d.ops ≤ max_count
  pub held : n + inserted (acts_of d) ≤ max_inserted
  pub short : length (delta_bytes d) ≤ max_delta

abbrev pub step_after : VersionAt → ℕ → DeltaOf → Step
step_after at n d = record { to = version_after at d; inserted = n + inserted (acts_of d) }

abbrev pub IsStep : VersionAt → ℕ → DeltaOf → Step → Type 0
IsStep at n d s = IsWithin at n d × (s ≡ step_after at n d)

pub record IsWritten (at : VersionAt) (n : ℕ) (d : DeltaOf) (s : Step) (text : List ℕ) : Type 0 where
  pub within : IsWithin at n d
  pub step : s ≡ step_after at n d
  pub is : IsDelta d
  pub bytes : text ≡ delta_bytes d

pub record IsFitting (h : HistoryOf) (d : DeltaOf) : Type 0 where
  pub starts : d.from ≡ (head_of h).at
  pub new : has_id d.id h.deltas ≡ false
  pub within : IsWithin (head_of h).at (head_of h).count d

abbrev pub IsUnfit : HistoryOf → DeltaOf → HistoryFault → Type 0
IsUnfit h d (NotNext have got) = (d.from ≢ (head_of h).at) × (have ≡ (head_of h).at) × (got ≡ d.from)
IsUnfit h d NotLegal = (d.from ≡ (head_of h).at) × (¬ (IsFitting h d))
IsUnfit h d Memory = Unit {0}
