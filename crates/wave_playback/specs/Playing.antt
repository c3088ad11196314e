-- What a playback shows, and where it goes.
--     PlaybackOf         the history, and the version that is shown
--     shown_at h v       the state of the history at a version; None where the version is no delta end
--     next_end h v       the version after the delta that was applied at a version; None where none was
--     last_start h v     the version at which the delta was applied that leads to a version; None where none does
--     moved p o          whether there is a version to go to, and the playback there; without one it stays
--     forward, back, sought      a delta on, a delta back, and to a version
use Rattle.std.specs.Prelude.{ℕ, zero, suc, ◌+◌, Bool, true, false, List, length, slice_get, Option, Some, None}
use Rattle.std.specs.Option.{option_map}
use Rattle.wavelet_op.specs.Deltas.{DeltaOf}
use Rattle.wavelet_op.specs.States.{State}
use Rattle.delta_history.specs.Histories.{HistoryOf}
use Rattle.delta_history.specs.Places.{started_below}
use Rattle.delta_history.specs.Points.{point_at, state_of}

pub record PlaybackOf : Type 0 where
  pub history : HistoryOf
  pub version : ℕ

abbrev pub shown_at : HistoryOf → ℕ → Option State
shown_at h v = state_of (point_at h.name h.deltas v)

-- ---- one delta on, and one back

abbrev pub next_end : HistoryOf → ℕ → Option ℕ
next_end h v = option_map (λ d. d.from.version + length d.ops) (slice_get h.deltas (started_below v h.deltas))

-- the last of the first k deltas
abbrev pub last_of : ℕ → List DeltaOf → Option DeltaOf
last_of zero ds = None
last_of (suc k) ds = slice_get ds k

abbrev pub last_start : HistoryOf → ℕ → Option ℕ
last_start h v = option_map (λ d. d.from.version) (last_of (started_below v h.deltas) h.deltas)

-- ---- where it goes

abbrev pub at_version : HistoryOf → ℕ → PlaybackOf
at_version h v = record { history = h; version = v }

abbrev pub moved : PlaybackOf → Option ℕ → Bool × PlaybackOf
moved p None = (false, p)
moved p (Some v) = (true, at_version p.history v)

abbrev pub forward : PlaybackOf → Bool × PlaybackOf
forward p = moved p (next_end p.history p.version)

abbrev pub back : PlaybackOf → Bool × PlaybackOf
back p = moved p (last_start p.history p.version)

abbrev pub sought : PlaybackOf → ℕ → Bool × PlaybackOf
sought p v = moved p (option_map (λ s. v) (shown_at p.history v))
