-- Operations on their way through deltas, with no count too large.
--     AreSmall p             no document at the point has more items than were inserted up to there
--     CanCross as es         both lists are valid at one state, and there is room for all that they insert
--     CanPass as ds          the acts are valid at a point from which the deltas lead on, and all that is inserted up to the end,
--                            the acts' items with it, is no more than a document may have
--     IsPast os es o         the operations o are what os become past the others, in normal form
--     Passes as ds os        these are the operations, in normal form, that acts become on their way
use Rattle.std.specs.Prelude.{◌≡◌, ◌≤◌, ◌+◌, ℕ, List, length, Some}
use Rattle.doc_items.specs.Limits.{max_count}
use Rattle.doc_items.specs.Maps.{Key}
use Rattle.wavelet_op.specs.Acts.{Act, meanings, inserted, AreNormal}
use Rattle.wavelet_op.specs.Deltas.{DeltaOf}
use Rattle.wavelet_op.specs.Grids.{grid, pass}
use Rattle.wavelet_op.specs.States.{State, document_of, run}
use Rattle.wavelet_op.specs.declared.op.WaveletOp.{WaveletOp}
use Rattle.delta_history.specs.Points.{Point, replay}
use Rattle.delta_history.specs.Passing.{all_acts}

abbrev pub AreSmall : State → ℕ → Type 0
AreSmall s n = (d : Key) → length (document_of s d) ≤ n

pub record CanCross (acts earlier : List Act) : Type 0 where
  pub state : State
  pub items : ℕ
  pub small : AreSmall state items
  pub after : State
  pub goes : run state acts ≡ Some after
  pub after_earlier : State
  pub earlier_goes : run state earlier ≡ Some after_earlier
  pub room : items + (inserted acts + inserted earlier) ≤ max_count

pub record CanPass (acts : List Act) (ds : List DeltaOf) : Type 0 where
  pub base : Point
  pub end : Point
  pub leads : replay base ds ≡ Some end
  pub after : State
  pub valid : run base.state acts ≡ Some after
  pub small : AreSmall base.state base.count
  pub room : end.count + inserted acts ≤ max_count

pub record IsPast (ops earlier : List WaveletOp) (past : List WaveletOp) : Type 0 where
  pub earlier' : List Act
  pub is : grid (meanings ops) (meanings earlier) ≡ Some (meanings past, earlier')
  pub normal : AreNormal past
  pub long : length past ≡ length ops

pub record Passes (acts : List Act) (ds : List DeltaOf) (ops : List WaveletOp) : Type 0 where
  pub is : pass acts (all_acts ds) ≡ Some (meanings ops)
  pub normal : AreNormal ops
  pub long : length ops ≡ length acts
