-- What came of a submission, by the marks of its shard.
--     IsTurnedDown d k from ms n s   at a moment, not before the first of these marks were there, no delta came of it
--     HasOutcome d k from ms n s     its id is in the wavelet's history, or it was turned down since then, or a mark tells that the store
--                                    failed at it
--     HasOutcomeOn d k ms n x s      so, since a moment at which the delta x was in the history
use Rattle.std.specs.Prelude.{◌≡◌, ◌⊎◌, ℕ, true, List, None, Contains}
use mathlib.Core.List.{IsPrefix}
use Rattle.doc_items.specs.Maps.{Key}
use Rattle.wavelet_op.specs.Deltas.{DeltaOf}
use Rattle.wavelet_op.specs.declared.delta.Submission.{Submission}
use Rattle.delta_history.specs.Legal.{has_id}
use Rattle.wavelet_shelf.specs.Hosting.{deltas_in, judged_in}
use Rattle.shard_marks.specs.declared.mark.Mark.{Mark}
use Rattle.shard_marks.specs.declared.mark.Mark.TheVariants.{Fault}
use Rattle.shard_marks.specs.Marks.{replayed}

module _ (d : Key) (k : ℕ) where
  pub record IsTurnedDown (from ms : List Mark) (n : Key) (s : Submission) : Type 0 where
    pub time : ℕ
    pub cut : List Mark
    pub since : IsPrefix from cut
    pub begins : IsPrefix cut ms
    pub nothing : (judged_in (replayed d k cut) n s time).1 ≡ None

  abbrev pub HasOutcome : List Mark → List Mark → Key → Submission → Type 0
  HasOutcome from ms n s = (has_id s.id (deltas_in (replayed d k ms) n) ≡ true) ⊎ (IsTurnedDown from ms n s ⊎ Contains ms (Fault n s.id))

  pub record HasOutcomeOn (ms : List Mark) (n : Key) (x : DeltaOf) (s : Submission) : Type 0 where
    pub from : List Mark
    pub there : Contains (deltas_in (replayed d k from) n) x
    pub outcome : HasOutcome from ms n s
