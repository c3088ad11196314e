-- Another server's copy of a wavelet.
--     ReplicaOf               the deltas so far, the submissions that wait for the host's verdict, and whether it was dropped
--     empty_replica           as it starts, and starts again
--     may_follow ds d p q     d may come next after ds, at whose head p it is applied, and q is the point after it
--     absorb name r d         the copy with a delta more, where that may come next
--     is_waiting i ss         a submission of this id waits
--     without i ss            the submissions of other ids
--     queue r s               the submission waits, unless one of its id does or is in the history
--     settle r i              none of this id waits
use Rattle.std.specs.Prelude.{Bool, false, cond, not, ◌&&◌, ◌||◌, List, [], ◌∷◌, ◌++◌, length, Option, Some, None, option_and_then}
use Rattle.wave_base.specs.Versions.{IdOf, same_id, same_version}
use Rattle.doc_items.specs.Maps.{Key}
use Rattle.wavelet_op.specs.Deltas.{DeltaOf, is_count}
use Rattle.wavelet_op.specs.declared.delta.Submission.{Submission}
use Rattle.delta_history.specs.Legal.{has_id, standing, may_write}
use Rattle.delta_history.specs.Points.{Point, start, acts_of, next_point, replay}
use Rattle.follower_rules.specs.Receiving.{is_within}

pub record ReplicaOf : Type 0 where
  pub deltas : List DeltaOf
  pub waiting : List Submission
  pub dropped : Bool

abbrev pub empty_replica : ReplicaOf
empty_replica = record { deltas = []; waiting = []; dropped = false }

abbrev pub is_waiting : IdOf → List Submission → Bool
is_waiting i [] = false
is_waiting i (s ∷ rest) = same_id i s.id || is_waiting i rest

abbrev pub without : IdOf → List Submission → List Submission
without i [] = []
without i (s ∷ rest) = cond (same_id i s.id) (without i rest) (s ∷ without i rest)

abbrev pub may_follow : List DeltaOf → DeltaOf → Point → Point → Bool
may_follow ds d p q = is_count (length d.ops)
    && (not (has_id d.id ds) && (may_write (standing ds p d.id.author (acts_of d)) && is_within q d))

abbrev pub grown : ReplicaOf → DeltaOf → ReplicaOf
grown r d = record { deltas = r.deltas ++ d ∷ []; waiting = without d.id r.waiting; dropped = false }

abbrev pub absorb_to : ReplicaOf → DeltaOf → Point → Option Point → Option ReplicaOf
absorb_to r d p None = None
absorb_to r d p (Some q) = cond (may_follow r.deltas d p q) (Some (grown r d)) None

abbrev pub absorb_at : ReplicaOf → DeltaOf → Point → Option ReplicaOf
absorb_at r d p = cond (same_version d.from p.at) (absorb_to r d p (next_point p d)) None

abbrev pub absorb : Key → ReplicaOf → DeltaOf → Option ReplicaOf
absorb name r d = option_and_then (absorb_at r d) (replay (start name) r.deltas)

abbrev pub queue : ReplicaOf → Submission → ReplicaOf
queue r s = cond (has_id s.id r.deltas || is_waiting s.id r.waiting) r
    (record { deltas = r.deltas; waiting = r.waiting ++ s ∷ []; dropped = r.dropped })

abbrev pub settle : ReplicaOf → IdOf → ReplicaOf
settle r i = record { deltas = r.deltas; waiting = without i r.waiting; dropped = r.dropped }
