-- A copy of another domain's wavelet.
--     CopyOf                  its history; the submissions that wait for the host's verdict, in order; the newest verdicts that were noted,
--                             in order; whether the host gives it no more
--     most_noted              how many verdicts are kept
--     copy ..                 the copy of these parts
--     in_world c              the copy as it is in the world
--     waiting_ids c, noted_ids c, delta_ids c     the ids of what waits, of what was noted, and of the deltas
--     times i is              how often an id stands in a list
--     IsSound c               an id has one entry: it waits, its verdict was noted, or the history has it; and no more verdicts are kept
--                             than may be
--     IsSameCopy b c          equal but for the history's room
use Rattle.std.specs.Prelude.{◌≡◌, ◌≤◌, ◌+◌, ℕ, suc, Bool, cond, List, [], ◌∷◌, map, length}
use Rattle.wave_base.specs.Versions.{IdOf, same_id}
use Rattle.wavelet_op.specs.Deltas.{DeltaOf}
use Rattle.wavelet_op.specs.declared.delta.Submission.{Submission}
use Rattle.delta_history.specs.Histories.{HistoryOf, IsSameHistory}
use Rattle.follower_rules.specs.Replicas.{ReplicaOf}
use Rattle.replica_store.specs.declared.outcomes.Noted.{Noted}

pub record CopyOf : Type 0 where
  pub history : HistoryOf
  pub waiting : List Submission
  pub noted : List Noted
  pub dropped : Bool

abbrev pub copy : HistoryOf → List Submission → List Noted → Bool → CopyOf
copy history waiting noted dropped = record { history = history; waiting = waiting; noted = noted; dropped = dropped }

abbrev pub in_world : CopyOf → ReplicaOf
in_world c = record { deltas = c.history.deltas; waiting = c.waiting; dropped = c.dropped }

abbrev pub most_noted : ℕ
most_noted = 1024

-- ---- ids

abbrev pub waiting_ids : CopyOf → List IdOf
waiting_ids c = map (λ (s : Submission). s.id) c.waiting

abbrev pub noted_ids : CopyOf → List IdOf
noted_ids c = map (λ (n : Noted). n.id) c.noted

abbrev pub delta_ids : CopyOf → List IdOf
delta_ids c = map (λ (d : DeltaOf). d.id) c.history.deltas

abbrev pub times : IdOf → List IdOf → ℕ
times i [] = 0
times i (j ∷ is) = cond (same_id i j) (suc (times i is)) (times i is)

pub record IsSound (c : CopyOf) : Type 0 where
  pub once : (i : IdOf) → times i (waiting_ids c) + times i (noted_ids c) + times i (delta_ids c) ≤ 1
  pub few : length c.noted ≤ most_noted

pub record IsSameCopy (b c : CopyOf) : Type 0 where
  pub history : IsSameHistory b.history c.history
  pub waiting : c.waiting ≡ b.waiting
  pub noted : c.noted ≡ b.noted
  pub dropped : c.dropped ≡ b.dropped
