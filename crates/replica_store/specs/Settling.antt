-- Submissions to a copy, and their outcomes.
--     Queued                  as it is declared: the history has the submission's delta, or it waits
--     noted_for i ns          the verdict that was noted for the id
--     unnoted i ns            what was noted for others
--     newest ns               the last ones of a list of verdicts, as many as are kept
--     with_noted ns i v       the verdicts that are kept after one more was noted for an id
--     kept_by c i             what the history keeps for an id
--     outcome c i             the acknowledgement of the id's delta, where the history has it, else what was noted for the id
--     with_waiting s ss       what waits with one submission more, unless one of its id does, as in the world
--     queue_in c s            the answer to a submission, and the copy after it: the submission waits, once, unless the history has it;
--                             while it waits nothing is noted for it
--     note_in c i v           whether the id waits, and the copy after the host's verdict on it: it waits no more, and the verdict is
--                             noted
--     drop_in c               the host gives the copy no more
use Rattle.std.specs.Prelude.{ℕ, ◌-◌, Bool, true, false, not, cond, List, [], ◌∷◌, ◌++◌, length, drop, Option, Some, None}
use Rattle.std.specs.List.{filter}
use Rattle.wave_base.specs.Versions.{IdOf, same_id}
use Rattle.wavelet_op.specs.declared.delta.Submission.{Submission}
use Rattle.wavelet_op.specs.declared.verdict.Verdict.{Verdict}
use Rattle.wavelet_op.specs.declared.verdict.Verdict.TheVariants.{Ack}
use Rattle.delta_history.specs.declared.kept.Kept.{Kept}
use Rattle.delta_history.specs.Points.{start}
use Rattle.delta_history.specs.Verdicts.{kept}
use Rattle.follower_rules.specs.Replicas.{is_waiting, without, queue}
use Rattle.replica_store.specs.declared.outcomes.Noted.{Noted}
use Rattle.replica_store.specs.declared.queued.Queued.{Queued}
use Rattle.replica_store.specs.declared.queued.Queued.TheVariants as queued
use Rattle.replica_store.specs.Copies.{CopyOf, most_noted}

-- ---- outcomes

abbrev pub noted_for : IdOf → List Noted → Option Verdict
noted_for i [] = None
noted_for i (n ∷ ns) = cond (same_id i n.id) (Some n.verdict) (noted_for i ns)

abbrev pub unnoted : IdOf → List Noted → List Noted
unnoted i ns = filter (λ (n : Noted). not (same_id i n.id)) ns

abbrev pub newest : List Noted → List Noted
newest ns = drop (length ns - most_noted) ns

abbrev pub with_noted : List Noted → IdOf → Verdict → List Noted
with_noted ns i v = newest (ns ++ record { id = i; verdict = v } ∷ [])

abbrev pub outcome_kept : IdOf → List Noted → Option Kept → Option Verdict
outcome_kept i ns (Some k) = Some (Ack k.at k.to)
outcome_kept i ns None = noted_for i ns

abbrev pub kept_by : CopyOf → IdOf → Option Kept
kept_by c i = kept i (start c.history.name) c.history.deltas

abbrev pub outcome : CopyOf → IdOf → Option Verdict
outcome c i = outcome_kept i c.noted (kept_by c i)

-- ---- a submission

abbrev pub with_waiting : Submission → List Submission → List Submission
with_waiting s ss = (queue (record { deltas = []; waiting = ss; dropped = false }) s).waiting

abbrev pub waits_in : CopyOf → Submission → CopyOf
waits_in c s = record c { waiting = with_waiting s c.waiting; noted = unnoted s.id c.noted }

abbrev pub queue_kept : CopyOf → Submission → Option Kept → Queued × CopyOf
queue_kept c s (Some k) = (queued.Kept k, c)
queue_kept c s None = (queued.Waiting, waits_in c s)

abbrev pub queue_in : CopyOf → Submission → Queued × CopyOf
queue_in c s = queue_kept c s (kept_by c s.id)

-- ---- a verdict

abbrev pub settled_in : CopyOf → IdOf → Verdict → CopyOf
settled_in c i v = record c { waiting = without i c.waiting; noted = with_noted c.noted i v }

abbrev pub note_waiting : CopyOf → IdOf → Verdict → Bool → Bool × CopyOf
note_waiting c i v false = (false, c)
note_waiting c i v true = (true, settled_in c i v)

abbrev pub note_in : CopyOf → IdOf → Verdict → Bool × CopyOf
note_in c i v = note_waiting c i v (is_waiting i c.waiting)

-- ---- a drop

abbrev pub drop_in : CopyOf → CopyOf
drop_in c = record c { dropped = true }
