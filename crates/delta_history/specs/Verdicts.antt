-- What becomes of a submission: the first of these tests that it fails gives the verdict.
--     kept i p ds             the version at which the delta of this id was applied, on the way from p, and the hashed version after it
--                             it
--     op_of a, ops_of as      the operations of acts, those on documents in normal form
--     accepted p s t acts     the delta that a submission becomes at the head p: at the time t, with its acts passed through what
--                             came since its base
--     is_within p acts d      the three bounds: of versions, of items inserted, of bytes
--     judge name ds s t       the verdict on a submission at the time t, and the delta by which the history grows. In order: a delta
--                             with its id is there; its author is absent at the head, or may only read; its version is no delta
--                             end; the hash there is another; its operations aren't valid there; a bound is broken; else it is
--                             accepted
use Rattle.std.specs.Prelude.{ℕ, ◌+◌, Bool, true, false, cond, ◌&&◌, ◌==◌, nat_le, min, List, [], ◌∷◌, length, map, Option, Some, None, option_and_then}
use Rattle.std.specs.Cmp.Lexicographic.{pointwise}
use Rattle.doc_items.specs.Limits.{max_count}
use Rattle.doc_op.specs.Normal.{normal_form}
use Rattle.wave_base.specs.Versions.{IdOf, same_id}
use Rattle.wavelet_op.specs.Acts.{Act, Idle, Adds, Removes, Sets, Mutates, meanings, inserted}
use Rattle.wavelet_op.specs.Deltas.{DeltaOf}
use Rattle.wavelet_op.specs.Grids.{pass}
use Rattle.wavelet_op.specs.States.{State, run, first_invalid}
use Rattle.wavelet_op.specs.declared.delta.Submission.{Submission}
use Rattle.wavelet_op.specs.declared.op.WaveletOp.{WaveletOp}
use Rattle.wavelet_op.specs.declared.op.WaveletOp.TheVariants.{NoOp, Add, Remove, Mutate, SetRole}
use Rattle.wavelet_op.specs.declared.role.Role.{Role}
use Rattle.wavelet_op.specs.declared.role.Role.TheVariants as role
use Rattle.wavelet_op.specs.declared.verdict.Verdict.{Verdict}
use Rattle.wavelet_op.specs.declared.verdict.Verdict.TheVariants.{Ack, NotParticipant, ReadOnly, UnknownVersion, WrongHash, Invalid, Full}
use Rattle.wavelet_codec.specs.Spelling.{delta_bytes}
use Rattle.delta_history.specs.declared.kept.Kept.{Kept}
use Rattle.delta_history.specs.Points.{Point, start, next_point, replay, cut}
use Rattle.delta_history.specs.Passing.{all_acts}
use Rattle.delta_history.specs.Legal.{standing, max_delta}
use Rattle.wavelet_state.specs.Snapshots.{max_inserted}

-- ---- what a history keeps

abbrev pub kept : IdOf → Point → List DeltaOf → Option Kept
kept i p [] = None
kept i p (d ∷ ds) = option_and_then (λ q. cond (same_id i d.id) (Some (record { at = p.at.version; to = q.at })) (kept i q ds))
    (next_point p d)

-- ---- the delta that a submission becomes

abbrev pub op_of : Act → WaveletOp
op_of Idle = NoOp
op_of (Adds a) = Add a
op_of (Removes a) = Remove a
op_of (Sets a old new) = SetRole a old new
op_of (Mutates d acts) = Mutate d (normal_form acts)

abbrev pub ops_of : List Act → List WaveletOp
ops_of acts = map op_of acts

abbrev pub accepted : Point → Submission → ℕ → List Act → DeltaOf
accepted p s t acts = record { id = s.id; from = p.at; time = min t max_count; ops = ops_of acts }

abbrev pub is_within : Point → List Act → DeltaOf → Bool
is_within p acts d = nat_le (p.at.version + length acts) max_count && nat_le (p.count + inserted acts) max_inserted
    && nat_le (length (delta_bytes d)) max_delta

-- ---- the verdict: each test is a function of what it finds

abbrev pub Judged : Type 0
Judged = Verdict × Option DeltaOf

abbrev pub judge_next : Point → DeltaOf → Option Point → Judged
judge_next p d None = (Full p.at, None)
judge_next p d (Some q) = (Ack p.at.version q.at, Some d)

abbrev pub judge_bounds : Point → DeltaOf → Bool → Judged
judge_bounds p d false = (Full p.at, None)
judge_bounds p d true = judge_next p d (next_point p d)

abbrev pub judge_pass : Submission → ℕ → Point → Option (List Act) → Judged
judge_pass s t p None = (Full p.at, None)
judge_pass s t p (Some acts) = judge_bounds p (accepted p s t acts) (is_within p (meanings s.ops) (accepted p s t acts))

abbrev pub judge_ops : Submission → ℕ → Point → Point → List DeltaOf → Option State → Judged
judge_ops s t p base ds None = (Invalid (first_invalid base.state (meanings s.ops)), None)
judge_ops s t p base ds (Some u) = judge_pass s t p (pass (meanings s.ops) (all_acts ds))

abbrev pub judge_hash : Submission → ℕ → Point → Point → List DeltaOf → Bool → Judged
judge_hash s t p base ds false = (WrongHash base.at.hash, None)
judge_hash s t p base ds true = judge_ops s t p base ds (run base.state (meanings s.ops))

abbrev pub same_hash : List ℕ → List ℕ → Bool
same_hash a b = pointwise ◌==◌ a b

abbrev pub judge_base : Submission → ℕ → Point → Option (Point × List DeltaOf) → Judged
judge_base s t p None = (UnknownVersion p.at, None)
judge_base s t p (Some c) = judge_hash s t p c.0 c.1 (same_hash s.at.hash c.0.at.hash)

abbrev pub judge_author : List ℕ → List DeltaOf → Submission → ℕ → Point → Option Role → Judged
judge_author name ds s t p None = (NotParticipant, None)
judge_author name ds s t p (Some role.ReadOnly) = (ReadOnly, None)
judge_author name ds s t p (Some role.Full) = judge_base s t p (cut (start name) s.at.version ds)

abbrev pub judge_head : List ℕ → List DeltaOf → Submission → ℕ → Option Point → Judged
judge_head name ds s t None = (NotParticipant, None)
judge_head name ds s t (Some p) = judge_author name ds s t p (standing ds p s.id.author (meanings s.ops))

abbrev pub judge_kept : List ℕ → List DeltaOf → Submission → ℕ → Option Kept → Judged
judge_kept name ds s t (Some k) = (Ack k.at k.to, None)
judge_kept name ds s t None = judge_head name ds s t (replay (start name) ds)

abbrev pub judge : List ℕ → List DeltaOf → Submission → ℕ → Judged
judge name ds s t = judge_kept name ds s t (kept s.id (start name) ds)
