-- The answer to a submission, at a moment of its shard.
--     IsRefusedAt .. j      the verdict at that moment, which accepts nothing
--     IsAcceptedAt .. j     the last mark is the delta that the verdict accepts at the moment before it
--     EndsInFault n i cut   the last mark tells of a fault at the submission of this id
--     IsKeptAt .. j         the acknowledgement that the copy keeps for the id
--     IsQueuedAt ..         the last mark is that this submission waits; none of its id waited or was kept at the moment before it
--     IsHostAnswer, IsCopyAnswer, IsNoHost     the answer of a host, of a copy of a peer's wavelet, and where there can be neither
--     IsAnswer v k cut n s t a g     the answer to a submission at the time t, for which so many marks were added
--     IsJudged v k ms ns n s t a     by the answer to a submission at the time t the marks ms became ns
--     IsAnswered v k ps qs n s t a   the answer of a call that had these passes and left those
use Rattle.std.specs.Prelude.{◌≡◌, ◌⊎◌, ◌≤◌, ◌+◌, ℕ, length, Bool, true, false, List, [], ◌∷◌, ◌++◌, Some, None}
use Rattle.doc_items.specs.Maps.{Key}
use Rattle.wave_base.specs.Grammar.{host_of}
use Rattle.wave_base.specs.Versions.{IdOf}
use Rattle.wavelet_op.specs.Deltas.{DeltaOf}
use Rattle.wavelet_op.specs.declared.delta.Submission.{Submission}
use Rattle.wavelet_op.specs.declared.verdict.Verdict.{Verdict as Judgement}
use Rattle.wavelet_op.specs.declared.verdict.Verdict.TheVariants.{Ack}
use Rattle.delta_history.specs.declared.kept.Kept.{Kept}
use Rattle.session_core.specs.declared.request.SubmitAnswer.{SubmitAnswer}
use Rattle.session_core.specs.declared.request.SubmitAnswer.TheVariants.{Verdict, Queued, NoHost, Store}
use Rattle.wavelet_shelf.specs.Hosting.{judged_in}
use Rattle.hosted_copies.specs.Domains.{is_hosted_by}
use Rattle.replica_store.specs.Worlds.{kept_at, waits_at}
use Rattle.turn_cells.specs.declared.cells.Passes.{Passes}
use Rattle.turn_cells.specs.Cells.{seen_at, added_at}
use Rattle.shard_marks.specs.declared.mark.Mark.{Mark}
use Rattle.shard_marks.specs.declared.mark.Mark.TheVariants as mark
use Rattle.shard_marks.specs.Marks.{replayed, copied}
use Rattle.shard_marks.specs.Servers.{ServerOf, is_peer}

pub record EndsInFault (n : Key) (i : IdOf) (cut : List Mark) : Type 0 where
  pub before : List Mark
  pub last : cut ≡ before ++ mark.Fault n i ∷ []

module _ (d : Key) (k : ℕ) (cut : List Mark) (n : Key) (s : Submission) (t : ℕ) where
  -- ---- at the host

  pub record IsRefusedAt (j : Judgement) : Type 0 where
    pub verdict : j ≡ (judged_in (replayed d k cut) n s t).0
    pub nothing : (judged_in (replayed d k cut) n s t).1 ≡ None

  pub record IsAcceptedAt (j : Judgement) : Type 0 where
    pub before : List Mark
    pub delta : DeltaOf
    pub last : cut ≡ before ++ mark.Applied n delta ∷ []
    pub verdict : j ≡ (judged_in (replayed d k before) n s t).0
    pub grown : (judged_in (replayed d k before) n s t).1 ≡ Some delta

  abbrev pub IsHostAnswer : SubmitAnswer → ℕ → Type 0
  IsHostAnswer (Verdict j) g = (IsRefusedAt j × (g ≡ 0)) ⊎ (IsAcceptedAt j × (g ≡ 1))
  IsHostAnswer Queued g = ⊥
  IsHostAnswer NoHost g = ⊥
  IsHostAnswer Store g = EndsInFault n s.id cut × (g ≡ 1)

  -- ---- at a copy

  pub record IsKeptAt (j : Judgement) : Type 0 where
    pub kept : Kept
    pub there : kept_at (copied d k cut) n s.id ≡ Some kept
    pub verdict : j ≡ Ack kept.at kept.to

  pub record IsQueuedAt : Type 0 where
    pub before : List Mark
    pub last : cut ≡ before ++ mark.Queued n s ∷ []
    pub unkept : kept_at (copied d k before) n s.id ≡ None
    pub unwaited : waits_at (copied d k before) n s.id ≡ false

  abbrev pub IsCopyAnswer : SubmitAnswer → ℕ → Type 0
  IsCopyAnswer (Verdict j) g = IsKeptAt j × (g ≡ 0)
  IsCopyAnswer Queued g = (waits_at (copied d k cut) n s.id ≡ true) × ((g ≡ 0) ⊎ (IsQueuedAt × (g ≡ 1)))
  IsCopyAnswer NoHost g = ⊥
  IsCopyAnswer Store g = ⊥

  -- ---- elsewhere

  abbrev pub IsNoHost : SubmitAnswer → ℕ → Type 0
  IsNoHost (Verdict j) g = ⊥
  IsNoHost Queued g = ⊥
  IsNoHost NoHost g = g ≡ 0
  IsNoHost Store g = ⊥

  -- ---- by whether the domain hosts the wavelet, and whether a peer does

  abbrev pub IsAnswerWhere : Bool → Bool → SubmitAnswer → ℕ → Type 0
  IsAnswerWhere true peer a g = IsHostAnswer a g
  IsAnswerWhere false true a g = IsCopyAnswer a g
  IsAnswerWhere false false a g = IsNoHost a g

abbrev pub IsAnswer : ServerOf → ℕ → List Mark → Key → Submission → ℕ → SubmitAnswer → ℕ → Type 0
IsAnswer v k cut n s t a g = IsAnswerWhere v.domain k cut n s t (is_hosted_by v.domain n) (is_peer v (host_of n)) a g

pub record IsJudged (v : ServerOf) (k : ℕ) (ms ns : List Mark) (n : Key) (s : Submission) (t : ℕ) (a : SubmitAnswer) : Type 0 where
  pub gained : ℕ
  pub longer : length ns ≡ length ms + gained
  pub answer : IsAnswer v k ns n s t a gained

pub record IsAnswered {T : Type 0} (v : ServerOf) (k : ℕ) (ps qs : Passes T Mark) (n : Key) (s : Submission) (t : ℕ)
    (a : SubmitAnswer) : Type 0 where
  pub gained : ℕ
  pub added : added_at qs k ≡ added_at ps k + gained
  pub grown : length (seen_at ps k) + gained ≤ length (seen_at qs k)
  pub answer : IsAnswer v k (seen_at qs k) n s t a gained
