-- Shards at which something may be due to a session, by a flag for each, and up to which length of its history it was sent what is new.
--     IsQuietAt d k s          the shard gives the session nothing, and a peer was told all of it, whatever its marks are
--     AreUnopened d s flags    each shard that has no flag is quiet in this way
--     IsNoted k ..             something of the shard may be due from then on: its length is 0, and it has a flag; all others stay
--     AreSameNotes ..          nothing changed
--     IsNotedFor a k ..        what is noted for the answer to a submission: where it waits its outcome is due later, else nothing changed
use Rattle.std.specs.Prelude.{◌≡◌, ◌≢◌, ◌<◌, ℕ, Bool, true, false, List, [], slice_index_or}
use Rattle.doc_items.specs.Maps.{Key}
use Rattle.session_core.specs.declared.request.SubmitAnswer.{SubmitAnswer}
use Rattle.session_core.specs.declared.request.SubmitAnswer.TheVariants.{Verdict, Queued, NoHost, Store}
use Rattle.session_core.specs.declared.session.Session.{Session}
use Rattle.session_core.specs.Deliveries.{delivered}
use Rattle.shard_marks.specs.declared.mark.Mark.{Mark}
use Rattle.shard_marks.specs.Marks.{shown_at}
use Rattle.shard_marks.specs.Told.{AreTold}

abbrev pub IsQuietAt : Key → ℕ → Session → Type 0
IsQuietAt d k s = (ms : List Mark) → (delivered (shown_at d k ms) s ≡ []) × AreTold (shown_at d k ms) s

abbrev pub AreUnopened : Key → Session → List Bool → Type 0
AreUnopened d s flags = (k : ℕ) → k < 16 → slice_index_or flags k false ≡ false → IsQuietAt d k s

-- by the lengths and the flags before and after
pub record IsNoted (k : ℕ) (sent now : List ℕ) (flags wanted : List Bool) : Type 0 where
  pub due : slice_index_or now k 0 ≡ 0
  pub others : (j : ℕ) → j ≢ k → slice_index_or now j 0 ≡ slice_index_or sent j 0
  pub flagged : slice_index_or wanted k false ≡ true
  pub unflagged : (j : ℕ) → j ≢ k → slice_index_or wanted j false ≡ slice_index_or flags j false

abbrev pub AreSameNotes : List ℕ → List ℕ → List Bool → List Bool → Type 0
AreSameNotes sent now flags wanted = (now ≡ sent) × (wanted ≡ flags)

abbrev pub IsNotedFor : SubmitAnswer → ℕ → List ℕ → List ℕ → List Bool → List Bool → Type 0
IsNotedFor (Verdict j) k sent now flags wanted = AreSameNotes sent now flags wanted
IsNotedFor Queued k sent now flags wanted = IsNoted k sent now flags wanted
IsNotedFor NoHost k sent now flags wanted = AreSameNotes sent now flags wanted
IsNotedFor Store k sent now flags wanted = AreSameNotes sent now flags wanted
