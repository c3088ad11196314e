-- A host that comes back.
--     left_is_accepted, restart_is_events     the laws
--     image_means                             what an image stands for, and that it is reached
use Rattle.std.proofs.Common.{◌≡◌, inl, inr, ℕ, List, [], ◌∷◌, ◌++◌, Some, None, refl, sym, ap, subst, ◌∙◌, append-nil}
use Rattle.std.specs.List.{AllByRecursion}
use Rattle.doc_items.specs.Maps.{Key}
use Rattle.doc_op.proofs.Applying.{no_value, same_Some}
use Rattle.wavelet_op.specs.Deltas.{DeltaOf}
use Rattle.wavelet_op.specs.declared.delta.Submission.{Submission}
use Rattle.wavelet_codec.specs.Spelling.{delta_bytes, IsDelta}
use Rattle.delta_history.specs.Laws.{IsJudged}
use Rattle.delta_history.specs.Legal.{IsNext}
use Rattle.delta_history.specs.Verdicts.{Judged, judge}
use Rattle.delta_history.proofs.Chains.{legal_after}
use Rattle.wavelet_container.specs.Records.{StandsForHistory}
use Rattle.wavelet_container.specs.Stores.{MayFollow}
use Rattle.wavelet_container.proofs.Loaded.{next_once, history_is_one}
use Rattle.wave_world.specs.Worlds.{Mem, World, Event, world_of}
use Rattle.wave_world.proofs.Events.{good, judged_in}
use Rattle.wave_world.proofs.Restarts.{accepted_is_one_event}
use Rattle.wave_world.proofs.Versions.{world_converges}
use Rattle.host_restart.specs.Restarts.{IsAccepted, AreLeft, Taking, IsTaking, added, IsImage, IsReached, IsOnce, LeftIsAccepted, RestartIsEvents}

accepted_by : (name : Key) (w : World) (s : Submission) (reading : ℕ) (d : DeltaOf) → Mem s w.submissions → (judge name w.host s reading).1 ≡ Some d → IsAccepted name w d
accepted_by name w s reading d m e = record { sent = s; is_sent = m; reading = reading; verdict = (judge name w.host s reading).0; is = λ i. ((judge name w.host s reading).0, e i) }

pub left_is_accepted : LeftIsAccepted
left_is_accepted name w before after s reading a m (inl none) = inl none
left_is_accepted name w before after s reading a m (inr (inl same)) = subst (AreLeft name w) (sym same) a
left_is_accepted name w before after s reading a m (inr (inr one)) = inr (one.0, accepted_by name w s reading one.0 m one.1, one.3, one.2)

-- ---- a delta that was accepted

next_of : (name : Key) (w : World) (s : Submission) (j : Judged) (d : DeltaOf) → IsJudged name w.host s j → j.1 ≡ Some d → IsNext name w.host d
next_of name w s j d (inl none) e = no_value (sym none.0 ∙ e)
next_of name w s j d (inr one) e = subst (IsNext name w.host) (same_Some (sym one.1 ∙ e)) one.2.next

accepted_next : (name : Key) (events : List Event) (d : DeltaOf) → IsAccepted name (world_of name events) d → IsNext name (world_of name events).host d
accepted_next name events d a =
    let w = world_of name events in
    next_of name w a.sent (judge name w.host a.sent a.reading) d (judged_in name w a.sent a.reading (good name events) a.is_sent) (ap (λ (j : Judged). j.1) a.is)

last_spelled : (ds : List DeltaOf) (d : DeltaOf) → AllByRecursion IsDelta (ds ++ d ∷ []) → IsDelta d
last_spelled [] d s = s.0
last_spelled (x ∷ ds) d s = last_spelled ds d s.1

no_left : {T : Type 0} {x : List ℕ} {xs : List (List ℕ)} → [] ≡ x ∷ xs → T
no_left e = absurd (cc)

one_left : {x y : List ℕ} → x ∷ [] ≡ y ∷ [] → x ≡ y
one_left e = cc

module _ (name : Key) (events : List Event) where
  abbrev pub w : World
  w = world_of name events

  -- the record that is left over is that of the delta in the image
  left_accepted : (left : List (List ℕ)) (d : DeltaOf) (c : List ℕ) → AreLeft name w left → left ≡ delta_bytes d ∷ [] → StandsForHistory name (w.host ++ d ∷ []) c → IsAccepted name w d
  left_accepted left d c (inl none) e there = no_left (sym none ∙ e)
  left_accepted left d c (inr one) e there =
      let next : IsNext name w.host d = (legal_after name [] w.host (d ∷ []) there.legal).0 in
      let same : d ≡ one.0 = next_once name w.host d one.0 (last_spelled w.host d there.spelled) one.2 (one_left (sym e ∙ one.3)) next (accepted_next name events one.0 one.1) in
      subst (IsAccepted name w) (sym same) one.1

  taken_accepted : (o : Taking) (d : DeltaOf) → IsTaking w o → added name w o ≡ Some d → IsAccepted name w d
  taken_accepted None d t e = no_value e
  taken_accepted (Some x) d t e = accepted_by name w x.0 x.1 d t e

  reached_same : IsReached name events w.host
  reached_same = record { more = []; host = ap (λ es. (world_of name es).host) (append-nil events); converged = world_converges name (events ++ []) }

  reached_more : (d : DeltaOf) → IsAccepted name w d → IsReached name events (w.host ++ d ∷ [])
  reached_more d a =
      let one = accepted_is_one_event name events a.sent a.reading a.verdict d a.is_sent a.is in
      record { more = one.event ∷ []; host = one.host; converged = one.converged }

  -- what an image stands for, among others
  pub record IsMeant (c : List ℕ) : Type 0 where
    pub history : List DeltaOf
    pub stands : StandsForHistory name history c
    pub reached : IsReached name events history
    pub once : IsOnce name w history

  meant_more : (c : List ℕ) (d : DeltaOf) → StandsForHistory name (w.host ++ d ∷ []) c → IsAccepted name w d → IsMeant c
  meant_more c d there a = record { history = w.host ++ d ∷ []; stands = there; reached = reached_more d a; once = inr (d, a, refl) }

  pub image_means : (left : List (List ℕ)) (o : Taking) (c : List ℕ) → AreLeft name w left → IsTaking w o → IsImage name w left o c → IsMeant c
  image_means left o c a t (inl there) = record { history = w.host; stands = there; reached = reached_same; once = inl refl }
  image_means left o c a t (inr one) = meant_more c one.0 one.2 (by one.1)
    where
      by : MayFollow left (added name w o) one.0 → IsAccepted name w one.0
      by (inl e) = left_accepted left one.0 c a e one.2
      by (inr e) = taken_accepted o one.0 t e

pub restart_is_events : RestartIsEvents
restart_is_events name events left o c ds a t short image there =
    let m = image_means name events left o c a t image in
    let same : m.history ≡ ds = history_is_one name c m.history ds short m.stands there in
    (subst (IsReached name events) same m.reached, subst (IsOnce name (world_of name events)) same m.once)
