-- What a session was sent, and the shards at which nothing is due to it, after each step.
--     quiet_new                  nothing is due to a new session
--     taken_sent, taken_quiet    after a message that asks for no look; all is due to a session that has become a peer's
--     noted_sent, noted_quiet    after a call about a wavelet, of whose shard something is due then
--     answer_sent, answer_quiet  after the answer to a submission
--     quiet_delivered            after news of a shard that has a flag
--     sent_quiet                 of a shard that has no flag the session was sent all that there is
use Rattle.std.proofs.Common.{◌≡◌, ◌≢◌, ◌⊎◌, inl, inr, ◌<◌, ℕ, arith, Bool, true, false, List, length, get_or, Some, refl, sym, ap, subst, ◌∙◌, true≢false}
use Rattle.doc_items.specs.Maps.{Key}
use Rattle.wave_base.specs.Versions.{IdOf}
use Rattle.message_json.specs.declared.message.Message.{Message}
use Rattle.session_core.specs.declared.request.SubmitAnswer.{SubmitAnswer}
use Rattle.session_core.specs.declared.request.SubmitAnswer.TheVariants.{Verdict, Queued, NoHost, Store}
use Rattle.session_core.specs.declared.session.Session.{Session}
use Rattle.session_core.specs.Answers.{answered}
use Rattle.session_core.specs.Deliveries.{delivered, after_delivery}
use Rattle.session_core.specs.Rules.{Taken, fresh, has_peer, is_new}
use Rattle.wavelet_shelf.specs.FileNames.{shard_of}
use Rattle.shard_marks.specs.declared.mark.Mark.{Mark}
use Rattle.shard_marks.specs.Marks.{shown_at}
use Rattle.shard_marks.specs.Servers.{ServerOf}
use Rattle.shard_marks.specs.Told.{AreTold}
use Rattle.session_steps.specs.Clients.{IsSessionOf, IsSentTo, AreSentTo}
use Rattle.session_steps.specs.Going.{Grow}
use Rattle.session_steps.proofs.Apart.{lacking, apart, sent_taken}
use Rattle.session_steps.proofs.Growing.{sent_later}
use Rattle.session_steps.proofs.Replying.{about_sent}
use Rattle.session_steps.proofs.Serving.{sent_new}
use Rattle.session_steps.proofs.Taking.{IsTaken, IsAbout, answered_about, after_quiet, after_told}
use Rattle.session_link.specs.Opened.{AreUnopened, IsNoted, IsNotedFor}

pub quiet_new : (v : ServerOf) (s : Session) (flags : List Bool) → s ≡ fresh (Some v.domain) v.peers → AreUnopened v.domain s flags
quiet_new v s flags is k below none ms = (ap (delivered (shown_at v.domain k ms)) is, subst (AreTold (shown_at v.domain k ms)) (sym is) tt)

same_or_other : (a b : Bool) → (a ≡ b) ⊎ (a ≢ b)
same_or_other true true = inl refl
same_or_other true false = inr true≢false
same_or_other false true = inr (λ e. true≢false (sym e))
same_or_other false false = inl refl

-- ---- messages

module _ (v : ServerOf) (s : Session) (r : Taken) (t : IsTaken v s r) where
  pub taken_sent : (m : ℕ → List Mark) (sent now : List ℕ) → (has_peer r.0 ≡ has_peer s → now ≡ sent) → (has_peer r.0 ≢ has_peer s → (k : ℕ) → get_or now k 0 ≡ 0)
      → AreSentTo v.domain m s sent → AreSentTo v.domain m r.0 now
  taken_sent m sent now kept due all = go (same_or_other (has_peer r.0) (has_peer s))
    where
      go : (has_peer r.0 ≡ has_peer s) ⊎ (has_peer r.0 ≢ has_peer s) → AreSentTo v.domain m r.0 now
      go (inl e) = subst (AreSentTo v.domain m r.0) (sym (kept e)) (sent_taken v.domain m s sent all v r t e)
      go (inr n) = sent_new v.domain m r.0 now (due n)

  pub taken_quiet : (flags wanted : List Bool) → (has_peer r.0 ≡ has_peer s → wanted ≡ flags) → (has_peer r.0 ≢ has_peer s → (k : ℕ) → k < 16 → get_or wanted k false ≡ true)
      → AreUnopened v.domain s flags → AreUnopened v.domain r.0 wanted
  taken_quiet flags wanted kept due quiet = go (same_or_other (has_peer r.0) (has_peer s))
    where
      go : (has_peer r.0 ≡ has_peer s) ⊎ (has_peer r.0 ≢ has_peer s) → AreUnopened v.domain r.0 wanted
      go (inl e) = subst (AreUnopened v.domain r.0) (sym (kept e)) (λ k below none ms. let q = quiet k below none ms in (t.quiet e (shown_at v.domain k ms) q.0, t.told e (shown_at v.domain k ms) q.1))
      go (inr n) = λ k below none ms. absurd (true≢false (sym (due n k below) ∙ none))

-- ---- calls about a wavelet

-- a shard with a flag is another one than a shard without
differ : (flags : List Bool) (j k : ℕ) → get_or flags j false ≡ true → get_or flags k false ≡ false → k ≢ j
differ flags j k here none e = true≢false (sym here ∙ ap (λ i. get_or flags i false) (sym e) ∙ none)

module _ (v : ServerOf) (s : Session) (name : Key) (j : ℕ) (at : j ≡ shard_of name) (sent now : List ℕ) (flags wanted : List Bool) where
  module _ (noted : IsNoted j sent now flags wanted) (x : Session) (about : IsAbout v s name x) where
    pub noted_sent : (m n : ℕ → List Mark) → Grow m n → AreSentTo v.domain m s sent → AreSentTo v.domain n x now
    noted_sent m n grown all = about_sent v m n grown s x sent now name j at noted.due noted.others about all

    pub noted_quiet : AreUnopened v.domain s flags → AreUnopened v.domain x wanted
    noted_quiet quiet k below none ms =
        let other : k ≢ j = differ wanted j k noted.flagged none in
        let lacks = lacking v.domain k name (λ e. other (sym e ∙ sym at)) ms in
        let q = quiet k below (sym (noted.unflagged k other) ∙ none) ms in
        (about.quiet (shown_at v.domain k ms) lacks q.0, about.told (shown_at v.domain k ms) lacks q.1)

  module _ (p : IsSessionOf v s) (known : is_new s ≡ false) (id : IdOf) where
    answer_sent_by : (a : SubmitAnswer) → IsNotedFor a j sent now flags wanted → (m n : ℕ → List Mark) → Grow m n → AreSentTo v.domain m s sent → AreSentTo v.domain n (answered s name id a).0 now
    answer_sent_by (Verdict verdict) same m n grown all = subst (AreSentTo v.domain n s) (sym same.0) (sent_later v.domain m n s sent grown all)
    answer_sent_by Queued noted m n grown all = noted_sent noted (answered s name id Queued).0 (answered_about v s p known name id Queued) m n grown all
    answer_sent_by NoHost same m n grown all = subst (AreSentTo v.domain n s) (sym same.0) (sent_later v.domain m n s sent grown all)
    answer_sent_by Store same m n grown all = subst (AreSentTo v.domain n s) (sym same.0) (sent_later v.domain m n s sent grown all)

    answer_quiet_by : (a : SubmitAnswer) → IsNotedFor a j sent now flags wanted → AreUnopened v.domain s flags → AreUnopened v.domain (answered s name id a).0 wanted
    answer_quiet_by (Verdict verdict) same quiet = subst (AreUnopened v.domain s) (sym same.1) quiet
    answer_quiet_by Queued noted quiet = noted_quiet noted (answered s name id Queued).0 (answered_about v s p known name id Queued) quiet
    answer_quiet_by NoHost same quiet = subst (AreUnopened v.domain s) (sym same.1) quiet
    answer_quiet_by Store same quiet = subst (AreUnopened v.domain s) (sym same.1) quiet

    -- the session is that of the answer
    module _ (a : SubmitAnswer) (noted : IsNotedFor a j sent now flags wanted) (x : Session) (message : Message) (reply : (x, message) ≡ answered s name id a) where
      is : x ≡ (answered s name id a).0
      is = ap (λ (y : Session × Message). y.0) reply

      pub answer_session : IsSessionOf v x
      answer_session = subst (IsSessionOf v) (sym is) (answered_about v s p known name id a).session

      pub answer_sent : (m n : ℕ → List Mark) → Grow m n → AreSentTo v.domain m s sent → AreSentTo v.domain n x now
      answer_sent m n grown all = subst (λ y. AreSentTo v.domain n y now) (sym is) (answer_sent_by a noted m n grown all)

      pub answer_quiet : AreUnopened v.domain s flags → AreUnopened v.domain x wanted
      answer_quiet quiet = subst (λ y. AreUnopened v.domain y wanted) (sym is) (answer_quiet_by a noted quiet)

-- ---- news

pub quiet_delivered : (d : Key) (s : Session) (flags : List Bool) → AreUnopened d s flags → (m : List Mark) (j : ℕ) → get_or flags j false ≡ true → (x : Session) (now : List Bool)
    → x ≡ after_delivery (shown_at d j m) s → now ≡ flags → AreUnopened d x now
quiet_delivered d s flags quiet m j here x now is same = subst (AreUnopened d x) (sym same) stays
  where
    stays : AreUnopened d x flags
    stays k below none ms =
        let others = apart d j k (λ e. differ flags j k here none (sym e)) m ms in
        let q = quiet k below none ms in (
          ap (delivered (shown_at d k ms)) is ∙ after_quiet s (shown_at d j m) (shown_at d k ms) others q.0,
          subst (AreTold (shown_at d k ms)) (sym is) (after_told s (shown_at d j m) (shown_at d k ms) others q.1),
        )

number_same : (j k : ℕ) → (j ≡ k) ⊎ (j ≢ k)
number_same j k = grind arith

pub sent_quiet : (d : Key) (m : ℕ → List Mark) (s x : Session) (flags : List Bool) (lengths now : List ℕ) (j : ℕ) → AreUnopened d s flags → get_or flags j false ≡ false → x ≡ s
    → get_or now j 0 ≡ length (m j) → ((k : ℕ) → k ≢ j → get_or now k 0 ≡ get_or lengths k 0) → AreSentTo d m s lengths → AreSentTo d m x now
sent_quiet d m s x flags lengths now j quiet none is whole others sent = subst (λ y. AreSentTo d m y now) (sym is) (λ k below. go k below (number_same k j))
  where
    go : (k : ℕ) → k < 16 → (k ≡ j) ⊎ (k ≢ j) → IsSentTo d k (m k) s (get_or now k 0)
    go k below (inl e) = subst (λ i. IsSentTo d i (m i) s (get_or now i 0)) (sym e)
        (record {
          told = record { within = omega (arith, whole); told = λ cut begins length_is some. (quiet j (subst (λ i. i < 16) e below) none cut).1 };
          quiet = λ cut begins length_is some. (quiet j (subst (λ i. i < 16) e below) none cut).0;
        })
    go k below (inr n) = subst (IsSentTo d k (m k) s) (sym (others k n)) (sent k below)
