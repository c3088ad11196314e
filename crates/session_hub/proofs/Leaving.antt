-- What is left for a session that was given all.
--     nothing_more     nothing
--     nothing_at       so it is of a shard
--     news_short       messages that are short, as news
use Rattle.std.proofs.Common.{◌≡◌, ◌==◌, ℕ, Bool, true, false, ◌&&◌, List, [], ◌∷◌, ◌++◌, Option, None, Some, refl, sym, ap, ◌∙◌, true≢false}
use Rattle.std.specs.List.{All, AllByRecursion}
use Rattle.std.proofs.lemmas.List.Elements.{All-nil, All-cons, All-head, All-tail}
use Rattle.doc_items.specs.Maps.{Key}
use Rattle.wavelet_op.specs.Deltas.{DeltaOf}
use Rattle.wavelet_op.specs.declared.verdict.Verdict.{Verdict}
use Rattle.delta_history.specs.Copying.{AreAscending}
use Rattle.delta_history.specs.Histories.{HistoryOf, head_of}
use Rattle.session_core.specs.declared.session.Party.{Party}
use Rattle.session_core.specs.declared.session.Party.TheVariants.{Nobody, User, Domain}
use Rattle.session_core.specs.declared.session.Opening.{Opening}
use Rattle.session_core.specs.declared.session.Waiting.{Waiting}
use Rattle.session_core.specs.declared.session.Session.{Session}
use Rattle.session_core.specs.Access.{Shown, seen_by}
use Rattle.session_core.specs.Current.{is_none_left, is_sent, is_opening_sent, are_sent_to, are_sent_for, are_sent}
use Rattle.session_core.specs.Deliveries.{since, updates, outcome_sent, outcomes_sent, waits_on, still_waiting, opening_news, opening_sent, openings_sent, delivered_to, delivered, after_for, after_delivery}
use Rattle.message_json.specs.Write.{IsShort}
use Rattle.session_core.specs.News.{message_of, messages_of}
use Rattle.session_core.specs.declared.news.News.{News}
use Rattle.shard_marks.specs.declared.mark.Mark.{Mark}
use Rattle.shard_marks.specs.Histories.{are_sound}
use Rattle.shard_marks.specs.Marks.{replayed, shown_at}
use Rattle.shard_marks.proofs.Following.{ascend_replayed}
use Rattle.shard_marks.proofs.Telling.{IsSoundFrom, nothing_told, sound_hosts}

both : (a b : Bool) → a && b ≡ true → (a ≡ true) × (b ≡ true)
both true b e = (refl, e)
both false b e = absurd (true≢false (sym e))

none_left : (ds : List DeltaOf) → is_none_left ds ≡ true → ds ≡ []
none_left [] e = refl
none_left (d ∷ ds) e = absurd (true≢false (sym e))

module _ (c : Shown) where
  waiting_on : (ws : List Waiting) → outcomes_sent c (still_waiting c ws) ≡ []
  waiting_on [] = refl
  waiting_on (w ∷ ws) = go (waiting_on ws) (c.outcome w.name w.id) refl
    where
      go : outcomes_sent c (still_waiting c ws) ≡ [] → (o : Option Verdict) → c.outcome w.name w.id ≡ o → outcomes_sent c (waits_on w o ++ still_waiting c ws) ≡ []
      go rest None e = ap (λ o. outcome_sent w o ++ outcomes_sent c (still_waiting c ws)) e ∙ rest
      go rest (Some v) e = rest

  seen_whole : (o : Opening) (seen : Option HistoryOf) → is_sent o.sent seen ≡ true → opening_news o seen ≡ []
  seen_whole o None e = absurd (true≢false (sym e))
  seen_whole o (Some h) e = ap (updates o.name) (none_left (since o.sent h) (both (o.sent == (head_of h).at.version) (is_none_left (since o.sent h)) e).1)

  opening_whole : (user : Key) (o : Opening) (copy : Option HistoryOf) → is_opening_sent c user o copy ≡ true → opening_sent c user o copy ≡ []
  opening_whole user o None e = refl
  opening_whole user o (Some h) e = seen_whole o (seen_by c o.name user) e

  openings_whole : (user : Key) (os : List Opening) → are_sent_to c user os ≡ true → openings_sent c user os ≡ []
  openings_whole user [] e = refl
  openings_whole user (o ∷ os) e =
      let two = both (is_opening_sent c user o (c.copy o.name)) (are_sent_to c user os) e in
      (λ i. opening_whole user o (c.copy o.name) two.0 i ++ openings_whole user os two.1 i)

  pub nothing_more : (s : Session) → AreAscending c.hosts → ((domain : Key) → AllByRecursion (IsSoundFrom c domain) c.hosts) → are_sent c (after_delivery c s) ≡ true → delivered c (after_delivery c s) ≡ []
  nothing_more s ascend sound told = go s.party refl told
    where
      go : (party : Party) → s.party ≡ party → are_sent c (after_for c s party) ≡ true → delivered c (after_for c s party) ≡ []
      go Nobody is e = ap (delivered_to c s) is
      go (User user) is e =
          let after = after_for c s (User user) in
          let whole : are_sent_to c user after.openings ≡ true = sym (ap (are_sent_for c after) is) ∙ e in
          ap (delivered_to c after) is ∙ (λ i. waiting_on s.waiting i ++ openings_whole user after.openings whole i)
      go (Domain domain) is e = ap (delivered_to c (after_for c s (Domain domain))) is ∙ nothing_told c domain c.hosts ascend (sound domain) s.tellings

-- a session that was given all of a shard whose histories are sound
pub nothing_at : (d : Key) (k : ℕ) (ms : List Mark) (s : Session) → are_sound (replayed d k ms) ≡ true → are_sent (shown_at d k ms) (after_delivery (shown_at d k ms) s) ≡ true → delivered (shown_at d k ms) (after_delivery (shown_at d k ms) s) ≡ []
nothing_at d k ms s sound told = nothing_more (shown_at d k ms) s (ascend_replayed d k ms) (λ domain. sound_hosts d k ms domain sound) told

-- ---- what it is sent

pub news_short : (xs : List News) → All IsShort (messages_of xs) → All (λ n. IsShort (message_of n)) xs
news_short [] all = All-nil (λ n. IsShort (message_of n))
news_short (x ∷ xs) all = All-cons (λ n. IsShort (message_of n)) x xs (All-head IsShort (message_of x) (messages_of xs) all) (news_short xs (All-tail IsShort (message_of x) (messages_of xs) all))
