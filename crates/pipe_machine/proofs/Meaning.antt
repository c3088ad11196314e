-- What is sent is meant for whom it is sent to.
--     judged_acks       an acknowledgement is what the history keeps, once it has grown
--     taken_for         what a message asks for is asked for by its session's user
--     asked_for         what it is answered is meant for the session
--     delivered_for     so is what is delivered
use Rattle.std.proofs.Common.{◌≡◌, ℕ, Bool, true, false, ◌&&◌, cond, if◌then◌else◌, List, [], ◌∷◌, ◌++◌, Option, None, Some, refl, sym, ap, subst, ◌∙◌, is_some}
use Rattle.std.specs.List.{All}
use Rattle.std.specs.Str.{chars, encode_utf8_all}
use Rattle.std.proofs.lemmas.List.Elements.{All-nil, All-cons, All-append}
use Rattle.doc_op.proofs.Applying.{no_value, same_Some}
use Rattle.doc_items.specs.Maps.{Key, same_text}
use Rattle.wave_base.specs.Grammar.{domain_of}
use Rattle.wave_base.specs.Versions.{VersionAt, IdOf, same_id}
use Rattle.wave_base.proofs.Same.{same_id-refl}
use Rattle.wavelet_op.specs.Acts.{Act, meanings}
use Rattle.wavelet_op.specs.Deltas.{DeltaOf}
use Rattle.wavelet_op.specs.Grids.{pass}
use Rattle.wavelet_op.specs.States.{State, run}
use Rattle.wavelet_op.specs.declared.delta.Submission.{Submission}
use Rattle.wavelet_op.specs.declared.role.Role.{Role}
use Rattle.wavelet_op.specs.declared.role.Role.TheVariants as role
use Rattle.wavelet_op.specs.declared.verdict.Verdict.{Verdict}
use Rattle.wavelet_op.specs.declared.verdict.Verdict.TheVariants.{Ack, NotParticipant, ReadOnly, UnknownVersion, WrongHash, Invalid, Full}
use Rattle.wavelet_op.proofs.Partial.{and_then_some}
use Rattle.delta_history.specs.Copying.{AreAscending}
use Rattle.delta_history.specs.Histories.{HistoryOf, head_of, hash_found}
use Rattle.delta_history.specs.Legal.{standing}
use Rattle.delta_history.specs.Passing.{all_acts}
use Rattle.delta_history.specs.Points.{Point, start, next_point, replay, cut}
use Rattle.delta_history.specs.Verdicts.{kept, accepted, is_within, same_hash, Judged, judge_next, judge_bounds, judge_pass, judge_ops, judge_hash, judge_base, judge_author, judge_head, judge_kept, judge}
use Rattle.delta_history.specs.declared.kept.Kept.{Kept}
use Rattle.delta_history.proofs.Points.{and_then_is}
use Rattle.wavelet_json.specs.Good.{is_count}
use Rattle.wavelet_json.specs.declared.reason.BadReason.{BadReason}
use Rattle.wavelet_json.specs.declared.reason.BadReason.TheVariants as bad
use Rattle.wavelet_json.specs.declared.reason.ClosedReason.TheVariants as closed
use Rattle.wavelet_json.specs.declared.reason.UnopenedReason.TheVariants as unopened
use Rattle.message_json.specs.declared.message.Message.{Message}
use Rattle.message_json.specs.declared.message.Message.TheVariants as message
use Rattle.session_core.specs.declared.session.Party.{Party}
use Rattle.session_core.specs.declared.session.Party.TheVariants.{Nobody, User, Domain}
use Rattle.session_core.specs.declared.session.Opening.{Opening}
use Rattle.session_core.specs.declared.session.Telling.{Telling}
use Rattle.session_core.specs.declared.session.Session.{Session}
use Rattle.session_core.specs.declared.request.Request.{Request}
use Rattle.session_core.specs.declared.request.Request.TheVariants as ask
use Rattle.session_core.specs.Access.{Shown, MaySee, seen_by, seen_from}
use Rattle.session_core.specs.Answers.{with_sent, verdict_message, told_verdict, snapshot_of, is_sendable, attached_hash, attached_seen, attached, seen_for}
use Rattle.session_core.specs.Deliveries.{since, updates, applieds, outcomes_sent, still_waiting, opening_news, opening_sent, openings_sent, telling_of, host_news, after_host, hosts_sent, delivered_to, delivered, after_for, after_delivery}
use Rattle.session_core.specs.Rules.{Taken, refused, with_party, is_new, is_user, is_peer, met, as_user, as_peer, is_reached, is_hosted, place_of, closed_at, submission_of, submitted_as, relay_by, taken}
use Rattle.session_core.proofs.Access.{all_may_see, attached_may_see}
use Rattle.wavelet_shelf.specs.Hosting.{Hosted, names_of, deltas_in, judged_in, with_added, after_submission}
use Rattle.wavelet_shelf.proofs.Growing.{grows_alone}
use Rattle.hosted_copies.specs.Shown.{shown_in}
use Rattle.pipe_machine.specs.Machine.{Reply, asked}
use Rattle.pipe_machine.specs.Meant.{IsAckTo, IsMeantFor}

-- ---- acknowledgements

same_ack : (a place : ℕ) (b to : VersionAt) → ◌≡◌ {A = Verdict} (Ack a b) (Ack place to) → ◌≡◌ {A = Kept} (record { at = a; to = b }) (record { at = place; to = to })
same_ack a place b to e = cc

-- the last delta of a history is kept for its id, where that is new
kept_last : (i : IdOf) (from p q : Point) (ds : List DeltaOf) (d : DeltaOf) → kept i from ds ≡ None → replay from ds ≡ Some p → next_point p d ≡ Some q → same_id i d.id ≡ true → kept i from (ds ++ d ∷ []) ≡ Some (record { at = p.at.version; to = q.at })
kept_last i from p q [] d new leads goes same =
    let here : from ≡ p = same_Some leads in
    subst (λ (r : Point). kept i r (d ∷ []) ≡ Some (record { at = p.at.version; to = q.at })) (sym here)
    (and_then_is (next_point p d) (λ (y : Point). cond (same_id i d.id) (Some (record { at = p.at.version; to = y.at })) None) q goes ∙ ap (λ b. cond b (Some (record { at = p.at.version; to = q.at })) None) same)
kept_last i from p q (x ∷ ds) d new leads goes same =
    let m = and_then_some (next_point from x) (λ y. replay y ds) p leads in
    and_then_is (next_point from x) (λ (y : Point). cond (same_id i x.id) (Some (record { at = from.at.version; to = y.at })) (kept i y (ds ++ d ∷ []))) m.0 m.1
    ∙ go m.0 (λ f. kept_last i m.0 p q ds d f m.2 goes same) (same_id i x.id) (sym (and_then_is (next_point from x) (λ (y : Point). cond (same_id i x.id) (Some (record { at = from.at.version; to = y.at })) (kept i y ds)) m.0 m.1) ∙ new)
  where
    go : (y : Point) → (kept i y ds ≡ None → kept i y (ds ++ d ∷ []) ≡ Some (record { at = p.at.version; to = q.at })) → (t : Bool) → cond t (Some (record { at = from.at.version; to = y.at })) (kept i y ds) ≡ None
        → cond t (Some (record { at = from.at.version; to = y.at })) (kept i y (ds ++ d ∷ [])) ≡ Some (record { at = p.at.version; to = q.at })
    go y rest true f = no_value (sym f)
    go y rest false f = rest f

abbrev added_to : List DeltaOf → Option DeltaOf → List DeltaOf
added_to ds None = ds
added_to ds (Some d) = ds ++ d ∷ []

module _ (name : Key) (ds : List DeltaOf) (s : Submission) (t : ℕ) where
  abbrev Acks : Judged → Type 0
  Acks j = (place : ℕ) (to : VersionAt) → j.0 ≡ Ack place to → kept s.id (start name) (added_to ds j.1) ≡ Some (record { at = place; to = to })

  module _ (new : kept s.id (start name) ds ≡ None) where
    acks_next : (p : Point) → replay (start name) ds ≡ Some p → (acts : List Act) (o : Option Point) → next_point p (accepted p s t acts) ≡ o → Acks (judge_next p (accepted p s t acts) o)
    acks_next p leads acts None goes = λ place to e. absurd (cc)
    acks_next p leads acts (Some q) goes = λ place to e. kept_last s.id (start name) p q ds (accepted p s t acts) new leads goes (same_id-refl s.id) ∙ ap (λ k. Some k) (same_ack p.at.version place q.at to e)

    acks_bounds : (p : Point) → replay (start name) ds ≡ Some p → (acts : List Act) (b : Bool) → Acks (judge_bounds p (accepted p s t acts) b)
    acks_bounds p leads acts false = λ place to e. absurd (cc)
    acks_bounds p leads acts true = acks_next p leads acts (next_point p (accepted p s t acts)) refl

    acks_pass : (p : Point) → replay (start name) ds ≡ Some p → (o : Option (List Act)) → Acks (judge_pass s t p o)
    acks_pass p leads None = λ place to e. absurd (cc)
    acks_pass p leads (Some acts) = acks_bounds p leads acts (is_within p (meanings s.ops) (accepted p s t acts))

    acks_ops : (p : Point) → replay (start name) ds ≡ Some p → (base : Point) (es : List DeltaOf) (o : Option State) → Acks (judge_ops s t p base es o)
    acks_ops p leads base es None = λ place to e. absurd (cc)
    acks_ops p leads base es (Some u) = acks_pass p leads (pass (meanings s.ops) (all_acts es))

    acks_hash : (p : Point) → replay (start name) ds ≡ Some p → (base : Point) (es : List DeltaOf) (b : Bool) → Acks (judge_hash s t p base es b)
    acks_hash p leads base es false = λ place to e. absurd (cc)
    acks_hash p leads base es true = acks_ops p leads base es (run base.state (meanings s.ops))

    acks_base : (p : Point) → replay (start name) ds ≡ Some p → (o : Option (Point × List DeltaOf)) → Acks (judge_base s t p o)
    acks_base p leads None = λ place to e. absurd (cc)
    acks_base p leads (Some c) = acks_hash p leads c.0 c.1 (same_hash s.at.hash c.0.at.hash)

    acks_author : (p : Point) → replay (start name) ds ≡ Some p → (o : Option Role) → Acks (judge_author name ds s t p o)
    acks_author p leads None = λ place to e. absurd (cc)
    acks_author p leads (Some role.ReadOnly) = λ place to e. absurd (cc)
    acks_author p leads (Some role.Full) = acks_base p leads (cut (start name) s.at.version ds)

    acks_head : (o : Option Point) → replay (start name) ds ≡ o → Acks (judge_head name ds s t o)
    acks_head None leads = λ place to e. absurd (cc)
    acks_head (Some p) leads = acks_author p leads (standing ds p s.id.author (meanings s.ops))

  acks_kept : (o : Option Kept) → kept s.id (start name) ds ≡ o → Acks (judge_kept name ds s t o)
  acks_kept None e = acks_head e (replay (start name) ds) refl
  acks_kept (Some k) e = λ place to f. e ∙ ap (λ z. Some z) (same_ack k.at place k.to to f)

  judge_acks : Acks (judge name ds s t)
  judge_acks = acks_kept (kept s.id (start name) ds) refl

added_in : (hs : List Hosted) (name : Key) (o : Option DeltaOf) → AreAscending (names_of hs) → deltas_in (with_added hs name o) name ≡ added_to (deltas_in hs name) o
added_in hs name None up = refl
added_in hs name (Some d) up = grows_alone.there hs name d up

judged_acks : (hs : List Hosted) (name : Key) (s : Submission) (t place : ℕ) (to : VersionAt) → AreAscending (names_of hs) → (judged_in hs name s t).0 ≡ Ack place to
    → kept s.id (start name) (deltas_in (after_submission hs name s t) name) ≡ Some (record { at = place; to = to })
judged_acks hs name s t place to up e = ap (kept s.id (start name)) (added_in hs name (judged_in hs name s t).1 up) ∙ judge_acks name (deltas_in hs name) s t place to e

-- ---- messages that anybody may be sent

abbrev IsHarmless : Message → Type 0
IsHarmless m = (hs : List Hosted) (p : Party) → IsMeantFor hs p m

pub bad_to_all : (reason : BadReason) → IsHarmless (message.Bad reason)
bad_to_all reason hs Nobody = record { access = tt; acknowledged = tt }
bad_to_all reason hs (User u) = record { access = tt; acknowledged = tt }
bad_to_all reason hs (Domain d) = record { access = tt; acknowledged = tt }

welcome_to_all : (text : List ℕ) → IsHarmless (message.Welcome text)
welcome_to_all text hs Nobody = record { access = tt; acknowledged = tt }
welcome_to_all text hs (User u) = record { access = tt; acknowledged = tt }
welcome_to_all text hs (Domain d) = record { access = tt; acknowledged = tt }

-- ---- what a message asks for

abbrev IsAuthor : Party → Key → Type 0
IsAuthor Nobody author = ⊥
IsAuthor (User user) author = author ≡ user
IsAuthor (Domain domain) author = Unit {0}

abbrev IsFor : Party → Request → Type 0
IsFor p (ask.Reply m) = IsHarmless m
IsFor p (ask.Attach name from) = Unit {0}
IsFor p (ask.Submit name s) = IsAuthor p s.id.author
IsFor p (ask.Have name from) = Unit {0}

pub record IsTakenFor (s : Session) (r : Taken) : Type 0 where
  pub for : IsFor r.0.party r.1
  pub still : r.0.waiting ≡ s.waiting

choice_for : (s : Session) (t : Bool) (a b : Taken) → IsTakenFor s a → IsTakenFor s b → IsTakenFor s (if t then a else b)
choice_for s true a b p q = p
choice_for s false a b p q = q

refused_for : (s : Session) (reason : BadReason) → IsTakenFor s (refused s reason)
refused_for s reason = record { for = bad_to_all reason; still = refl }

user_for : (s : Session) (act : Key → Taken) (p : Party) → s.party ≡ p → ((u : Key) → s.party ≡ User u → IsTakenFor s (act u)) → IsTakenFor s (as_user s act p)
user_for s act Nobody is f = refused_for s bad.BadUser
user_for s act (User u) is f = f u is
user_for s act (Domain d) is f = refused_for s bad.NotMessage

peer_for : (s : Session) (act : Key → Taken) (p : Party) → s.party ≡ p → ((d : Key) → s.party ≡ Domain d → IsTakenFor s (act d)) → IsTakenFor s (as_peer s act p)
peer_for s act Nobody is f = refused_for s bad.BadUser
peer_for s act (User u) is f = refused_for s bad.NotMessage
peer_for s act (Domain d) is f = f d is

closed_to_all : (name : Key) → IsHarmless (message.Closed name closed.Asked)
closed_to_all name hs Nobody = record { access = tt; acknowledged = tt }
closed_to_all name hs (User u) = record { access = tt; acknowledged = tt }
closed_to_all name hs (Domain d) = record { access = tt; acknowledged = tt }

closed_for : (s : Session) (name : Key) (o : Option ℕ) → IsTakenFor s (closed_at s name o)
closed_for s name None = refused_for s bad.NotOpen
closed_for s name (Some i) = record { for = closed_to_all name; still = refl }

pub taken_for : (s : Session) (m : Message) → IsTakenFor s (taken s m)
taken_for s (message.Hello user) = choice_for s (is_new s && is_user s (encode_utf8_all user)) (with_party s (User (encode_utf8_all user)), ask.Reply (message.Welcome user)) (refused s bad.BadUser)
    (record { for = welcome_to_all user; still = refl }) (refused_for s bad.BadUser)
taken_for s (message.OpenWavelet name from) = user_for s _ s.party refl (λ u is. choice_for s (is_reached s name) (s, ask.Attach name from) (refused s bad.NoHost) (record { for = tt; still = refl }) (refused_for s bad.NoHost))
taken_for s (message.Submit name client number from ops) = choice_for s (is_count client && is_count number) (as_user s (submitted_as s name client number from ops) s.party) (refused s bad.NotMessage)
    (user_for s (submitted_as s name client number from ops) s.party refl
    (λ u is. choice_for s (is_reached s name) (s, ask.Submit name (submission_of u client number from ops)) (refused s bad.NoHost) (record { for = subst (λ p. IsAuthor p u) (sym is) refl; still = refl }) (refused_for s bad.NoHost)))
    (refused_for s bad.NotMessage)
taken_for s (message.CloseWavelet name) = user_for s _ s.party refl (λ u is. closed_for s name (place_of name s.openings))
taken_for s (message.Welcome user) = refused_for s bad.NotMessage
taken_for s (message.Opened name version) = refused_for s bad.NotMessage
taken_for s (message.Snapshot snapshot) = refused_for s bad.NotMessage
taken_for s (message.Unopened name reason) = refused_for s bad.NotMessage
taken_for s (message.Ack name client number place to) = refused_for s bad.NotMessage
taken_for s (message.Refused name client number v) = refused_for s bad.NotMessage
taken_for s (message.Queued name client number) = refused_for s bad.NotMessage
taken_for s (message.Update name delta) = refused_for s bad.NotMessage
taken_for s (message.Closed name reason) = refused_for s bad.NotMessage
taken_for s (message.Bad reason) = refused_for s bad.NotMessage
taken_for s (message.Peer domain) = choice_for s (is_some s.domain) (met s domain) (refused s bad.NotMessage)
    (choice_for s (is_new s && is_peer s domain) (with_party s (Domain domain), ask.Reply (message.Welcome (chars domain))) (refused s bad.BadUser) (record { for = welcome_to_all (chars domain); still = refl }) (refused_for s bad.BadUser))
    (refused_for s bad.NotMessage)
taken_for s (message.Have name from) = choice_for s (is_some s.domain) (as_peer s (λ _. if is_hosted s name then (s, ask.Have name from) else refused s bad.NoHost) s.party) (refused s bad.NotMessage)
    (peer_for s _ s.party refl (λ d is. choice_for s (is_hosted s name) (s, ask.Have name from) (refused s bad.NoHost) (record { for = tt; still = refl }) (refused_for s bad.NoHost)))
    (refused_for s bad.NotMessage)
taken_for s (message.Relay name submission) = choice_for s (is_some s.domain) (as_peer s (relay_by s name submission) s.party) (refused s bad.NotMessage)
    (peer_for s (relay_by s name submission) s.party refl
    (λ d is. choice_for s (same_text (domain_of submission.id.author) d) (if is_hosted s name then (s, ask.Submit name submission) else refused s bad.NoHost) (refused s bad.BadUser)
    (choice_for s (is_hosted s name) (s, ask.Submit name submission) (refused s bad.NoHost) (record { for = subst (λ p. IsAuthor p submission.id.author) (sym is) tt; still = refl }) (refused_for s bad.NoHost))
    (refused_for s bad.BadUser)))
    (refused_for s bad.NotMessage)
taken_for s (message.Applied name delta) = refused_for s bad.NotMessage
taken_for s (message.Relayed name id v) = refused_for s bad.NotMessage
taken_for s (message.Dropped name) = refused_for s bad.NotMessage

-- ---- what an `open` is answered

pub record IsAttached (s : Session) (r : Session × Message) : Type 0 where
  pub party : r.0.party ≡ s.party
  pub still : r.0.waiting ≡ s.waiting
  pub quiet : (hs : List Hosted) (p : Party) → IsAckTo hs p r.1

choice_attached : (s : Session) (t : Bool) (a b : Session × Message) → IsAttached s a → IsAttached s b → IsAttached s (if t then a else b)
choice_attached s true a b p q = p
choice_attached s false a b p q = q

seen_attached : (s : Session) (name : Key) (from : Option VersionAt) (o : Option HistoryOf) → IsAttached s (attached_seen s name from o)
seen_attached s name from None = record { party = refl; still = refl; quiet = λ hs p. tt }
seen_attached s name None (Some h) = choice_attached s (is_sendable (snapshot_of name h)) (with_sent s name (snapshot_of name h).at.version, message.Snapshot (snapshot_of name h)) (s, message.Unopened name unopened.TooLarge)
    (record { party = refl; still = refl; quiet = λ hs p. tt }) (record { party = refl; still = refl; quiet = λ hs p. tt })
seen_attached s name (Some from) (Some h) = go (hash_found h from.version)
  where
    go : (o : Option (List ℕ)) → IsAttached s (attached_hash s name from (head_of h).at o)
    go None = record { party = refl; still = refl; quiet = λ hs p. tt }
    go (Some hash) = choice_attached s (same_hash hash from.hash) (with_sent s name from.version, message.Opened name from.version) (s, message.Unopened name (unopened.WrongHash hash))
        (record { party = refl; still = refl; quiet = λ hs p. tt }) (record { party = refl; still = refl; quiet = λ hs p. tt })

-- ---- what is answered

pub record IsAnsweredFor (hs : List Hosted) (r : Reply) : Type 0 where
  pub meant : IsMeantFor r.hosted r.session.party r.message
  pub idle : r.session.waiting ≡ []

verdict_for : (hs : List Hosted) (u name : Key) (id : IdOf) (v : Verdict) → id.author ≡ u → ((place : ℕ) (to : VersionAt) → v ≡ Ack place to → kept id (start name) (deltas_in hs name) ≡ Some (record { at = place; to = to }))
    → IsMeantFor hs (User u) (verdict_message name id v)
verdict_for hs u name id (Ack place to) own acks = record {
  access = tt;
  acknowledged = subst (λ (a : Key). kept (record { author = a; client = id.client; number = id.number }) (start name) (deltas_in hs name) ≡ Some (record { at = place; to = to })) own (acks place to refl);
}
verdict_for hs u name id NotParticipant own acks = record { access = tt; acknowledged = tt }
verdict_for hs u name id ReadOnly own acks = record { access = tt; acknowledged = tt }
verdict_for hs u name id (UnknownVersion head) own acks = record { access = tt; acknowledged = tt }
verdict_for hs u name id (WrongHash host) own acks = record { access = tt; acknowledged = tt }
verdict_for hs u name id (Invalid index) own acks = record { access = tt; acknowledged = tt }
verdict_for hs u name id (Full head) own acks = record { access = tt; acknowledged = tt }

told_for : (hs : List Hosted) (p : Party) (name : Key) (id : IdOf) (v : Verdict) → IsAuthor p id.author → ((place : ℕ) (to : VersionAt) → v ≡ Ack place to → kept id (start name) (deltas_in hs name) ≡ Some (record { at = place; to = to }))
    → IsMeantFor hs p (told_verdict p name id v)
told_for hs Nobody name id v author acks = absurd author
told_for hs (User u) name id v author acks = verdict_for hs u name id v author acks
told_for hs (Domain d) name id v author acks = record { access = tt; acknowledged = tt }

pub asked_for : (hs : List Hosted) (t : ℕ) (s : Session) (r : Request) → AreAscending (names_of hs) → IsFor s.party r → s.waiting ≡ [] → IsAnsweredFor hs (asked hs t s r)
asked_for hs t s (ask.Reply m) up for idle = record { meant = for hs s.party; idle = idle }
asked_for hs t s (ask.Attach name from) up for idle =
    let c = shown_in hs in
    let r = attached c s name from in
    let a = seen_attached s name from (seen_for c s.party name) in
    record {
      meant = record { access = subst (λ p. MaySee c p r.1) (sym a.party) (attached_may_see c s r.0 name from r.1 refl); acknowledged = a.quiet hs r.0.party };
      idle = a.still ∙ idle;
    }
asked_for hs t s (ask.Submit name submission) up for idle = record {
  meant = told_for (after_submission hs name submission t) s.party name submission.id (judged_in hs name submission t).0 for (λ place to e. judged_acks hs name submission t place to up e);
  idle = idle;
}
asked_for hs t s (ask.Have name from) up for idle = record { meant = bad_to_all bad.NotMessage hs s.party; idle = idle }

-- ---- what is delivered

module _ (hs : List Hosted) (p : Party) where
  updates_quiet : (name : Key) (ds : List DeltaOf) → All (IsAckTo hs p) (updates name ds)
  updates_quiet name [] = All-nil (IsAckTo hs p)
  updates_quiet name (d ∷ ds) = All-cons (IsAckTo hs p) (message.Update name d) (updates name ds) tt (updates_quiet name ds)

  news_quiet : (o : Opening) (s : Option HistoryOf) → All (IsAckTo hs p) (opening_news o s)
  news_quiet o None = All-cons (IsAckTo hs p) _ [] tt (All-nil (IsAckTo hs p))
  news_quiet o (Some h) = updates_quiet o.name (since o.sent h)

  opening_quiet : (c : Shown) (user : Key) (o : Opening) (copy : Option HistoryOf) → All (IsAckTo hs p) (opening_sent c user o copy)
  opening_quiet c user o None = All-nil (IsAckTo hs p)
  opening_quiet c user o (Some h) = news_quiet o (seen_by c o.name user)

  openings_quiet : (c : Shown) (user : Key) (os : List Opening) → All (IsAckTo hs p) (openings_sent c user os)
  openings_quiet c user [] = All-nil (IsAckTo hs p)
  openings_quiet c user (o ∷ os) = All-append (IsAckTo hs p) (opening_sent c user o (c.copy o.name)) (openings_sent c user os) (opening_quiet c user o (c.copy o.name)) (openings_quiet c user os)

  applieds_quiet : (name : Key) (ds : List DeltaOf) → All (IsAckTo hs p) (applieds name ds)
  applieds_quiet name [] = All-nil (IsAckTo hs p)
  applieds_quiet name (d ∷ ds) = All-cons (IsAckTo hs p) (message.Applied name d) (applieds name ds) tt (applieds_quiet name ds)

  dropped_quiet : (name : Key) (b : Bool) → All (IsAckTo hs p) (if b then message.Dropped name ∷ [] else [])
  dropped_quiet name true = All-cons (IsAckTo hs p) _ [] tt (All-nil (IsAckTo hs p))
  dropped_quiet name false = All-nil (IsAckTo hs p)

  host_quiet : (name : Key) (t : Telling) (o : Option HistoryOf) → All (IsAckTo hs p) (host_news name t o)
  host_quiet name t None = dropped_quiet name t.told
  host_quiet name t (Some h) = applieds_quiet name (since t.sent h)

  hosts_quiet : (c : Shown) (domain : Key) (ts : List Telling) (ns : List Key) → All (IsAckTo hs p) (hosts_sent c domain ts ns)
  hosts_quiet c domain ts [] = All-nil (IsAckTo hs p)
  hosts_quiet c domain ts (n ∷ ns) = All-append (IsAckTo hs p) (host_news n (telling_of n ts) (seen_from c n domain)) (hosts_sent c domain (after_host c domain ts n) ns)
      (host_quiet n (telling_of n ts) (seen_from c n domain)) (hosts_quiet c domain (after_host c domain ts n) ns)

  sent_quiet : (c : Shown) (s : Session) (q : Party) → s.waiting ≡ [] → All (IsAckTo hs p) (delivered_to c s q)
  sent_quiet c s Nobody idle = All-nil (IsAckTo hs p)
  sent_quiet c s (User user) idle = subst (λ ws. All (IsAckTo hs p) (outcomes_sent c ws ++ openings_sent c user s.openings)) (sym idle) (openings_quiet c user s.openings)
  sent_quiet c s (Domain domain) idle = hosts_quiet c domain s.tellings c.hosts

both_for : (hs : List Hosted) (p : Party) (ms : List Message) → All (MaySee (shown_in hs) p) ms → All (IsAckTo hs p) ms → All (IsMeantFor hs p) ms
both_for hs p ms a b = λ k d inside. record { access = a k d inside; acknowledged = b k d inside }

pub delivered_for : (hs : List Hosted) (s : Session) → s.waiting ≡ [] → All (IsMeantFor hs s.party) (delivered (shown_in hs) s)
delivered_for hs s idle = both_for hs s.party (delivered (shown_in hs) s) (all_may_see (shown_in hs) s (delivered (shown_in hs) s) refl) (sent_quiet hs s.party (shown_in hs) s s.party idle)

-- ---- sessions after deliveries

pub party_after : (c : Shown) (s : Session) → (after_delivery c s).party ≡ s.party
party_after c s = go s.party
  where
    go : (p : Party) → (after_for c s p).party ≡ s.party
    go Nobody = refl
    go (User u) = refl
    go (Domain d) = refl

pub idle_after : (c : Shown) (s : Session) → s.waiting ≡ [] → (after_delivery c s).waiting ≡ []
idle_after c s idle = go s.party
  where
    go : (p : Party) → (after_for c s p).waiting ≡ []
    go Nobody = idle
    go (User u) = ap (still_waiting c) idle
    go (Domain d) = idle
