-- What is sent is so of the histories.
--     begins_held     so it is of longer ones
--     after_begins    turns leave longer ones
--     all_held        whatever turns send is so of the histories after them
use Rattle.std.proofs.Common.{◌≡◌, ℕ, Bool, true, false, not, ◌&&◌, cond, if◌then◌else◌, List, [], ◌∷◌, ◌++◌, map, take, Option, None, Some, Result, Ok, Err, refl, sym, ap, subst, ◌∙◌, is_some, option_map, option_and_then, append_assoc, append-nil}
use Rattle.std.specs.List.{All}
use Rattle.std.specs.Str.{chars, encode_utf8_all}
use Rattle.std.proofs.lemmas.List.{take-append-drop}
use Rattle.std.proofs.lemmas.List.Elements.{All-nil, All-cons, All-append, All-map, All-weaker}
use Rattle.doc_op.proofs.Applying.{no_value}
use Rattle.doc_items.specs.Maps.{Key, same_text}
use Rattle.wave_base.specs.Grammar.{domain_of}
use Rattle.wave_base.specs.Versions.{VersionAt, IdOf, same_id}
use Rattle.wave_base.proofs.Same.{same_id-is}
use Rattle.wavelet_op.specs.Acts.{Act, meanings}
use Rattle.wavelet_op.specs.Deltas.{DeltaOf}
use Rattle.wavelet_op.specs.Grids.{pass}
use Rattle.wavelet_op.specs.States.{State, run}
use Rattle.wavelet_op.specs.declared.delta.Submission.{Submission}
use Rattle.wavelet_op.specs.declared.role.Role.{Role}
use Rattle.wavelet_op.specs.declared.role.Role.TheVariants as role
use Rattle.wavelet_op.specs.declared.verdict.Verdict.{Verdict}
use Rattle.wavelet_op.specs.declared.verdict.Verdict.TheVariants.{Ack, NotParticipant, ReadOnly, UnknownVersion, WrongHash, Invalid, Full}
use Rattle.wavelet_op.proofs.Partial.{and_then_some}
use Rattle.wavelet_state.specs.Snapshots.{SnapshotOf}
use Rattle.delta_history.specs.Copying.{AreAscending, kept_in}
use Rattle.delta_history.specs.Histories.{HistoryOf, head_of, hash_found}
use Rattle.delta_history.specs.Legal.{standing}
use Rattle.delta_history.specs.Passing.{all_acts}
use Rattle.delta_history.specs.Places.{started_below}
use Rattle.delta_history.specs.Points.{Point, start, next_point, replay, cut}
use Rattle.delta_history.specs.Verdicts.{kept, accepted, is_within, same_hash, Judged, judge_next, judge_bounds, judge_pass, judge_ops, judge_hash, judge_base, judge_author, judge_head, judge_kept, judge}
use Rattle.delta_history.specs.declared.kept.Kept.{Kept}
use Rattle.wavelet_json.specs.Good.{is_count}
use Rattle.wavelet_json.specs.declared.reason.BadReason.TheVariants as bad
use Rattle.wavelet_json.specs.declared.reason.UnopenedReason.TheVariants as unopened
use Rattle.message_json.specs.declared.message.Message.{Message}
use Rattle.message_json.specs.declared.message.Message.TheVariants as message
use Rattle.wave_messages.specs.Read.{Refused, line_read}
use Rattle.session_core.specs.declared.session.Party.{Party}
use Rattle.session_core.specs.declared.session.Party.TheVariants.{Nobody, User, Domain}
use Rattle.session_core.specs.declared.session.Opening.{Opening}
use Rattle.session_core.specs.declared.session.Telling.{Telling}
use Rattle.session_core.specs.declared.session.Waiting.{Waiting}
use Rattle.session_core.specs.declared.session.Session.{Session}
use Rattle.session_core.specs.declared.request.Request.{Request}
use Rattle.session_core.specs.declared.request.Request.TheVariants as ask
use Rattle.session_core.specs.Access.{is_member, seen_by, seen_from}
use Rattle.session_core.specs.Answers.{with_sent, verdict_message, told_verdict, snapshot_of, is_sendable, attached_hash, attached_seen, seen_for}
use Rattle.session_core.specs.Deliveries.{since, updates, applieds, outcome_sent, outcomes_sent, opening_news, opening_sent, openings_sent, telling_of, host_news, after_host, hosts_sent, delivered_to, delivered}
use Rattle.session_core.specs.Rules.{Taken, refused, with_party, is_new, is_user, is_peer, met, as_user, as_peer, is_reached, is_hosted, place_of, closed_at, submission_of, submitted_as, relay_by, taken}
use Rattle.wavelet_shelf.specs.Hosting.{Hosted, names_of, deltas_in, copy_of, copy_in, judged_in, with_added}
use Rattle.wavelet_shelf.specs.Shelves.{acknowledged}
use Rattle.wavelet_shelf.proofs.Growing.{grows_alone}
use Rattle.line_loop.specs.Turns.{Turn}
use Rattle.pipe_machine.specs.declared.seats.Seat.{Seat}
use Rattle.pipe_machine.specs.Held.{IsIn, HasOf, IsHead, IsHeld}
use Rattle.pipe_machine.specs.Keeping.{Begins}
use Rattle.pipe_machine.specs.Lines.{Sent, sent_to}
use Rattle.hosted_copies.specs.Shown.{outcome_in, shown_in}
use Rattle.pipe_machine.specs.Machine.{Pipe, Reply, Answer, asked, replied, answered_read, answered, delivered as delivered_all, turn, sent, after}
use Rattle.pipe_machine.specs.Seats.{place_in, seated, seat_in, seats_sent}
use Rattle.pipe_machine.proofs.Moving.{begins_itself, begins_added, begins_on}

-- ---- longer histories

in_longer : (d : DeltaOf) (ds es : List DeltaOf) → Begins ds es → IsIn d ds → IsIn d es
in_longer d ds es (rest, e) i = record {
  before = i.before;
  behind = i.behind ++ rest;
  whole = sym (append_assoc i.before (d ∷ i.behind) rest) ∙ ap (λ l. l ++ rest) i.whole ∙ e;
}

has_longer : (ds es : List DeltaOf) (client number : ℕ) → Begins ds es → HasOf ds client number → HasOf es client number
has_longer ds es client number b h = record { delta = h.delta; is_in = in_longer h.delta ds es b h.is_in; of_client = h.of_client; of_number = h.of_number }

head_longer : (ds es : List DeltaOf) (s : SnapshotOf) → Begins ds es → IsHead ds s → IsHead es s
head_longer ds es s (rest, e) h = record {
  front = h.front;
  behind = h.behind ++ rest;
  whole = sym (append_assoc h.front h.behind rest) ∙ ap (λ l. l ++ rest) h.whole ∙ e;
  is_at = h.is_at;
  count = h.count;
  state = h.state;
}

pub begins_held : (hs gs : List Hosted) → ((n : Key) → Begins (deltas_in hs n) (deltas_in gs n)) → (m : Message) → IsHeld hs m → IsHeld gs m
begins_held hs gs b (message.Hello user) h = tt
begins_held hs gs b (message.OpenWavelet name from) h = tt
begins_held hs gs b (message.Submit name client number from ops) h = tt
begins_held hs gs b (message.CloseWavelet name) h = tt
begins_held hs gs b (message.Welcome user) h = tt
begins_held hs gs b (message.Opened name version) h = tt
begins_held hs gs b (message.Snapshot s) h = head_longer (deltas_in hs s.name) (deltas_in gs s.name) s (b s.name) h
begins_held hs gs b (message.Unopened name reason) h = tt
begins_held hs gs b (message.Ack name client number place to) h = has_longer (deltas_in hs name) (deltas_in gs name) client number (b name) h
begins_held hs gs b (message.Refused name client number v) h = tt
begins_held hs gs b (message.Queued name client number) h = tt
begins_held hs gs b (message.Update name d) h = in_longer d (deltas_in hs name) (deltas_in gs name) (b name) h
begins_held hs gs b (message.Closed name reason) h = tt
begins_held hs gs b (message.Bad reason) h = tt
begins_held hs gs b (message.Peer domain) h = tt
begins_held hs gs b (message.Have name from) h = tt
begins_held hs gs b (message.Relay name s) h = tt
begins_held hs gs b (message.Applied name d) h = tt
begins_held hs gs b (message.Relayed name id v) h = tt
begins_held hs gs b (message.Dropped name) h = tt

-- ---- what a history keeps for an id

has_after : (d : DeltaOf) (ds : List DeltaOf) (client number : ℕ) → HasOf ds client number → HasOf (d ∷ ds) client number
has_after d ds client number h = record {
  delta = h.delta;
  is_in = record { before = d ∷ h.is_in.before; behind = h.is_in.behind; whole = ap (λ l. d ∷ l) h.is_in.whole };
  of_client = h.of_client;
  of_number = h.of_number;
}

has_first : (d : DeltaOf) (ds : List DeltaOf) (i : IdOf) → same_id i d.id ≡ true → HasOf (d ∷ ds) i.client i.number
has_first d ds i e = record {
  delta = d;
  is_in = record { before = []; behind = ds; whole = refl };
  of_client = ap (λ (x : IdOf). x.client) (sym (same_id-is i d.id e));
  of_number = ap (λ (x : IdOf). x.number) (sym (same_id-is i d.id e));
}

kept_has : (i : IdOf) (p : Point) (ds : List DeltaOf) (k : Kept) → kept i p ds ≡ Some k → HasOf ds i.client i.number
kept_has i p [] k e = no_value e
kept_has i p (d ∷ ds) k e =
    let m = and_then_some (next_point p d) (λ q. cond (same_id i d.id) (Some (record { at = p.at.version; to = q.at })) (kept i q ds)) k e in
    go m.0 (λ f. kept_has i m.0 ds k f) (same_id i d.id) refl m.2
  where
    go : (q : Point) → (kept i q ds ≡ Some k → HasOf ds i.client i.number) → (t : Bool) → same_id i d.id ≡ t → cond t (Some (record { at = p.at.version; to = q.at })) (kept i q ds) ≡ Some k → HasOf (d ∷ ds) i.client i.number
    go q behind true t f = has_first d ds i t
    go q behind false t f = has_after d ds i.client i.number (behind f)

-- ---- verdicts

abbrev IsAcked : List DeltaOf → IdOf → Verdict → Option DeltaOf → Type 0
IsAcked ds i (Ack place to) None = HasOf ds i.client i.number
IsAcked ds i (Ack place to) (Some d) = d.id ≡ i
IsAcked ds i NotParticipant o = Unit {0}
IsAcked ds i ReadOnly o = Unit {0}
IsAcked ds i (UnknownVersion head) o = Unit {0}
IsAcked ds i (WrongHash host) o = Unit {0}
IsAcked ds i (Invalid index) o = Unit {0}
IsAcked ds i (Full head) o = Unit {0}

module _ (name : Key) (ds : List DeltaOf) (s : Submission) (t : ℕ) where
  abbrev IsSound : Judged → Type 0
  IsSound j = IsAcked ds s.id j.0 j.1

  sound_next : (p : Point) (acts : List Act) (o : Option Point) → IsSound (judge_next p (accepted p s t acts) o)
  sound_next p acts None = tt
  sound_next p acts (Some q) = refl

  sound_bounds : (p : Point) (acts : List Act) (b : Bool) → IsSound (judge_bounds p (accepted p s t acts) b)
  sound_bounds p acts false = tt
  sound_bounds p acts true = sound_next p acts (next_point p (accepted p s t acts))

  sound_pass : (p : Point) (o : Option (List Act)) → IsSound (judge_pass s t p o)
  sound_pass p None = tt
  sound_pass p (Some acts) = sound_bounds p acts (is_within p (meanings s.ops) (accepted p s t acts))

  sound_ops : (p base : Point) (es : List DeltaOf) (o : Option State) → IsSound (judge_ops s t p base es o)
  sound_ops p base es None = tt
  sound_ops p base es (Some u) = sound_pass p (pass (meanings s.ops) (all_acts es))

  sound_hash : (p base : Point) (es : List DeltaOf) (b : Bool) → IsSound (judge_hash s t p base es b)
  sound_hash p base es false = tt
  sound_hash p base es true = sound_ops p base es (run base.state (meanings s.ops))

  sound_base : (p : Point) (o : Option (Point × List DeltaOf)) → IsSound (judge_base s t p o)
  sound_base p None = tt
  sound_base p (Some c) = sound_hash p c.0 c.1 (same_hash s.at.hash c.0.at.hash)

  sound_author : (p : Point) (o : Option Role) → IsSound (judge_author name ds s t p o)
  sound_author p None = tt
  sound_author p (Some role.ReadOnly) = tt
  sound_author p (Some role.Full) = sound_base p (cut (start name) s.at.version ds)

  sound_head : (o : Option Point) → IsSound (judge_head name ds s t o)
  sound_head None = tt
  sound_head (Some p) = sound_author p (standing ds p s.id.author (meanings s.ops))

  sound_kept : (o : Option Kept) → kept s.id (start name) ds ≡ o → IsSound (judge_kept name ds s t o)
  sound_kept None e = sound_head (replay (start name) ds)
  sound_kept (Some k) e = kept_has s.id (start name) ds k e

  judge_sound : IsSound (judge name ds s t)
  judge_sound = sound_kept (kept s.id (start name) ds) refl

has_last : (ds : List DeltaOf) (d : DeltaOf) (i : IdOf) → d.id ≡ i → HasOf (ds ++ d ∷ []) i.client i.number
has_last ds d i e = record {
  delta = d;
  is_in = record { before = ds; behind = []; whole = refl };
  of_client = ap (λ (x : IdOf). x.client) e;
  of_number = ap (λ (x : IdOf). x.number) e;
}

verdict_held : (hs : List Hosted) (name : Key) (i : IdOf) (v : Verdict) (o : Option DeltaOf) → AreAscending (names_of hs) → IsAcked (deltas_in hs name) i v o → IsHeld (with_added hs name o) (verdict_message name i v)
verdict_held hs name i (Ack place to) None up h = h
verdict_held hs name i (Ack place to) (Some d) up h = subst (λ ds. HasOf ds i.client i.number) (sym (grows_alone.there hs name d up)) (has_last (deltas_in hs name) d i h)
verdict_held hs name i NotParticipant o up h = tt
verdict_held hs name i ReadOnly o up h = tt
verdict_held hs name i (UnknownVersion head) o up h = tt
verdict_held hs name i (WrongHash host) o up h = tt
verdict_held hs name i (Invalid index) o up h = tt
verdict_held hs name i (Full head) o up h = tt

told_held : (hs : List Hosted) (party : Party) (name : Key) (i : IdOf) (v : Verdict) (o : Option DeltaOf) → AreAscending (names_of hs) → IsAcked (deltas_in hs name) i v o → IsHeld (with_added hs name o) (told_verdict party name i v)
told_held hs Nobody name i v o up h = verdict_held hs name i v o up h
told_held hs (User user) name i v o up h = verdict_held hs name i v o up h
told_held hs (Domain domain) name i v o up h = tt

-- ---- copies

abbrev IsSeen : Key → List DeltaOf → Option HistoryOf → Type 0
IsSeen name ds None = Unit {0}
IsSeen name ds (Some h) = (h.name ≡ name) × (h.deltas ≡ ds)

copy_seen : (name : Key) (ds : List DeltaOf) → IsSeen name ds (copy_of name ds)
copy_seen name [] = tt
copy_seen name (d ∷ ds) = (refl, refl)

chosen_seen : (name : Key) (ds : List DeltaOf) (h : HistoryOf) (b : Bool) → IsSeen name ds (Some h) → IsSeen name ds (cond b (Some h) None)
chosen_seen name ds h true s = s
chosen_seen name ds h false s = tt

picked_seen : (name user : Key) (dropped : Bool) (ds : List DeltaOf) (o : Option HistoryOf) → IsSeen name ds o → IsSeen name ds (option_and_then (λ h. cond (is_member h user && not dropped) (Some h) None) o)
picked_seen name user dropped ds None s = tt
picked_seen name user dropped ds (Some h) s = chosen_seen name ds h (is_member h user && not dropped) s

module _ (hs : List Hosted) where
  by_seen : (name user : Key) → IsSeen name (deltas_in hs name) (seen_by (shown_in hs) name user)
  by_seen name user = picked_seen name user false (deltas_in hs name) (copy_in hs name) (copy_seen name (deltas_in hs name))

  for_seen : (party : Party) (name : Key) → IsSeen name (deltas_in hs name) (seen_for (shown_in hs) party name)
  for_seen Nobody name = tt
  for_seen (User user) name = by_seen name user
  for_seen (Domain domain) name = tt

  -- ---- what an `open` is answered

  head_held : (name : Key) (h : HistoryOf) → IsSeen name (deltas_in hs name) (Some h) → IsHead (deltas_in hs name) (snapshot_of name h)
  head_held name h s = record {
    front = h.deltas;
    behind = [];
    whole = append-nil h.deltas ∙ s.1;
    is_at = ap (λ n. (head_of (record { name = n; deltas = h.deltas; spare = 0 })).at) s.0;
    count = ap (λ n. (head_of (record { name = n; deltas = h.deltas; spare = 0 })).count) s.0;
    state = ap (λ n. (head_of (record { name = n; deltas = h.deltas; spare = 0 })).state) s.0;
  }

  choice_held : (t : Bool) (a b : Session × Message) → IsHeld hs a.1 → IsHeld hs b.1 → IsHeld hs (if t then a else b).1
  choice_held true a b p q = p
  choice_held false a b p q = q

  hash_held : (s : Session) (name : Key) (from head : VersionAt) (o : Option (List ℕ)) → IsHeld hs (attached_hash s name from head o).1
  hash_held s name from head None = tt
  hash_held s name from head (Some hash) = choice_held (same_hash hash from.hash) (with_sent s name from.version, message.Opened name from.version) (s, message.Unopened name (unopened.WrongHash hash)) tt tt

  seen_held : (s : Session) (name : Key) (from : Option VersionAt) (o : Option HistoryOf) → IsSeen name (deltas_in hs name) o → IsHeld hs (attached_seen s name from o).1
  seen_held s name from None h = tt
  seen_held s name None (Some g) h = choice_held (is_sendable (snapshot_of name g)) (with_sent s name (snapshot_of name g).at.version, message.Snapshot (snapshot_of name g)) (s, message.Unopened name unopened.TooLarge) (head_held name g h) tt
  seen_held s name (Some from) (Some g) h = hash_held s name from (head_of g).at (hash_found g from.version)

  -- ---- what is delivered

  updates_held : (name : Key) (front ds : List DeltaOf) → front ++ ds ≡ deltas_in hs name → All (IsHeld hs) (updates name ds)
  updates_held name front [] e = All-nil (IsHeld hs)
  updates_held name front (d ∷ ds) e = All-cons (IsHeld hs) (message.Update name d) (updates name ds) (record { before = front; behind = ds; whole = e }) (updates_held name (front ++ d ∷ []) ds (append_assoc front (d ∷ []) ds ∙ e))

  news_held : (o : Opening) (s : Option HistoryOf) → IsSeen o.name (deltas_in hs o.name) s → All (IsHeld hs) (opening_news o s)
  news_held o None h = All-cons (IsHeld hs) _ [] tt (All-nil (IsHeld hs))
  news_held o (Some g) h = updates_held o.name (take (started_below o.sent g.deltas) g.deltas) (since o.sent g) (take-append-drop (started_below o.sent g.deltas) g.deltas ∙ h.1)

  opening_held : (user : Key) (o : Opening) (copy : Option HistoryOf) → All (IsHeld hs) (opening_sent (shown_in hs) user o copy)
  opening_held user o None = All-nil (IsHeld hs)
  opening_held user o (Some h) = news_held o (seen_by (shown_in hs) o.name user) (by_seen o.name user)

  openings_held : (user : Key) (os : List Opening) → All (IsHeld hs) (openings_sent (shown_in hs) user os)
  openings_held user [] = All-nil (IsHeld hs)
  openings_held user (o ∷ os) = All-append (IsHeld hs) (opening_sent (shown_in hs) user o (copy_in hs o.name)) (openings_sent (shown_in hs) user os) (opening_held user o (copy_in hs o.name)) (openings_held user os)

  kept_held : (w : Waiting) (ds : List DeltaOf) (o : Option Kept) → kept_in (copy_of w.name ds) w.id ≡ o → ds ≡ deltas_in hs w.name → All (IsHeld hs) (outcome_sent w (option_map acknowledged o))
  kept_held w ds None e is = All-nil (IsHeld hs)
  kept_held w [] (Some k) e is = no_value e
  kept_held w (d ∷ ds) (Some k) e is = All-cons (IsHeld hs) (verdict_message w.name w.id (Ack k.at k.to)) []
      (subst (λ l. HasOf l w.id.client w.id.number) is (kept_has w.id (start w.name) (d ∷ ds) k e)) (All-nil (IsHeld hs))

  outcomes_held : (ws : List Waiting) → All (IsHeld hs) (outcomes_sent (shown_in hs) ws)
  outcomes_held [] = All-nil (IsHeld hs)
  outcomes_held (w ∷ ws) = All-append (IsHeld hs) (outcome_sent w (outcome_in hs w.name w.id)) (outcomes_sent (shown_in hs) ws) (kept_held w (deltas_in hs w.name) (kept_in (copy_in hs w.name) w.id) refl refl) (outcomes_held ws)

  applieds_held : (name : Key) (ds : List DeltaOf) → All (IsHeld hs) (applieds name ds)
  applieds_held name [] = All-nil (IsHeld hs)
  applieds_held name (d ∷ ds) = All-cons (IsHeld hs) (message.Applied name d) (applieds name ds) tt (applieds_held name ds)

  dropped_held : (name : Key) (b : Bool) → All (IsHeld hs) (if b then message.Dropped name ∷ [] else [])
  dropped_held name true = All-cons (IsHeld hs) _ [] tt (All-nil (IsHeld hs))
  dropped_held name false = All-nil (IsHeld hs)

  host_held : (name : Key) (t : Telling) (o : Option HistoryOf) → All (IsHeld hs) (host_news name t o)
  host_held name t None = dropped_held name t.told
  host_held name t (Some h) = applieds_held name (since t.sent h)

  hosts_held : (domain : Key) (ts : List Telling) (ns : List Key) → All (IsHeld hs) (hosts_sent (shown_in hs) domain ts ns)
  hosts_held domain ts [] = All-nil (IsHeld hs)
  hosts_held domain ts (n ∷ ns) = All-append (IsHeld hs) (host_news n (telling_of n ts) (seen_from (shown_in hs) n domain)) (hosts_sent (shown_in hs) domain (after_host (shown_in hs) domain ts n) ns)
      (host_held n (telling_of n ts) (seen_from (shown_in hs) n domain)) (hosts_held domain (after_host (shown_in hs) domain ts n) ns)

  to_held : (s : Session) (party : Party) → All (IsHeld hs) (delivered_to (shown_in hs) s party)
  to_held s Nobody = All-nil (IsHeld hs)
  to_held s (User user) = All-append (IsHeld hs) (outcomes_sent (shown_in hs) s.waiting) (openings_sent (shown_in hs) user s.openings) (outcomes_held s.waiting) (openings_held user s.openings)
  to_held s (Domain domain) = hosts_held domain s.tellings (names_of hs)

  addressed : (name : Key) (ms : List Message) → All (IsHeld hs) ms → All (λ s. IsHeld hs s.message) (map (sent_to name) ms)
  addressed name ms h = All-map (λ s. IsHeld hs s.message) (sent_to name) ms h

  seats_held : (ss : List Seat) → All (λ s. IsHeld hs s.message) (seats_sent (shown_in hs) ss)
  seats_held [] = All-nil (λ s. IsHeld hs s.message)
  seats_held (s ∷ ss) = All-append (λ s. IsHeld hs s.message) (map (sent_to s.name) (delivered (shown_in hs) s.session)) (seats_sent (shown_in hs) ss)
      (addressed s.name (delivered (shown_in hs) s.session) (to_held s.session s.session.party)) (seats_held ss)

-- ---- what a message is replied at once

abbrev TellsNothing : Request → Type 0
TellsNothing (ask.Reply m) = (hs : List Hosted) → IsHeld hs m
TellsNothing (ask.Attach name from) = Unit {0}
TellsNothing (ask.Submit name s) = Unit {0}
TellsNothing (ask.Have name from) = Unit {0}

choice_tells : (t : Bool) (a b : Taken) → TellsNothing a.1 → TellsNothing b.1 → TellsNothing (if t then a else b).1
choice_tells true a b p q = p
choice_tells false a b p q = q

user_tells : (s : Session) (act : Key → Taken) (party : Party) → ((u : Key) → TellsNothing (act u).1) → TellsNothing (as_user s act party).1
user_tells s act Nobody f = (λ hs. tt)
user_tells s act (User u) f = f u
user_tells s act (Domain d) f = (λ hs. tt)

peer_tells : (s : Session) (act : Key → Taken) (party : Party) → ((d : Key) → TellsNothing (act d).1) → TellsNothing (as_peer s act party).1
peer_tells s act Nobody f = (λ hs. tt)
peer_tells s act (User u) f = (λ hs. tt)
peer_tells s act (Domain d) f = f d

closed_tells : (s : Session) (name : Key) (o : Option ℕ) → TellsNothing (closed_at s name o).1
closed_tells s name None = (λ hs. tt)
closed_tells s name (Some i) = (λ hs. tt)

nothing : TellsNothing (ask.Reply (message.Bad bad.NotMessage))
nothing hs = tt

taken_tells : (s : Session) (m : Message) → TellsNothing (taken s m).1
taken_tells s (message.Hello user) = choice_tells (is_new s && is_user s (encode_utf8_all user)) (with_party s (User (encode_utf8_all user)), ask.Reply (message.Welcome user)) (refused s bad.BadUser) (λ hs. tt) (λ hs. tt)
taken_tells s (message.OpenWavelet name from) = user_tells s _ s.party (λ u. choice_tells (is_reached s name) (s, ask.Attach name from) (refused s bad.NoHost) tt (λ hs. tt))
taken_tells s (message.Submit name client number from ops) = choice_tells (is_count client && is_count number) (as_user s (submitted_as s name client number from ops) s.party) (refused s bad.NotMessage)
    (user_tells s (submitted_as s name client number from ops) s.party (λ u. choice_tells (is_reached s name) (s, ask.Submit name (submission_of u client number from ops)) (refused s bad.NoHost) tt (λ hs. tt))) (λ hs. tt)
taken_tells s (message.CloseWavelet name) = user_tells s _ s.party (λ u. closed_tells s name (place_of name s.openings))
taken_tells s (message.Welcome user) = nothing
taken_tells s (message.Opened name version) = nothing
taken_tells s (message.Snapshot snapshot) = nothing
taken_tells s (message.Unopened name reason) = nothing
taken_tells s (message.Ack name client number place to) = nothing
taken_tells s (message.Refused name client number v) = nothing
taken_tells s (message.Queued name client number) = nothing
taken_tells s (message.Update name delta) = nothing
taken_tells s (message.Closed name reason) = nothing
taken_tells s (message.Bad reason) = nothing
taken_tells s (message.Peer domain) = choice_tells (is_some s.domain) (met s domain) (refused s bad.NotMessage)
    (choice_tells (is_new s && is_peer s domain) (with_party s (Domain domain), ask.Reply (message.Welcome (chars domain))) (refused s bad.BadUser) (λ hs. tt) (λ hs. tt)) (λ hs. tt)
taken_tells s (message.Have name from) = choice_tells (is_some s.domain) (as_peer s (λ _. if is_hosted s name then (s, ask.Have name from) else refused s bad.NoHost) s.party) (refused s bad.NotMessage)
    (peer_tells s _ s.party (λ d. choice_tells (is_hosted s name) (s, ask.Have name from) (refused s bad.NoHost) tt (λ hs. tt))) (λ hs. tt)
taken_tells s (message.Relay name submission) = choice_tells (is_some s.domain) (as_peer s (relay_by s name submission) s.party) (refused s bad.NotMessage)
    (peer_tells s (relay_by s name submission) s.party (λ d. choice_tells (same_text (domain_of submission.id.author) d) (if is_hosted s name then (s, ask.Submit name submission) else refused s bad.NoHost) (refused s bad.BadUser)
    (choice_tells (is_hosted s name) (s, ask.Submit name submission) (refused s bad.NoHost) tt (λ hs. tt)) (λ hs. tt))) (λ hs. tt)
taken_tells s (message.Applied name delta) = nothing
taken_tells s (message.Relayed name id v) = nothing
taken_tells s (message.Dropped name) = nothing

-- ---- turns

pub record IsFair (hs : List Hosted) (r : Reply) : Type 0 where
  pub held : IsHeld r.hosted r.message
  pub grown : (n : Key) → Begins (deltas_in hs n) (deltas_in r.hosted n)
  pub ascends : AreAscending (names_of r.hosted)

added_ascends : (hs : List Hosted) (n : Key) (o : Option DeltaOf) → AreAscending (names_of hs) → AreAscending (names_of (with_added hs n o))
added_ascends hs n None up = up
added_ascends hs n (Some d) up = grows_alone.ascending hs n d up

asked_fair : (hs : List Hosted) (t : ℕ) (s : Session) (r : Request) → AreAscending (names_of hs) → TellsNothing r → IsFair hs (asked hs t s r)
asked_fair hs t s (ask.Reply m) up tells = record { held = tells hs; grown = λ n. begins_itself (deltas_in hs n); ascends = up }
asked_fair hs t s (ask.Attach name from) up tells = record { held = seen_held hs s name from (seen_for (shown_in hs) s.party name) (for_seen hs s.party name); grown = λ n. begins_itself (deltas_in hs n); ascends = up }
asked_fair hs t s (ask.Submit name submission) up tells = record {
  held = told_held hs s.party name submission.id (judged_in hs name submission t).0 (judged_in hs name submission t).1 up (judge_sound name (deltas_in hs name) submission t);
  grown = λ n. begins_added hs name (judged_in hs name submission t).1 n up;
  ascends = added_ascends hs name (judged_in hs name submission t).1 up;
}
asked_fair hs t s (ask.Have name from) up tells = record { held = tt; grown = λ n. begins_itself (deltas_in hs n); ascends = up }

pub record IsFairTurn (hs : List Hosted) (a : Answer) : Type 0 where
  pub held : All (λ s. IsHeld a.pipe.hosted s.message) a.sent
  pub grown : (n : Key) → Begins (deltas_in hs n) (deltas_in a.pipe.hosted n)
  pub ascends : AreAscending (names_of a.pipe.hosted)

alone : (hs : List Hosted) (s : Sent) → IsHeld hs s.message → All (λ s. IsHeld hs s.message) (s ∷ [])
alone hs s h = All-cons (λ s. IsHeld hs s.message) s [] h (All-nil (λ s. IsHeld hs s.message))

read_fair : (p : Pipe) (t : ℕ) (r : Result (Key × Message) Refused) → AreAscending (names_of p.hosted) → IsFairTurn p.hosted (answered_read p t r)
read_fair p t (Ok line) up =
    let s = (seat_in (place_in line.0 0 p.seats) (seated line.0 p.seats)).session in
    let r = replied p.hosted s line.1 t in
    let fair = asked_fair p.hosted t (taken s line.1).0 (taken s line.1).1 up (taken_tells s line.1) in
    record { held = alone r.hosted (sent_to line.0 r.message) fair.held; grown = fair.grown; ascends = fair.ascends }
read_fair p t (Err r) up = record { held = alone p.hosted _ tt; grown = λ n. begins_itself (deltas_in p.hosted n); ascends = up }

turn_fair : (p : Pipe) (t : ℕ) (line : List ℕ) → AreAscending (names_of p.hosted) → IsFairTurn p.hosted (turn p t line)
turn_fair p t line up =
    let a = answered p t line in
    let fair = read_fair p t (line_read line) up in
    record {
      held = All-append (λ s. IsHeld a.pipe.hosted s.message) a.sent (delivered_all a.pipe).sent fair.held (seats_held a.pipe.hosted a.pipe.seats);
      grown = fair.grown;
      ascends = fair.ascends;
    }

pub after_begins : (p : Pipe) (ts : List Turn) → AreAscending (names_of p.hosted) → (n : Key) → Begins (deltas_in p.hosted n) (deltas_in (after p ts).hosted n)
after_begins p [] up n = begins_itself (deltas_in p.hosted n)
after_begins p (t ∷ ts) up n =
    let q = (turn p t.time t.line).pipe in
    let fair = turn_fair p t.time t.line up in
    begins_on (deltas_in p.hosted n) (deltas_in q.hosted n) (deltas_in (after q ts).hosted n) (fair.grown n) (after_begins q ts fair.ascends n)

pub all_held : (p : Pipe) (ts : List Turn) → AreAscending (names_of p.hosted) → All (λ s. IsHeld (after p ts).hosted s.message) (sent p ts)
all_held p [] up = All-nil (λ s. IsHeld p.hosted s.message)
all_held p (t ∷ ts) up =
    let a = turn p t.time t.line in
    let fair = turn_fair p t.time t.line up in
    All-append (λ s. IsHeld (after a.pipe ts).hosted s.message) a.sent (sent a.pipe ts)
    (All-weaker (λ s. IsHeld a.pipe.hosted s.message) (λ s. IsHeld (after a.pipe ts).hosted s.message) (λ s h. begins_held a.pipe.hosted (after a.pipe ts).hosted (after_begins a.pipe ts fair.ascends) s.message h) a.sent fair.held)
    (all_held a.pipe ts fair.ascends)
