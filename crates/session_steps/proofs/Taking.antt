-- Sessions of a server stay such, and what was sent all stays so.
--     IsTaken v s r         what a message leaves: a session of the server, that asks for what it may, and that was sent what it was sent
--                           before, unless it became a peer's
--     taken_session, taken_is    so it is with whatever comes
--     IsLacking c n         nothing of the wavelet is shown
--     IsAbout v s n x       what a call about one wavelet leaves: a session of the server, that was sent of other wavelets what it was
--                           sent before
--     attached_about, answered_about, had_about     so it is with an `open`, a submission, and what a peer has
--     answered_same, answered_short                 an answer to a submission changes nothing, but where it waits
--     AreApart c d          no wavelet is shown in both
--     after_session         a session to which news was sent
--     after_quiet, after_told     it was sent all of other copies that it was sent before, and was told all of them
use Rattle.std.proofs.Common.{◌≡◌, ◌==◌, ◌≢◌, ◌⊎◌, inl, inr, ◌+◌, ℕ, zero, suc, arith, Bool, true, false, ◌&&◌, if◌then◌else◌, List, [], ◌∷◌, ◌++◌, take, drop, length, Option, None, Some, Result, Ok, Err, refl, sym, ap, subst, ◌∙◌, true≢false, option_map}
use Rattle.std.specs.Prelude.{is_some}
use Rattle.std.specs.Cmp.Lexicographic.{pointwise, bytes_decides}
use Rattle.std.specs.Str.{encode_utf8_all, chars}
use Rattle.std.specs.List.{flat_map, AllByRecursion}
use Rattle.std.specs.Option.{option_map_or}
use Rattle.std.proofs.lemmas.Bool.{and_parts}
use Rattle.doc_items.specs.Maps.{Key, same_text}
use Rattle.wave_base.specs.Grammar.{domain_of}
use Rattle.wave_base.specs.Versions.{VersionAt, IdOf}
use Rattle.wavelet_op.specs.declared.delta.Submission.{Submission}
use Rattle.wavelet_op.specs.declared.op.WaveletOp.{WaveletOp}
use Rattle.wavelet_op.specs.declared.verdict.Verdict.{Verdict}
use Rattle.wavelet_op.specs.declared.verdict.Verdict.TheVariants as verdict
use Rattle.delta_history.specs.Histories.{HistoryOf, head_of, hash_found}
use Rattle.wavelet_json.specs.Good.{is_count}
use Rattle.wavelet_json.specs.declared.reason.BadReason.{BadReason}
use Rattle.wavelet_json.specs.declared.reason.BadReason.TheVariants as bad
use Rattle.wavelet_json.specs.declared.reason.UnopenedReason.TheVariants as unopened
use Rattle.message_json.specs.Write.{IsShort}
use Rattle.message_json.specs.declared.message.Message.{Message}
use Rattle.message_json.specs.declared.message.Message.TheVariants.{Welcome, Opened, Snapshot, Unopened}
use Rattle.message_json.specs.declared.message.ForServer.{ForServer}
use Rattle.message_json.specs.declared.message.ForServer.TheVariants as asks
use Rattle.message_json.specs.Server.{for_server}
use Rattle.wave_messages.specs.Read.{read_of}
use Rattle.wave_messages.specs.declared.fault.Kind.{Kind}
use Rattle.session_core.specs.declared.session.Party.{Party}
use Rattle.session_core.specs.declared.session.Party.TheVariants.{Nobody, User, Domain}
use Rattle.session_core.specs.declared.session.Opening.{Opening}
use Rattle.session_core.specs.declared.session.Session.{Session}
use Rattle.session_core.specs.declared.session.Waiting.{Waiting}
use Rattle.session_core.specs.declared.request.Request.{Request}
use Rattle.session_core.specs.declared.request.Request.TheVariants as ask
use Rattle.session_core.specs.declared.request.SubmitAnswer.{SubmitAnswer}
use Rattle.session_core.specs.declared.request.SubmitAnswer.TheVariants as answer
use Rattle.session_core.specs.Access.{Shown, seen_by}
use Rattle.session_core.specs.Answers.{with_sent, set_sent_in, put_sent, told_verdict, verdict_message, is_waiting, with_waiting, answered, snapshot_of, is_sendable, attached_hash, attached_seen, seen_for, attached, told_at, had_hash, had_copy, had}
use Rattle.session_core.specs.Deliveries.{outcome_sent, outcomes_sent, waits_on, opening_sent, openings_sent, opening_left, opening_kept, hosts_sent, hosts_told, delivered_to, delivered, after_for, after_delivery}
use Rattle.session_core.specs.Rules.{Taken, party_is_user, party_is_peer, has_user, has_peer, refused, with_party, is_nobody, is_new, is_user, is_peer, greeted, met, as_user, as_peer, in_domain, is_reached, is_hosted, place_of, without, with_openings, closed_at, asked_open, submission_of, submitted_as, submitted, closed, told_have, relay_by, relayed, taken_kind, reason_of, limit_of, taken_read, taken_bytes}
use Rattle.shard_marks.specs.Servers.{ServerOf}
use Rattle.session_steps.specs.Clients.{IsSessionOf, MayAsk}
use Rattle.shard_marks.specs.Told.{AreToldTo, AreTold}
use Rattle.session_steps.proofs.Telling.{IsNoneOf, alike_sent, told_apart, hosts_apart, told_beside, told_apart_from}

-- ---- lists that give nothing

module _ {A : Type 0} where
  first_none : (xs ys : List A) → xs ++ ys ≡ [] → xs ≡ []
  first_none [] ys e = refl
  first_none (x ∷ xs) ys e = absurd (omega (arith, ap length e))

  second_none : (xs ys : List A) → xs ++ ys ≡ [] → ys ≡ []
  second_none [] ys e = e
  second_none (x ∷ xs) ys e = absurd (omega (arith, ap length e))

  both_none : (xs ys : List A) → xs ≡ [] → ys ≡ [] → xs ++ ys ≡ []
  both_none xs ys e f = (λ i. e i ++ f i)

module _ {A B : Type 0} (f : A → List B) where
  single_none : (x : A) → f x ≡ [] → flat_map f (x ∷ []) ≡ []
  single_none x e = both_none (f x) [] e refl

  append_none : (xs ys : List A) → flat_map f xs ≡ [] → flat_map f ys ≡ [] → flat_map f (xs ++ ys) ≡ []
  append_none [] ys e g = g
  append_none (x ∷ xs) ys e g = both_none (f x) (flat_map f (xs ++ ys)) (first_none (f x) (flat_map f xs) e) (append_none xs ys (second_none (f x) (flat_map f xs) e) g)

  take_none : (i : ℕ) (xs : List A) → flat_map f xs ≡ [] → flat_map f (take i xs) ≡ []
  take_none zero xs e = refl
  take_none (suc i) [] e = refl
  take_none (suc i) (x ∷ xs) e = both_none (f x) (flat_map f (take i xs)) (first_none (f x) (flat_map f xs) e) (take_none i xs (second_none (f x) (flat_map f xs) e))

  drop_none : (i : ℕ) (xs : List A) → flat_map f xs ≡ [] → flat_map f (drop i xs) ≡ []
  drop_none zero xs e = e
  drop_none (suc i) [] e = refl
  drop_none (suc i) (x ∷ xs) e = drop_none i xs (second_none (f x) (flat_map f xs) e)

  -- each is replaced by such as give nothing
  kept_none : (g : A → List A) → ((x : A) → f x ≡ [] → flat_map f (g x) ≡ []) → (xs : List A) → flat_map f xs ≡ [] → flat_map f (flat_map g xs) ≡ []
  kept_none g each [] e = refl
  kept_none g each (x ∷ xs) e = append_none (g x) (flat_map g xs) (each x (first_none (f x) (flat_map f xs) e)) (kept_none g each xs (second_none (f x) (flat_map f xs) e))

-- ---- what is sent to a session

abbrev outcome_one : Shown → Waiting → List Message
outcome_one c w = outcome_sent w (c.outcome w.name w.id)

abbrev opening_one : Shown → Key → Opening → List Message
opening_one c user o = opening_sent c user o (c.copy o.name)

-- nothing is sent of a wavelet of which there is no copy
uncopied_none : (c : Shown) (user : Key) (o : Opening) → c.copy o.name ≡ None → opening_one c user o ≡ []
uncopied_none c user o e = ap (opening_sent c user o) e

without_none : (c : Shown) (user : Key) (i : ℕ) (os : List Opening) → openings_sent c user os ≡ [] → openings_sent c user (without i os) ≡ []
without_none c user i os e = append_none (opening_one c user) (take i os) (drop (i + 1) os) (take_none (opening_one c user) i os e) (drop_none (opening_one c user) (i + 1) os e)

module _ (c : Shown) (s x : Session) where
  -- nothing is sent to a user's session where neither outcomes nor deltas are, and to a peer's where nothing of hosted wavelets is
  user_quiet : (user : Key) → s.party ≡ User user → x.party ≡ User user → (outcomes_sent c s.waiting ≡ [] → outcomes_sent c x.waiting ≡ [])
      → (openings_sent c user s.openings ≡ [] → openings_sent c user x.openings ≡ []) → delivered c s ≡ [] → delivered c x ≡ []
  user_quiet user was is f g q =
      let all : outcomes_sent c s.waiting ++ openings_sent c user s.openings ≡ [] = sym (ap (delivered_to c s) was) ∙ q in
      ap (delivered_to c x) is ∙ both_none (outcomes_sent c x.waiting) (openings_sent c user x.openings)
      (f (first_none (outcomes_sent c s.waiting) (openings_sent c user s.openings) all)) (g (second_none (outcomes_sent c s.waiting) (openings_sent c user s.openings) all))

  peer_quiet : (domain : Key) → s.party ≡ Domain domain → x.party ≡ Domain domain → hosts_sent c domain x.tellings c.hosts ≡ hosts_sent c domain s.tellings c.hosts
      → delivered c s ≡ [] → delivered c x ≡ []
  peer_quiet domain was is same q = ap (delivered_to c x) is ∙ same ∙ sym (ap (delivered_to c s) was) ∙ q

-- ---- who it is

nobody_no_peer : (party : Party) → is_nobody party ≡ true → party_is_peer party ≡ false
nobody_no_peer Nobody e = refl
nobody_no_peer (User u) e = absurd (true≢false (sym e))
nobody_no_peer (Domain d) e = absurd (true≢false (sym e))

user_of : (party : Party) → party_is_user party ≡ true → (u : Key) × (party ≡ User u)
user_of Nobody e = absurd (true≢false (sym e))
user_of (User u) e = (u, refl)
user_of (Domain d) e = absurd (true≢false (sym e))

peer_of : (party : Party) → party_is_peer party ≡ true → (d : Key) × (party ≡ Domain d)
peer_of Nobody e = absurd (true≢false (sym e))
peer_of (User u) e = absurd (true≢false (sym e))
peer_of (Domain d) e = (d, refl)

-- a session that is somebody's may have anything open and waiting
somebody : (v : ServerOf) (s x : Session) → IsSessionOf v s → x.domain ≡ s.domain → x.peers ≡ s.peers → is_new x ≡ false → IsSessionOf v x
somebody v s x p domain peers known = record {
  domain = domain ∙ p.domain;
  peers = peers ∙ p.peers;
  unopened = λ f. absurd (true≢false (sym f ∙ known));
  unqueued = λ f. absurd (true≢false (sym f ∙ known));
}

-- ---- messages

pub record IsTaken (v : ServerOf) (s : Session) (r : Taken) : Type 0 where
  pub session : IsSessionOf v r.0
  pub asks : MayAsk r.0 r.1
  pub quiet : has_peer r.0 ≡ has_peer s → (c : Shown) → delivered c s ≡ [] → delivered c r.0 ≡ []
  pub told : has_peer r.0 ≡ has_peer s → (c : Shown) → AreTold c s → AreTold c r.0

module _ (v : ServerOf) (s : Session) (p : IsSessionOf v s) where
  same_taken : (r : Request) → MayAsk s r → IsTaken v s (s, r)
  same_taken r asks = record { session = p; asks = asks; quiet = λ same c q. q; told = λ same c t. t }

  refused_taken : (reason : BadReason) → IsTaken v s (refused s reason)
  refused_taken reason = same_taken _ tt

  choice_taken : (t : Bool) (a b : Taken) → IsTaken v s a → IsTaken v s b → IsTaken v s (if t then a else b)
  choice_taken true a b x y = x
  choice_taken false a b x y = y

  user_taken : (act : Key → Taken) (party : Party) → s.party ≡ party → ((u : Key) → s.party ≡ User u → IsTaken v s (act u)) → IsTaken v s (as_user s act party)
  user_taken act Nobody e f = refused_taken bad.BadUser
  user_taken act (User u) e f = f u e
  user_taken act (Domain x) e f = refused_taken bad.NotMessage

  peer_taken : (act : Key → Taken) (party : Party) → s.party ≡ party → ((d : Key) → s.party ≡ Domain d → IsTaken v s (act d)) → IsTaken v s (as_peer s act party)
  peer_taken act Nobody e f = refused_taken bad.BadUser
  peer_taken act (User u) e f = refused_taken bad.NotMessage
  peer_taken act (Domain x) e f = f x e

  domain_taken : (r : Taken) → IsTaken v s r → IsTaken v s (in_domain s r)
  domain_taken r x = choice_taken (is_some s.domain) r (refused s bad.NotMessage) x (refused_taken bad.NotMessage)

  greeted_taken : (text : List ℕ) → IsTaken v s (greeted s text)
  greeted_taken text = go (is_new s && is_user s (encode_utf8_all text)) refl
    where
      go : (t : Bool) → is_new s && is_user s (encode_utf8_all text) ≡ t → IsTaken v s (if t then (with_party s (User (encode_utf8_all text)), ask.Reply (Welcome text)) else refused s bad.BadUser)
      go true e =
          let new : is_new s ≡ true = (and_parts _ _ e).0 in record {
            session = somebody v s (with_party s (User (encode_utf8_all text))) p refl refl refl;
            asks = tt;
            quiet = λ same c q. both_none (outcomes_sent c s.waiting) (openings_sent c (encode_utf8_all text) s.openings) (ap (outcomes_sent c) (p.unqueued new)) (ap (openings_sent c (encode_utf8_all text)) (p.unopened new));
            told = λ same c t. tt;
          }
      go false e = refused_taken bad.BadUser

  -- all may be due to a peer
  met_taken : (domain : Key) → IsTaken v s (met s domain)
  met_taken domain = go (is_new s && is_peer s domain) refl
    where
      go : (t : Bool) → is_new s && is_peer s domain ≡ t → IsTaken v s (if t then (with_party s (Domain domain), ask.Reply (Welcome (chars domain))) else refused s bad.BadUser)
      go true e = record {
        session = somebody v s (with_party s (Domain domain)) p refl refl refl;
        asks = tt;
        quiet = λ same c q. absurd (true≢false (same ∙ nobody_no_peer s.party (and_parts _ _ e).0));
        told = λ same c t. absurd (true≢false (same ∙ nobody_no_peer s.party (and_parts _ _ e).0));
      }
      go false e = refused_taken bad.BadUser

  open_taken : (name : Key) (from : Option VersionAt) → IsTaken v s (asked_open s name from)
  open_taken name from = user_taken (λ _. if is_reached s name then (s, ask.Attach name from) else refused s bad.NoHost) s.party refl
      (λ u e. choice_taken (is_reached s name) (s, ask.Attach name from) (refused s bad.NoHost) (same_taken (ask.Attach name from) (ap party_is_user e)) (refused_taken bad.NoHost))

  submitted_taken : (name : Key) (client number : ℕ) (from : VersionAt) (ops : List WaveletOp) → IsTaken v s (submitted s name client number from ops)
  submitted_taken name client number from ops = choice_taken (is_count client && is_count number) (as_user s (submitted_as s name client number from ops) s.party) (refused s bad.NotMessage)
      (user_taken (submitted_as s name client number from ops) s.party refl
      (λ u e. choice_taken (is_reached s name) (s, ask.Submit name (submission_of u client number from ops)) (refused s bad.NoHost)
      (same_taken (ask.Submit name (submission_of u client number from ops)) (ap is_nobody e)) (refused_taken bad.NoHost)))
      (refused_taken bad.NotMessage)

  closed_taken : (name : Key) → IsTaken v s (closed s name)
  closed_taken name = user_taken (λ _. closed_at s name (place_of name s.openings)) s.party refl (λ u e. go u e (place_of name s.openings))
    where
      go : (u : Key) → s.party ≡ User u → (o : Option ℕ) → IsTaken v s (closed_at s name o)
      go u e None = refused_taken bad.NotOpen
      go u e (Some i) = record {
        session = somebody v s (with_openings s (without i s.openings)) p refl refl (ap is_nobody e);
        asks = tt;
        quiet = λ same c q. user_quiet c s (with_openings s (without i s.openings)) u e e (λ f. f) (without_none c u i s.openings) q;
        told = λ same c t. t;
      }

  had_taken : (name : Key) (from : VersionAt) → IsTaken v s (told_have s name from)
  had_taken name from = domain_taken _ (peer_taken (λ _. if is_hosted s name then (s, ask.Have name from) else refused s bad.NoHost) s.party refl
      (λ d e. choice_taken (is_hosted s name) (s, ask.Have name from) (refused s bad.NoHost) (same_taken (ask.Have name from) (ap party_is_peer e)) (refused_taken bad.NoHost)))

  relayed_taken : (name : Key) (submission : Submission) → IsTaken v s (relayed s name submission)
  relayed_taken name submission = domain_taken _ (peer_taken (relay_by s name submission) s.party refl
      (λ d e. choice_taken (same_text (domain_of submission.id.author) d) (if is_hosted s name then (s, ask.Submit name submission) else refused s bad.NoHost) (refused s bad.BadUser)
      (choice_taken (is_hosted s name) (s, ask.Submit name submission) (refused s bad.NoHost) (same_taken (ask.Submit name submission) (ap is_nobody e)) (refused_taken bad.NoHost))
      (refused_taken bad.BadUser)))

  kind_taken : (m : ForServer) → IsTaken v s (taken_kind s m)
  kind_taken (asks.Hello user) = greeted_taken user
  kind_taken (asks.OpenWavelet name from) = open_taken name from
  kind_taken (asks.Submit name client number from ops) = submitted_taken name client number from ops
  kind_taken (asks.CloseWavelet name) = closed_taken name
  kind_taken (asks.Peer domain) = domain_taken (met s domain) (met_taken domain)
  kind_taken (asks.Have name from) = had_taken name from
  kind_taken (asks.Relay name submission) = relayed_taken name submission

  any_taken : (o : Option ForServer) → IsTaken v s (option_map_or (taken_kind s) o (refused s bad.NotMessage))
  any_taken None = refused_taken bad.NotMessage
  any_taken (Some m) = kind_taken m

  read_taken : (r : Result Message Kind) → IsTaken v s (taken_read s r)
  read_taken (Ok m) = any_taken (for_server m)
  read_taken (Err k) = refused_taken (reason_of k)

  pub taken_session : (bytes : List ℕ) → IsTaken v s (taken_bytes s bytes)
  taken_session bytes = read_taken (read_of bytes (limit_of s.party))

pub taken_is : (v : ServerOf) (s : Session) → IsSessionOf v s → (bytes : List ℕ) (x : Session) (r : Request) → (x, r) ≡ taken_bytes s bytes → IsTaken v s (x, r)
taken_is v s p bytes x r e = subst (IsTaken v s) (sym e) (taken_session v s p bytes)

-- ---- calls about a wavelet

pub record IsLacking (c : Shown) (name : Key) : Type 0 where
  pub copy : c.copy name ≡ None
  pub outcome : (i : IdOf) → c.outcome name i ≡ None
  pub unhosted : IsNoneOf name c.hosts

pub record IsAbout (v : ServerOf) (s : Session) (name : Key) (x : Session) : Type 0 where
  pub session : IsSessionOf v x
  pub quiet : (c : Shown) → IsLacking c name → delivered c s ≡ [] → delivered c x ≡ []
  pub told : (c : Shown) → IsLacking c name → AreTold c s → AreTold c x

same_place : (i j : ℕ) → Some (j + 1) ≡ Some (suc i) → j ≡ i
same_place i j h = grind arith

module _ (c : Shown) (user name : Key) (v : ℕ) (uncopied : c.copy name ≡ None) where
  abbrev opened : Opening
  opened = record { name = name; sent = v }

  -- a place of the wavelet
  put_none : (os : List Opening) (o : Option ℕ) → place_of name os ≡ o → openings_sent c user os ≡ [] → openings_sent c user (put_sent name v os o) ≡ []
  put_none os None e q = append_none (opening_one c user) os (opened ∷ []) q (single_none (opening_one c user) opened (uncopied_none c user opened uncopied))
  put_none [] (Some i) e q = absurd (grind arith)
  put_none (o ∷ os) (Some i) e q = go (same_text o.name name) refl (place_of name os) refl i e (λ j h. put_none os (Some j) h (second_none (opening_one c user o) (openings_sent c user os) q))
    where
      first : opening_one c user o ≡ []
      first = first_none (opening_one c user o) (openings_sent c user os) q

      rest : openings_sent c user os ≡ []
      rest = second_none (opening_one c user o) (openings_sent c user os) q

      go : (t : Bool) → same_text o.name name ≡ t → (x : Option ℕ) → place_of name os ≡ x → (i : ℕ) → (if t then Some 0 else option_map (λ j. j + 1) x) ≡ Some i
          → ((j : ℕ) → place_of name os ≡ Some j → openings_sent c user (set_sent_in j v os) ≡ []) → openings_sent c user (set_sent_in i v (o ∷ os)) ≡ []
      go true f x g zero h later = both_none (opening_one c user (record { name = o.name; sent = v })) (openings_sent c user os)
          (uncopied_none c user (record { name = o.name; sent = v }) (ap c.copy ((bytes_decides o.name name).0 f) ∙ uncopied)) rest
      go true f x g (suc i) h later = absurd (grind arith)
      go false f None g i h later = absurd (grind arith)
      go false f (Some j) g zero h later = absurd (grind arith)
      go false f (Some j) g (suc i) h later = both_none (opening_one c user o) (openings_sent c user (set_sent_in i v os)) first (later i (g ∙ ap Some (same_place i j h)))

module _ (v : ServerOf) (s : Session) (p : IsSessionOf v s) where
  same_about : (name : Key) → IsAbout v s name s
  same_about name = record { session = p; quiet = λ c none q. q; told = λ c none t. t }

  choice_about : (name : Key) (t : Bool) (a b : Session × Message) → IsAbout v s name a.0 → IsAbout v s name b.0 → IsAbout v s name (if t then a else b).0
  choice_about name true a b x y = x
  choice_about name false a b x y = y

  -- ---- an `open`

  module _ (has : has_user s ≡ true) where
    sent_about : (name : Key) (version : ℕ) → IsAbout v s name (with_sent s name version)
    sent_about name version =
        let who = user_of s.party has in record {
          session = somebody v s (with_sent s name version) p refl refl (ap is_nobody who.1);
          quiet = λ c none q. user_quiet c s (with_sent s name version) who.0 who.1 who.1 (λ f. f) (put_none c who.0 name version none.copy s.openings (place_of name s.openings) refl) q;
          told = λ c none t. t;
        }

    seen_about : (name : Key) (from : Option VersionAt) (o : Option HistoryOf) → IsAbout v s name (attached_seen s name from o).0
    seen_about name from None = same_about name
    seen_about name None (Some h) = choice_about name (is_sendable (snapshot_of name h)) (with_sent s name (snapshot_of name h).at.version, Snapshot (snapshot_of name h)) (s, Unopened name unopened.TooLarge)
        (sent_about name (snapshot_of name h).at.version) (same_about name)
    seen_about name (Some from) (Some h) = go (hash_found h from.version)
      where
        go : (o : Option (List ℕ)) → IsAbout v s name (attached_hash s name from (head_of h).at o).0
        go None = same_about name
        go (Some hash) = choice_about name (pointwise ◌==◌ hash from.hash) (with_sent s name from.version, Opened name from.version) (s, Unopened name (unopened.WrongHash hash))
            (sent_about name from.version) (same_about name)

    pub attached_about : (c : Shown) (name : Key) (from : Option VersionAt) → IsAbout v s name (attached c s name from).0
    attached_about c name from = seen_about name from (seen_for c s.party name)

  -- ---- a submission

  module _ (known : is_new s ≡ false) where
    waiting_none : (c : Shown) (name : Key) (id : IdOf) → c.outcome name id ≡ None → (ws : List Waiting) → outcomes_sent c ws ≡ [] → outcomes_sent c (with_waiting ws name id) ≡ []
    waiting_none c name id none ws q = go (is_waiting ws name id)
      where
        go : (b : Bool) → outcomes_sent c (if b then ws else ws ++ record { name = name; id = id } ∷ []) ≡ []
        go true = q
        go false = append_none (outcome_one c) ws (record { name = name; id = id } ∷ []) q (single_none (outcome_one c) (record { name = name; id = id }) (ap (outcome_sent (record { name = name; id = id })) none))

    abbrev waits : Key → IdOf → Session
    waits name id = record s { waiting = with_waiting s.waiting name id }

    queued_about : (name : Key) (id : IdOf) → IsAbout v s name (waits name id)
    queued_about name id = record { session = somebody v s (waits name id) p refl refl known; quiet = λ c none q. go c none q s.party refl; told = λ c none t. t }
      where
        go : (c : Shown) → IsLacking c name → delivered c s ≡ [] → (party : Party) → s.party ≡ party → delivered c (waits name id) ≡ []
        go c none q Nobody e = ap (delivered_to c (waits name id)) e
        go c none q (User u) e = user_quiet c s (waits name id) u e e (waiting_none c name id (none.outcome id) s.waiting) (λ f. f) q
        go c none q (Domain d) e = peer_quiet c s (waits name id) d e e refl q

    pub answered_about : (name : Key) (id : IdOf) (a : SubmitAnswer) → IsAbout v s name (answered s name id a).0
    answered_about name id (answer.Verdict j) = same_about name
    answered_about name id answer.Queued = queued_about name id
    answered_about name id answer.NoHost = same_about name
    answered_about name id answer.Store = same_about name

  -- ---- what a peer has

  module _ (has : has_peer s ≡ true) where
    abbrev tells : Key → ℕ → Session
    tells name version = record s { tellings = told_at name version true s.tellings }

    told_about : (name : Key) (version : ℕ) → IsAbout v s name (tells name version)
    told_about name version =
        let who = peer_of s.party has in record {
          session = somebody v s (tells name version) p refl refl (ap is_nobody who.1);
          quiet = λ c none q. peer_quiet c s (tells name version) who.0 who.1 who.1
              (alike_sent c who.0 c.hosts (told_at name version true s.tellings) s.tellings (told_apart name version true c.hosts s.tellings none.unhosted)) q;
          told = λ c none t. told_beside c name version true s.tellings s.party none.unhosted t;
        }

    hash_about : (name : Key) (from : VersionAt) (o : Option (List ℕ)) → IsAbout v s name (had_hash s name from o)
    hash_about name from None = same_about name
    hash_about name from (Some hash) = go (pointwise ◌==◌ hash from.hash)
      where
        go : (b : Bool) → IsAbout v s name (if b then tells name from.version else s)
        go true = told_about name from.version
        go false = same_about name

    copy_about : (name : Key) (from : VersionAt) (o : Option HistoryOf) → IsAbout v s name (had_copy s name from o)
    copy_about name from None = same_about name
    copy_about name from (Some h) = hash_about name from (hash_found h from.version)

    pub had_about : (c : Shown) (name : Key) (from : VersionAt) → IsAbout v s name (had c s name from)
    had_about c name from = copy_about name from (c.copy name)

-- ---- answers to a submission

pub answered_same : (s : Session) (name : Key) (id : IdOf) (a : SubmitAnswer) → a ≢ answer.Queued → (answered s name id a).0 ≡ s
answered_same s name id (answer.Verdict v) n = refl
answered_same s name id answer.Queued n = absurd (n refl)
answered_same s name id answer.NoHost n = refl
answered_same s name id answer.Store n = refl

verdict_short : (name : Key) (id : IdOf) (v : Verdict) → IsShort (verdict_message name id v)
verdict_short name id (verdict.Ack place to) = tt
verdict_short name id verdict.NotParticipant = tt
verdict_short name id verdict.ReadOnly = tt
verdict_short name id (verdict.UnknownVersion head) = tt
verdict_short name id (verdict.WrongHash host) = tt
verdict_short name id (verdict.Invalid index) = tt
verdict_short name id (verdict.Full head) = tt

told_short : (party : Party) (name : Key) (id : IdOf) (v : Verdict) → IsShort (told_verdict party name id v)
told_short Nobody name id v = verdict_short name id v
told_short (User user) name id v = verdict_short name id v
told_short (Domain domain) name id v = tt

pub answered_short : (s : Session) (name : Key) (id : IdOf) (a : SubmitAnswer) → IsShort (answered s name id a).1
answered_short s name id (answer.Verdict v) = told_short s.party name id v
answered_short s name id answer.Queued = tt
answered_short s name id answer.NoHost = tt
answered_short s name id answer.Store = tt

-- ---- news

pub record AreApart (c other : Shown) : Type 0 where
  pub copies : (n : Key) → (other.copy n ≡ None) ⊎ (c.copy n ≡ None)
  pub hosts : AllByRecursion (λ h. IsNoneOf h other.hosts) c.hosts

pub after_session : (v : ServerOf) (s : Session) → IsSessionOf v s → (c : Shown) → IsSessionOf v (after_delivery c s)
after_session v s p c = go s.party refl
  where
    go : (party : Party) → s.party ≡ party → IsSessionOf v (after_for c s party)
    go Nobody e = p
    go (User user) e = somebody v s (after_for c s (User user)) p refl refl (ap is_nobody e)
    go (Domain domain) e = somebody v s (after_for c s (Domain domain)) p refl refl (ap is_nobody e)

module _ (s : Session) (c other : Shown) (apart : AreApart c other) where
  waits_none : (w : Waiting) → outcome_one other w ≡ [] → outcomes_sent other (waits_on w (c.outcome w.name w.id)) ≡ []
  waits_none w q = go (c.outcome w.name w.id)
    where
      go : (o : Option Verdict) → outcomes_sent other (waits_on w o) ≡ []
      go None = single_none (outcome_one other) w q
      go (Some j) = refl

  module _ (user : Key) where
    left_none : (o : Opening) (seen : Option HistoryOf) → other.copy o.name ≡ None → openings_sent other user (opening_left o seen) ≡ []
    left_none o None e = refl
    left_none o (Some h) e = single_none (opening_one other user) (record { name = o.name; sent = (head_of h).at.version }) (uncopied_none other user (record { name = o.name; sent = (head_of h).at.version }) e)

    opening_none : (o : Opening) (copy : Option HistoryOf) → (other.copy o.name ≡ None) ⊎ (copy ≡ None) → opening_one other user o ≡ [] → openings_sent other user (opening_kept c user o copy) ≡ []
    opening_none o None x q = single_none (opening_one other user) o q
    opening_none o (Some h) (inl e) q = left_none o (seen_by c o.name user) e
    opening_none o (Some h) (inr e) q = absurd (grind arith)

  pub after_quiet : delivered other s ≡ [] → delivered other (after_delivery c s) ≡ []
  after_quiet q = go s.party refl
    where
      go : (party : Party) → s.party ≡ party → delivered other (after_for c s party) ≡ []
      go Nobody e = q
      go (User user) e = user_quiet other s (after_for c s (User user)) user e e
          (kept_none (outcome_one other) (λ w. waits_on w (c.outcome w.name w.id)) waits_none s.waiting)
          (kept_none (opening_one other user) (λ o. opening_kept c user o (c.copy o.name)) (λ o. opening_none user o (c.copy o.name) (apart.copies o.name)) s.openings) q
      go (Domain domain) e = peer_quiet other s (after_for c s (Domain domain)) domain e e
          (alike_sent other domain other.hosts (hosts_told c domain s.tellings c.hosts) s.tellings (hosts_apart c domain c.hosts other.hosts s.tellings apart.hosts)) q

  pub after_told : AreTold other s → AreTold other (after_delivery c s)
  after_told t = go s.party refl t
    where
      go : (party : Party) → s.party ≡ party → AreToldTo other s.tellings party → AreTold other (after_for c s party)
      go Nobody e t = subst (AreToldTo other s.tellings) (sym e) t
      go (User user) e t = subst (AreToldTo other s.tellings) (sym e) t
      go (Domain domain) e t = subst (AreToldTo other (hosts_told c domain s.tellings c.hosts)) (sym e) (told_apart_from c other s.tellings domain apart.hosts t)
