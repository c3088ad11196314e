-- What one message leaves, by what it asked for.
--     reply_done, open_done, submit_done, have_done     a reply, an `open`, a submission and a `have` were answered
--     reply_halted, call_halted, submit_halted, submit_untold     they weren't: there was no turn or no memory, or no memory for the answer
--     about_sent                  what a session was sent, after a call about one wavelet
--     opened_about, noted_about   so it is with an `open`, and with what a peer has
use Rattle.std.proofs.Common.{sym, ap, refl, subst, ◌∙◌, ◌≡◌, ◌≢◌, ◌⊎◌, inl, inr, ◌+◌, ◌<◌, ◌≤◌, ℕ, Bool, true, false, arith, List, [], ◌∷◌, length, get_or, Option, Some, None}
use Rattle.std.specs.Prelude.{IsTrue}
use mathlib.Core.List.{IsPrefix}
use Rattle.doc_items.specs.Maps.{Key}
use Rattle.wave_base.specs.Grammar.{host_of}
use Rattle.wave_base.specs.Versions.{VersionAt}
use Rattle.wavelet_op.specs.declared.delta.Submission.{Submission}
use Rattle.message_json.specs.declared.message.Message.{Message}
use Rattle.session_core.specs.declared.session.Session.{Session}
use Rattle.session_core.specs.declared.request.Request.{Request}
use Rattle.session_core.specs.declared.request.Request.TheVariants as ask
use Rattle.session_core.specs.declared.request.SubmitAnswer.{SubmitAnswer}
use Rattle.session_core.specs.declared.request.SubmitAnswer.TheVariants as answer
use Rattle.session_core.specs.Access.{Shown}
use Rattle.session_core.specs.Answers.{attached, answered, had}
use Rattle.session_core.specs.Rules.{has_user, has_peer}
use Rattle.turn_cells.specs.declared.cells.Passes.{Passes}
use Rattle.turn_cells.specs.Cells.{added_at, seen_at}
use Rattle.wavelet_shelf.specs.FileNames.{shard_of}
use Rattle.hosted_copies.specs.Domains.{is_hosted_by}
use Rattle.shard_marks.specs.declared.look.Look.{Look}
use Rattle.shard_marks.specs.declared.mark.Mark.{Mark}
use Rattle.shard_marks.specs.Answers.{IsAnswerWhere, IsAnswer, IsAnswered}
use Rattle.shard_marks.specs.Frames.{frame_of}
use Rattle.shard_marks.specs.Passes.{HaveTurned, marks_of}
use Rattle.shard_marks.specs.Looks.{IsLook}
use Rattle.shard_marks.specs.Marks.{shown_at}
use Rattle.shard_marks.specs.Servers.{ServerOf, is_peer}
use Rattle.session_steps.specs.declared.step.LinkStep.{LinkStep}
use Rattle.session_steps.specs.Clients.{IsSessionOf, AreSentTo}
use Rattle.session_steps.specs.Going.{Grow, HasWorked, IsUnasked, Since}
use Rattle.session_steps.specs.Served.{total}
use Rattle.session_steps.specs.Steps.{last_length, IsAt}
use Rattle.session_steps.proofs.Counting.{taken_none, taken_one}
use Rattle.shard_marks.proofs.Prefixes.{prefix_self, prefix_length}
use Rattle.session_steps.proofs.Growing.{turned_grow, sent_later}
use Rattle.session_steps.proofs.Serving.{added_same, added_one}
use Rattle.session_steps.proofs.Apart.{sent_about}
use Rattle.session_steps.proofs.Taking.{IsAbout, attached_about, had_about}

no_look : (l : Look) → None ≡ Some l → ⊥
no_look l e = grind arith

same_look : (a l : Look) → Some a ≡ Some l → a ≡ l
same_look a l e = cc

-- ---- looks

module _ (v : ServerOf) (m n : ℕ → List Mark) (grown : Grow m n) (k : ℕ) (l : Look) (at : IsLook k (n k) l) where
  at_now : (begun : ℕ → ℕ) (ss : List LinkStep) → ((j : ℕ) → last_length begun j ss ≤ length (m j)) → IsAt v n begun ss k l (n k)
  at_now begun ss reached = let up = prefix_length (m k) (n k) (grown k) in record {
    shard = at.shard;
    cut_is = record { begins = subst (λ j. IsPrefix (n k) (n j)) (sym at.shard) (prefix_self (n k)); whole = at.length };
    later = omega (arith, at.length, reached k, up);
  }

  within_now : (x : Look) → Some l ≡ Some x → x.length ≤ length (n x.shard)
  within_now x e = subst (λ y. y.length ≤ length (n y.shard)) (same_look l x e) (subst (λ j. l.length ≤ length (n j)) (sym at.shard) (omega (arith, at.length)))

-- ---- work

reply_work : (v : ServerOf) (m : ℕ → List Mark) (s : Session) (message : Message) → HasWorked v m m (s, ask.Reply message) [] 0 s (Some message)
reply_work v m s message = record {
  look = None;
  reading = None;
  work = record { session = s; frames = frame_of message ∷ []; added = 0 };
  reading_is = refl;
  done = λ begun ss reached. record { unlooked = refl; unread = refl; session = refl; frames = refl; added = refl };
  within = λ l e. absurd (no_look l e);
  session = refl;
  frames = refl;
  added = refl;
}

open_work : (v : ServerOf) (m n : ℕ → List Mark) → Grow m n → (s x : Session) (name : Key) (from : Option VersionAt) (message : Message) (l : Look) → IsLook (shard_of name) (n (shard_of name)) l
    → (x, message) ≡ attached (shown_at v.domain (shard_of name) (n (shard_of name))) s name from → HasWorked v m n (s, ask.Attach name from) [] 0 x (Some message)
open_work v m n grown s x name from message l at reply = record {
  look = Some l;
  reading = None;
  work = record { session = x; frames = frame_of message ∷ []; added = 0 };
  reading_is = refl;
  done = λ begun ss reached. record {
    at = l;
    cut = n (shard_of name);
    message = message;
    is_look = refl;
    unread = refl;
    moment = at_now v m n grown (shard_of name) l at begun ss reached;
    reply = reply;
    frames = refl;
    added = refl;
  };
  within = within_now v m n grown (shard_of name) l at;
  session = refl;
  frames = refl;
  added = refl;
}

have_work : (v : ServerOf) (m n : ℕ → List Mark) → Grow m n → (s x : Session) (name : Key) (from : VersionAt) (l : Look) → IsLook (shard_of name) (n (shard_of name)) l
    → x ≡ had (shown_at v.domain (shard_of name) (n (shard_of name))) s name from → HasWorked v m n (s, ask.Have name from) [] 0 x None
have_work v m n grown s x name from l at is = record {
  look = Some l;
  reading = None;
  work = record { session = x; frames = []; added = 0 };
  reading_is = refl;
  done = λ begun ss reached. record {
    at = l;
    cut = n (shard_of name);
    is_look = refl;
    unread = refl;
    moment = at_now v m n grown (shard_of name) l at begun ss reached;
    session = is;
    frames = refl;
    added = refl;
  };
  within = within_now v m n grown (shard_of name) l at;
  session = refl;
  frames = refl;
  added = refl;
}

-- where the store failed one mark was added
store_one : (d : Key) (k : ℕ) (cut : List Mark) (name : Key) (submission : Submission) (t gained : ℕ) (own peer : Bool)
    → IsAnswerWhere d k cut name submission t own peer answer.Store gained → gained ≡ 1
store_one d k cut name submission t gained true peer i = i.1
store_one d k cut name submission t gained false true i = absurd i
store_one d k cut name submission t gained false false i = absurd i

module _ {T : Type 0} (v : ServerOf) (ps qs : Passes T Mark) (s : Session) (name : Key) (submission : Submission) (t : ℕ) (turned : HaveTurned (shard_of name) ps qs)
    (l : Look) (at : IsLook (shard_of name) (marks_of qs (shard_of name)) l) (a : SubmitAnswer) (i : IsAnswered v (shard_of name) ps qs name submission t a) where
  fault_added : a ≡ answer.Store → i.gained ≡ 1
  fault_added e = store_one v.domain (shard_of name) (seen_at qs (shard_of name)) name submission t i.gained (is_hosted_by v.domain name) (is_peer v (host_of name))
      (subst (λ x. IsAnswer v (shard_of name) (seen_at qs (shard_of name)) name submission t x i.gained) e i.answer)

  submit_work : (x : Session) (message : Message) → (x, message) ≡ answered s name submission.id a → HasWorked v (marks_of ps) (marks_of qs) (s, ask.Submit name submission) (t ∷ []) i.gained x (Some message)
  submit_work x message reply = record {
    look = Some l;
    reading = Some t;
    work = record { session = x; frames = frame_of message ∷ []; added = i.gained };
    reading_is = refl;
    done = λ begun ss reached. record {
      at = l;
      cut = marks_of qs (shard_of name);
      time = t;
      answer = a;
      message = message;
      is_look = refl;
      is_read = refl;
      moment = at_now v (marks_of ps) (marks_of qs) (turned_grow ps qs (shard_of name) turned) (shard_of name) l at begun ss reached;
      judged = i.answer;
      fresh_fault = λ e. let one = fault_added e in omega (arith, one, i.grown, at.length, reached (shard_of name));
      reply = reply;
      frames = refl;
    };
    within = within_now v (marks_of ps) (marks_of qs) (turned_grow ps qs (shard_of name) turned) (shard_of name) l at;
    session = refl;
    frames = refl;
    added = refl;
  }

pub shard_below : (name : Key) → shard_of name < 16
shard_below name = omega arith

-- by the lengths up to which the session was sent what is new, of which the one of the wavelet's shard is due then
pub about_sent : (v : ServerOf) (m n : ℕ → List Mark) → Grow m n → (s x : Session) (lengths now : List ℕ) (name : Key) (j : ℕ) → j ≡ shard_of name → get_or now j 0 ≡ 0
    → ((k : ℕ) → k ≢ j → get_or now k 0 ≡ get_or lengths k 0) → IsAbout v s name x → AreSentTo v.domain m s lengths → AreSentTo v.domain n x now
about_sent v m n grown s x lengths now name j at due others about sent =
    sent_about v.domain n s lengths (sent_later v.domain m n s lengths grown sent) now j others v name x at due about

-- the session is that of the answer to an `open`, and as what a peer has leaves it
pub opened_about : (v : ServerOf) (s x y : Session) (c : Shown) (name : Key) (from : Option VersionAt) (message : Message) → IsSessionOf v s → has_user s ≡ true
    → (x, message) ≡ attached c s name from → y ≡ x → IsAbout v s name y
opened_about v s x y c name from message p has reply same =
    subst (IsAbout v s name) (sym (same ∙ ap (λ (z : Session × Message). z.0) reply)) (attached_about v s p has c name from)

pub noted_about : (v : ServerOf) (s x y : Session) (c : Shown) (name : Key) (from : VersionAt) → IsSessionOf v s → has_peer s ≡ true → x ≡ had c s name from → y ≡ x → IsAbout v s name y
noted_about v s x y c name from p has is same = subst (IsAbout v s name) (sym (same ∙ is)) (had_about v s p has c name from)

-- ---- calls

module _ {T : Type 0} (v : ServerOf) (is_told : Bool) (r : ℕ → ℕ) (ps qs : Passes T Mark) where
  abbrev count : Passes T Mark → ℕ
  count xs = total 16 (λ k. added_at xs k)

  abbrev ByCall : (ℕ → ℕ) → Passes T Mark → (List ℕ → ℕ → Type 0) → Type 0
  ByCall q xs P = Since (record { begun = λ k. length (marks_of ps k); readings = r; added = count ps }) is_told q (count xs) P

  abbrev IsDone : Session × Request → Session → Option Message → List ℕ → ℕ → Type 0
  IsDone asked x message read gained = HasWorked v (marks_of ps) (marks_of qs) asked read gained x message

  abbrev IsHalted : Session × Request → List ℕ → ℕ → Type 0
  IsHalted asked read gained = IsUnasked read gained ⊎ ((x : Session) × ((message : Option Message) × HasWorked v (marks_of ps) (marks_of qs) asked read gained x message))

  -- a call that took no reading and added nothing
  unread_call : (P : List ℕ → ℕ → Type 0) → count qs ≡ count ps → P [] 0 → ByCall r qs P
  unread_call P same p = record { read = []; gained = 0; timed = λ t. taken_none r; counted = omega (arith, same); is = p }

  pub open_done : (s x : Session) (name : Key) (from : Option VersionAt) (message : Message) (l : Look) → HaveTurned (shard_of name) ps qs → added_at qs (shard_of name) ≡ added_at ps (shard_of name)
      → IsLook (shard_of name) (marks_of qs (shard_of name)) l → (x, message) ≡ attached (shown_at v.domain (shard_of name) (marks_of qs (shard_of name))) s name from → ByCall r qs (IsDone (s, ask.Attach name from) x (Some message))
  open_done s x name from message l turned unadded at reply =
      unread_call (IsDone (s, ask.Attach name from) x (Some message)) (added_same ps qs (shard_of name) turned.others unadded)
      (open_work v (marks_of ps) (marks_of qs) (turned_grow ps qs (shard_of name) turned) s x name from message l at reply)

  pub have_done : (s x : Session) (name : Key) (from : VersionAt) (l : Look) → HaveTurned (shard_of name) ps qs → added_at qs (shard_of name) ≡ added_at ps (shard_of name)
      → IsLook (shard_of name) (marks_of qs (shard_of name)) l → x ≡ had (shown_at v.domain (shard_of name) (marks_of qs (shard_of name))) s name from → ByCall r qs (IsDone (s, ask.Have name from) x None)
  have_done s x name from l turned unadded at is =
      unread_call (IsDone (s, ask.Have name from) x None) (added_same ps qs (shard_of name) turned.others unadded)
      (have_work v (marks_of ps) (marks_of qs) (turned_grow ps qs (shard_of name) turned) s x name from l at is)

  pub call_halted : (asked : Session × Request) (k : ℕ) → HaveTurned k ps qs → added_at qs k ≡ added_at ps k → ByCall r qs (IsHalted asked)
  call_halted asked k turned unadded = unread_call (IsHalted asked) (added_same ps qs k turned.others unadded) (inl (omega arith, refl))

  module _ (q : ℕ → ℕ) (t : ℕ) (first : IsTrue is_told → t ≡ r 0) (rest : IsTrue is_told → (k : ℕ) → q k ≡ r (k + 1)) where
    -- a call that took one reading
    read_call : (gained : ℕ) (P : List ℕ → ℕ → Type 0) → count qs ≡ count ps + gained → P (t ∷ []) gained → ByCall q qs P
    read_call gained P rose p = record { read = t ∷ []; gained = gained; timed = λ told. taken_one r q t (first told) (rest told); counted = rose; is = p }

    pub submit_halted : (asked : Session × Request) (k : ℕ) → HaveTurned k ps qs → added_at qs k ≡ added_at ps k → ByCall q qs (IsHalted asked)
    submit_halted asked k turned unadded =
        let same = added_same ps qs k turned.others unadded in read_call 0 (IsHalted asked) (omega (arith, same)) (inl (omega arith, refl))

    module _ (s : Session) (name : Key) (below : shard_of name < 16) (submission : Submission) (turned : HaveTurned (shard_of name) ps qs)
        (l : Look) (at : IsLook (shard_of name) (marks_of qs (shard_of name)) l) (a : SubmitAnswer) (i : IsAnswered v (shard_of name) ps qs name submission t a) where
      pub submit_done : (x : Session) (message : Message) → (x, message) ≡ answered s name submission.id a → ByCall q qs (IsDone (s, ask.Submit name submission) x (Some message))
      submit_done x message reply = read_call i.gained (IsDone (s, ask.Submit name submission) x (Some message)) (added_one ps qs (shard_of name) turned.others i.gained below i.added)
          (submit_work v ps qs s name submission t turned l at a i x message reply)

      pub submit_untold : ByCall q qs (IsHalted (s, ask.Submit name submission))
      submit_untold = read_call i.gained (IsHalted (s, ask.Submit name submission)) (added_one ps qs (shard_of name) turned.others i.gained below i.added)
          (inr ((answered s name submission.id a).0, (Some (answered s name submission.id a).1, submit_work v ps qs s name submission t turned l at a i (answered s name submission.id a).0 (answered s name submission.id a).1 refl)))

pub reply_done : {T : Type 0} (v : ServerOf) (is_told : Bool) (r : ℕ → ℕ) (ps : Passes T Mark) (s : Session) (message : Message)
    → Since (record { begun = λ k. length (marks_of ps k); readings = r; added = total 16 (λ k. added_at ps k) }) is_told r (total 16 (λ k. added_at ps k))
    (λ read gained. HasWorked v (marks_of ps) (marks_of ps) (s, ask.Reply message) read gained s (Some message))
reply_done v is_told r ps s message = record { read = []; gained = 0; timed = λ t. taken_none r; counted = omega arith; is = reply_work v (marks_of ps) s message }

-- nothing was asked, or could be
pub reply_halted : {T : Type 0} (v : ServerOf) (is_told : Bool) (r : ℕ → ℕ) (ps : Passes T Mark) (asked : Session × Request)
    → Since (record { begun = λ k. length (marks_of ps k); readings = r; added = total 16 (λ k. added_at ps k) }) is_told r (total 16 (λ k. added_at ps k))
    (λ read gained. IsUnasked read gained ⊎ ((x : Session) × ((message : Option Message) × HasWorked v (marks_of ps) (marks_of ps) asked read gained x message)))
reply_halted v is_told r ps asked = record { read = []; gained = 0; timed = λ t. taken_none r; counted = omega arith; is = inl (omega arith, refl) }
