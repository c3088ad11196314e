-- Every event keeps the world as it should be.
--     IsGood name w         what the induction carries
--     happens_good, all_good, good      one event, many, and all from the first world on
use Rattle.std.proofs.Common.{◌≡◌, ◌⊎◌, inl, inr, ℕ, Bool, true, false, cond, not, ◌&&◌, ◌||◌, List, [], ◌∷◌, ◌++◌, length, Option, Some, None, slice_get, is_none, refl, sym, ap, subst, ◌∙◌, append_assoc, append-nil, true≢false}
use Rattle.std.specs.Option.{option_map}
use Rattle.std.proofs.lemmas.List.{length-map}
use Rattle.std.specs.Result.{result_ok}
use Rattle.std.proofs.lemmas.Bool.{and_parts}
use Rattle.doc_items.specs.Maps.{Key, same_text}
use Rattle.doc_items.proofs.Maps.{or_false}
use Rattle.doc_op.proofs.Applying.{no_value, same_Some, mapped, passed}
use Rattle.wave_base.specs.Versions.{IdOf, VersionAt, same_version}
use Rattle.wave_base.proofs.Same.{same_version-is}
use Rattle.wavelet_op.specs.Acts.{meanings}
use Rattle.wavelet_op.specs.Deltas.{DeltaOf, is_count}
use Rattle.wavelet_op.specs.declared.delta.Submission.{Submission}
use Rattle.wavelet_op.specs.declared.verdict.Verdict.{Verdict}
use Rattle.wavelet_op.specs.declared.verdict.Verdict.TheVariants.{Ack, NotParticipant, ReadOnly, UnknownVersion, WrongHash, Invalid, Full}
use Rattle.wavelet_op.proofs.Partial.{and_then_some, both, ok_some}
use Rattle.delta_history.specs.declared.kept.Kept.{Kept}
use Rattle.delta_history.specs.Laws.{IsKept, EndsSpelled, IsAdded, IsJudged, IsCaused}
use Rattle.delta_history.specs.Legal.{has_id, IsLegalFrom, IsLegal}
use Rattle.delta_history.specs.Passing.{all_acts}
use Rattle.delta_history.specs.Points.{Point, start, acts_of, next_point, replay, IsAt}
use Rattle.delta_history.specs.Verdicts.{kept, op_of, judge}
use Rattle.delta_history.proofs.Causes.{cause_is}
use Rattle.delta_history.proofs.Chains.{legal_more, legal_front}
use Rattle.delta_history.proofs.Judges.{judged_is}
use Rattle.delta_history.proofs.Keeping.{kept_is}
use Rattle.delta_history.proofs.Points.{replay_more}
use Rattle.delta_history.proofs.Versions.{cut_is}
use Rattle.follower_rules.specs.Followers.{ClientOf, client_of, same_client, FollowerOf, new_follower, run_all, flying, pending, dropped, take_snapshot}
use Rattle.follower_rules.specs.Receiving.{receive}
use Rattle.follower_rules.specs.Replicas.{ReplicaOf, empty_replica, is_waiting, may_follow, grown as grown_replica, absorb_to, absorb_at, absorb, queue, settle}
use Rattle.follower_rules.specs.Submitting.{edit, sent_by, submit}
use Rattle.follower_rules.proofs.Gathers.{IsSubmitting, Submits, nothing, something, submitting_is, gathered}
use Rattle.wave_world.specs.Texts.{AreTextActs, AreTextEntries}
use Rattle.wave_world.specs.Worlds.{Mem, IsBegin, Answer, World, first_world, Event, Starts, Edits, Submits as Submitted, TakesDelta, TakesRefusal, TakesSnapshot, Drops, Pools, HostTakes, HostSnapshot, HostRestarts, Queues, Absorbs, Notes, NotesDrop, Restarts, ReplicaSnapshot, ReplicaAcks, Cuts, Opens, with_follower, set_follower, to_follower, set_replica, to_replica, has_client, pool, submitted, take_answer, host_answers, host_takes, shown, acked, happens, world_after, world_of}
use Rattle.wave_world.proofs.Members.{not_true, mem_left, mem_right, mem_get, mem_more, mem_last, begin_more}
use Rattle.wave_world.proofs.Passages.{text_spelled, pass_text, gather_text}
use Rattle.wave_world.proofs.Places.{find_at, at_more, IsAnswer, IsFrom, passed_more, kept_more}
use Rattle.wave_world.proofs.Clients.{client_same, same_client_is, IsFollower, starts_follower, edit_follower, drop_follower, answer_follower, snapshot_follower, other_follower, submit_follower, receive_follower, grow_follower}

abbrev pub IsSource : List Submission → DeltaOf → Type 0
IsSource subs d = (s : Submission) × Mem s subs × (s.id ≡ d.id)

pub record IsSent (s : Submission) : Type 0 where
  pub count : is_count (length s.ops) ≡ true
  pub text : AreTextActs (meanings s.ops)

pub record IsGood (name : Key) (w : World) : Type 0 where
  pub legal : IsLegal name w.host
  pub deltas : (d : DeltaOf) → Mem d w.deltas → Mem d w.host
  pub answers : (a : Answer) → Mem a w.answers → IsAnswer name w.host a
  pub replicas : (d : Key) → IsBegin (w.replicas d).deltas w.host
  pub sources : (d : DeltaOf) → Mem d w.host → IsSource w.submissions d
  pub snapshots : (p : Point) → Mem p w.snapshots → IsAt name w.host p
  pub followers : (k : ClientOf) (f : FollowerOf) → w.followers k ≡ Some f → IsFollower name w.host w.submissions k f
  pub sent : (s : Submission) → Mem s w.submissions → IsSent s
  pub text : (d : DeltaOf) → Mem d w.host → AreTextActs (acts_of d)

-- ---- the maps

found : (map : ClientOf → Option FollowerOf) (k at : ClientOf) (f g : FollowerOf) → with_follower map k f at ≡ Some g → ((k ≡ at) × (f ≡ g)) ⊎ ((k ≡ at → ⊥) × (map at ≡ Some g))
found map k at f g e = go (same_client k at) refl e
  where
    go : (b : Bool) → same_client k at ≡ b → cond b (Some f) (map at) ≡ Some g → ((k ≡ at) × (f ≡ g)) ⊎ ((k ≡ at → ⊥) × (map at ≡ Some g))
    go true h c = inl (client_same k at h, same_Some c)
    go false h c = inr (λ p. both (same_client_is k at p) h, c)

set_good : (name : Key) (w : World) (k : ClientOf) (f : FollowerOf) → IsGood name w → IsFollower name w.host w.submissions k f → IsGood name (set_follower w k f)
set_good name w k f i c = record {
  legal = i.legal;
  deltas = i.deltas;
  answers = i.answers;
  replicas = i.replicas;
  sources = i.sources;
  snapshots = i.snapshots;
  followers = λ at g e. elim (found w.followers k at f g e) [
    | inl p ↦ subst (λ z. IsFollower name w.host w.submissions z g) p.0 (subst (λ z. IsFollower name w.host w.submissions k z) p.1 c)
    | inr q ↦ i.followers at g q.1
  ];
  sent = i.sent;
  text = i.text;
}

to_good : (name : Key) (w : World) (k : ClientOf) (m : Option FollowerOf) → IsGood name w → ((f : FollowerOf) → m ≡ Some f → IsFollower name w.host w.submissions k f) → IsGood name (to_follower w k m)
to_good name w k None i h = i
to_good name w k (Some f) i h = set_good name w k f i (h f refl)

replica_good : (name : Key) (w : World) (d : Key) (r : ReplicaOf) → IsGood name w → IsBegin r.deltas w.host → IsGood name (set_replica w d r)
replica_good name w d r i b = record {
  legal = i.legal;
  deltas = i.deltas;
  answers = i.answers;
  replicas = λ at. go at (same_text d at);
  sources = i.sources;
  snapshots = i.snapshots;
  followers = i.followers;
  sent = i.sent;
  text = i.text;
}
  where
    go : (at : Key) (t : Bool) → IsBegin (cond t r (w.replicas at)).deltas w.host
    go at true = b
    go at false = i.replicas at

to_replica_good : (name : Key) (w : World) (d : Key) (m : Option ReplicaOf) → IsGood name w → ((r : ReplicaOf) → m ≡ Some r → IsBegin r.deltas w.host) → IsGood name (to_replica w d m)
to_replica_good name w d None i h = i
to_replica_good name w d (Some r) i h = replica_good name w d r i (h r refl)

-- ---- what is pooled by clients and others

no_client : (k : ClientOf) (subs : List Submission) → has_client k subs ≡ false → (s : Submission) → Mem s subs → client_of s.id ≡ k → ⊥
no_client k [] h s m e = m
no_client k (x ∷ subs) h s (inl p) e = both (same_client_is k (client_of x.id) (sym e ∙ ap (λ (z : Submission). client_of z.id) p)) (or_false _ _ h).0
no_client k (x ∷ subs) h s (inr m) e = no_client k subs (or_false _ _ h).1 s m e

none_is : {A : Type 0} (m : Option A) → is_none m ≡ true → m ≡ None
none_is None h = refl
none_is (Some x) h = absurd (true≢false (sym h))

starts_good : (name : Key) (w : World) (k : ClientOf) → IsGood name w → (b : Bool) → (is_none (w.followers k) && not (has_client k w.submissions)) ≡ b → IsGood name (cond b (set_follower w k (new_follower name k)) w)
starts_good name w k i false h = i
starts_good name w k i true h = set_good name w k (new_follower name k) i (starts_follower name w.host w.submissions k (no_client k w.submissions (not_true _ (and_parts (is_none (w.followers k)) (not (has_client k w.submissions)) h).1)) i.sources)

more_sources : (s : Submission) (subs : List Submission) (d : DeltaOf) → IsSource subs d → IsSource (s ∷ subs) d
more_sources s subs d x = (x.0, inr x.1, x.2)

submitted_sent : (name : Key) (h : List DeltaOf) (subs : List Submission) (k : ClientOf) (f g : FollowerOf) (o : Option Submission) → IsFollower name h subs k f → (x : IsSubmitting f o g) → IsSent (sent_by f x.taken.0)
submitted_sent name h subs k f g o c x =
    let all : pending f ≡ x.entry ∷ x.rest = ap (λ m. flying m ++ f.queue) x.none ∙ x.is_queue in
    let before : AreTextEntries (x.entry ∷ x.rest) = subst AreTextEntries all c.text in
    let text = gather_text x.entry x.rest x.taken before.0 before.1 x.is_taken in
    let ran : run_all f.here.state (x.entry ∷ x.rest) ≡ Some c.sound.shown = subst (λ z. run_all f.here.state z ≡ Some c.sound.shown) all c.sound.is_shown in
    let joined = gathered f.here.state c.sound.shown x.entry x.rest x.taken ran x.is_taken in
    let spelled = text_spelled x.taken.0 text.0 in
    record { count = ap is_count (length-map x.taken.0 op_of) ∙ joined.count; text = subst AreTextActs (sym spelled.same) text.0 }

-- a submission and, where it is a follower's, the follower with it
taken_good : (name : Key) (w : World) (k : ClientOf) (f g : FollowerOf) (o : Option Submission) → IsGood name w → IsFollower name w.host w.submissions k f → (x : IsSubmitting f o g) → IsGood name (set_follower (pool w o) k g)
taken_good name w k f g o i c x = subst (λ z. IsGood name (set_follower (pool w z) k g)) (sym x.is_sent) (record {
  legal = i.legal;
  deltas = i.deltas;
  answers = i.answers;
  replicas = i.replicas;
  sources = λ d m. more_sources s w.submissions d (i.sources d m);
  snapshots = i.snapshots;
  followers = λ at y e. elim (found w.followers k at g y e) [
    | inl p ↦ subst (λ z. IsFollower name w.host (s ∷ w.submissions) z y) p.0 (subst (λ z. IsFollower name w.host (s ∷ w.submissions) k z) p.1 (submit_follower name w.host w.submissions k f g o c x))
    | inr q ↦ other_follower name w.host w.submissions at y s (λ z. q.0 (sym c.client ∙ z)) (i.followers at y q.1)
  ];
  sent = mem_more IsSent s w.submissions sent i.sent;
  text = i.text;
})
  where
    s : Submission
    s = sent_by f x.taken.0

    sent : IsSent s
    sent = submitted_sent name w.host w.submissions k f g o c x

submitted_good : (name : Key) (w : World) (k : ClientOf) (m : Option (Option Submission × FollowerOf)) → IsGood name w → ((t : Option Submission × FollowerOf) → m ≡ Some t → (f : FollowerOf) × IsFollower name w.host w.submissions k f × Submits f t.0 t.1) → IsGood name (submitted w k m)
submitted_good name w k None i h = i
submitted_good name w k (Some t) i h = go (h t refl)
  where
    go : (f : FollowerOf) × IsFollower name w.host w.submissions k f × Submits f t.0 t.1 → IsGood name (submitted w k (Some t))
    go x = elim x.2 [
      | nothing n e ↦ subst (λ z. IsGood name (set_follower (pool w z) k t.1)) (sym n) (set_good name w k t.1 i (subst (IsFollower name w.host w.submissions k) (sym e) x.1))
      | something y ↦ taken_good name w k x.0 t.1 t.0 i x.1 y
    ]

pools_good : (name : Key) (w : World) (s : Submission) → AreTextActs (meanings s.ops) → IsGood name w → (b : Bool) → (is_count (length s.ops) && is_none (w.followers (client_of s.id))) ≡ b → IsGood name (cond b (pool w (Some s)) w)
pools_good name w s t i false h = i
pools_good name w s t i true h =
    let x = and_parts (is_count (length s.ops)) (is_none (w.followers (client_of s.id))) h in
    let n : w.followers (client_of s.id) ≡ None = none_is _ x.1 in
    record {
      legal = i.legal;
      deltas = i.deltas;
      answers = i.answers;
      replicas = i.replicas;
      sources = λ d m. more_sources s w.submissions d (i.sources d m);
      snapshots = i.snapshots;
      followers = λ at g e. other_follower name w.host w.submissions at g s (λ y. no_value (sym n ∙ ap w.followers y ∙ e)) (i.followers at g e);
      sent = mem_more IsSent s w.submissions (record { count = x.0; text = t }) i.sent;
      text = i.text;
    }

-- ---- the host takes a submission

texts_of : (h ds : List DeltaOf) → ((d : DeltaOf) → Mem d h → AreTextActs (acts_of d)) → ((d : DeltaOf) → Mem d ds → Mem d h) → AreTextEntries (all_acts ds)
texts_of h [] t i = tt
texts_of h (d ∷ ds) t i = (t d (i d (inl refl)), texts_of h ds t (λ e m. i e (inr m)))

-- what a submission becomes has operations
ends_spelled : (name : Key) (h : List DeltaOf) (s : Submission) → ((d : DeltaOf) → Mem d h → AreTextActs (acts_of d)) → AreTextActs (meanings s.ops) → EndsSpelled name h s
ends_spelled name h s t u base since acts e p =
    let c = cut_is (start name) s.at.version h base since e in
    text_spelled acts (pass_text (meanings s.ops) acts (all_acts since) u (texts_of h since t (λ d m. subst (λ z. Mem d z) c.whole (mem_right d c.before since m))) p)

-- so has the delta by which the history grows
added_text : (name : Key) (h : List DeltaOf) (s : Submission) (v : Verdict) (d : DeltaOf) → ((e : DeltaOf) → Mem e h → AreTextActs (acts_of e)) → AreTextActs (meanings s.ops) → IsAdded name h s v d → AreTextActs (acts_of d)
added_text name h s v d t u a =
    let p = a.passed in
    pass_text (meanings s.ops) (acts_of d) (all_acts p.between) u (texts_of h p.between t (λ e m. subst (λ z. Mem e z) p.whole (mem_right e p.before (p.between ++ p.behind) (mem_left e p.between p.behind m)))) p.passed

abbrev ack_at : Verdict → ℕ
ack_at (Ack at to) = at
ack_at NotParticipant = 0
ack_at ReadOnly = 0
ack_at (UnknownVersion head) = 0
ack_at (WrongHash host) = 0
ack_at (Invalid index) = 0
ack_at (Full head) = 0

abbrev ack_to : VersionAt → Verdict → VersionAt
ack_to d (Ack at to) = to
ack_to d NotParticipant = d
ack_to d ReadOnly = d
ack_to d (UnknownVersion head) = d
ack_to d (WrongHash host) = d
ack_to d (Invalid index) = d
ack_to d (Full head) = d

same_ack : (a at : ℕ) (b to : VersionAt) → Ack a b ≡ Ack at to → (a ≡ at) × (b ≡ to)
same_ack a at b to e = (ap ack_at e, ap (ack_to b) e)

grown_good : (name : Key) (w : World) (s : Submission) (v : Verdict) (d : DeltaOf) → IsGood name w → Mem s w.submissions → IsAdded name w.host s v d → IsGood name (host_answers w s (v, Some d))
grown_good name w s v d i is a = record {
  legal = legal_more name [] w.host d i.legal a.next;
  deltas = mem_more (λ e. Mem e (w.host ++ d ∷ [])) d w.deltas (mem_right d w.host (d ∷ []) (inl refl)) (λ e m. mem_left e w.host (d ∷ []) (i.deltas e m));
  answers = mem_more (IsAnswer name (w.host ++ d ∷ [])) (record { id = s.id; verdict = v }) w.answers answer (λ b m at to e. kept_more name w.host (d ∷ []) b.id (record { at = at; to = to }) (i.answers b m at to e));
  replicas = λ at. begin_more (w.replicas at).deltas w.host d (i.replicas at);
  sources = mem_last (IsSource w.submissions) d w.host (s, is, sym a.same) i.sources;
  snapshots = λ p m. at_more name w.host d p (i.snapshots p m);
  followers = λ at g e. grow_follower name w.host w.submissions at g d a.next from (i.followers at g e);
  sent = i.sent;
  text = mem_last (λ e. AreTextActs (acts_of e)) d w.host (added_text name w.host s v d i.text (i.sent s is).text a) i.text;
}
  where
    from : IsFrom name (w.host ++ d ∷ []) w.submissions d
    from = record { sent = s; is_sent = is; same = sym a.same; passed = passed_more name w.host d s.at d.from (meanings s.ops) (acts_of d) a.passed }

    answer : IsAnswer name (w.host ++ d ∷ []) (record { id = s.id; verdict = v })
    answer at to e =
        let y = same_ack d.from.version at a.next.after.at to (sym a.answer ∙ e) in
        record {
          before = w.host;
          delta = d;
          behind = [];
          after = a.next.after;
          whole = refl;
          is_id = a.same;
          is_at = y.0;
          leads = replay_more (start name) a.next.here a.next.after w.host d a.next.is_head a.next.goes;
          is_to = y.1;
        }

host_good : (name : Key) (w : World) (s : Submission) (v : Verdict) (m : Option DeltaOf) → IsGood name w → Mem s w.submissions → IsJudged name w.host s (v, m) → IsGood name (host_answers w s (v, m))
host_good name w s v None i is (inr x) = no_value x.1
host_good name w s v None i is (inl x) = record {
  legal = i.legal;
  deltas = i.deltas;
  answers = mem_more (IsAnswer name w.host) (record { id = s.id; verdict = v }) w.answers x.1 i.answers;
  replicas = i.replicas;
  sources = i.sources;
  snapshots = i.snapshots;
  followers = i.followers;
  sent = i.sent;
  text = i.text;
}
host_good name w s v (Some d) i is (inl x) = no_value (sym x.0)
host_good name w s v (Some d) i is (inr x) = grown_good name w s v d i is (subst (λ z. IsAdded name w.host s v z) (same_Some (sym x.1)) x.2)

pub judged_in : (name : Key) (w : World) (s : Submission) (reading : ℕ) → IsGood name w → Mem s w.submissions → IsJudged name w.host s (judge name w.host s reading)
judged_in name w s reading i is =
    let x = i.sent s is in
    judged_is name w.host s reading i.legal x.count (ends_spelled name w.host s i.text x.text)

pub caused_in : (name : Key) (w : World) (s : Submission) (reading : ℕ) (v : Verdict) → IsGood name w → Mem s w.submissions → judge name w.host s reading ≡ (v, None) → IsCaused name w.host s reading v
caused_in name w s reading v i is e = cause_is name w.host s reading v i.legal (ends_spelled name w.host s i.text (i.sent s is).text) e

host_at_good : (name : Key) (w : World) (m : Option Submission) (reading : ℕ) → IsGood name w → ((s : Submission) → m ≡ Some s → Mem s w.submissions) → IsGood name (host_takes name w reading m)
host_at_good name w None reading i h = i
host_at_good name w (Some s) reading i h = host_good name w s (judge name w.host s reading).0 (judge name w.host s reading).1 i (h s refl) (judged_in name w s reading i (h s refl))

-- ---- snapshots and copies

shown_good : (name : Key) (w : World) (m : Option Point) → IsGood name w → ((p : Point) → m ≡ Some p → IsAt name w.host p) → IsGood name (shown w m)
shown_good name w None i h = i
shown_good name w (Some p) i h = record {
  legal = i.legal;
  deltas = i.deltas;
  answers = i.answers;
  replicas = i.replicas;
  sources = i.sources;
  snapshots = mem_more (IsAt name w.host) p w.snapshots (h p refl) i.snapshots;
  followers = i.followers;
  sent = i.sent;
  text = i.text;
}

-- what is absorbed is the delta more
pub record IsAbsorbed (name : Key) (r g : ReplicaOf) (d : DeltaOf) : Type 0 where
  pub head : Point
  pub is_head : replay (start name) r.deltas ≡ Some head
  pub starts : d.from ≡ head.at
  pub is : g ≡ grown_replica r d

absorbed_is : (name : Key) (r g : ReplicaOf) (d : DeltaOf) → absorb name r d ≡ Some g → IsAbsorbed name r g d
absorbed_is name r g d e =
    let x = and_then_some (replay (start name) r.deltas) (absorb_at r d) g e in
    let y = passed (same_version d.from x.0.at) (absorb_to r d x.0 (next_point x.0 d)) g x.2 in
    record { head = x.0; is_head = x.1; starts = same_version-is d.from x.0.at y.test; is = go x.0 (next_point x.0 d) y.rest }
  where
    go : (p : Point) (q : Option Point) → absorb_to r d p q ≡ Some g → g ≡ grown_replica r d
    go p None h = no_value h
    go p (Some q) h = sym (same_Some (passed (may_follow r.deltas d p q) (Some (grown_replica r d)) g h).rest)

absorb_begins : (name : Key) (h : List DeltaOf) (r g : ReplicaOf) (d : DeltaOf) → IsLegal name h → Mem d h → IsBegin r.deltas h → absorb name r d ≡ Some g → IsBegin g.deltas h
absorb_begins name h r g d l m b e =
    let x = absorbed_is name r g d e in
    let rest = find_at name h x.head d r.deltas b.0 l b.1 x.is_head m (ap (λ (a : VersionAt). a.version) x.starts) in
    subst (λ (v : ReplicaOf). IsBegin v.deltas h) (sym x.is) (rest.0, append_assoc r.deltas (d ∷ []) rest.0 ∙ ap (λ v. r.deltas ++ v) (sym rest.1) ∙ b.1)

queue_begins : (h : List DeltaOf) (r : ReplicaOf) (s : Submission) → IsBegin r.deltas h → IsBegin (queue r s).deltas h
queue_begins h r s b = go (has_id s.id r.deltas || is_waiting s.id r.waiting)
  where
    go : (t : Bool) → IsBegin (cond t r (record { deltas = r.deltas; waiting = r.waiting ++ s ∷ []; dropped = r.dropped })).deltas h
    go true = b
    go false = b

acked_good : (name : Key) (w : World) (i : IdOf) (m : Option Kept) → IsGood name w → ((k : Kept) → m ≡ Some k → IsKept name w.host i k) → IsGood name (acked w i m)
acked_good name w i None g h = g
acked_good name w i (Some k) g h = record {
  legal = g.legal;
  deltas = g.deltas;
  answers = mem_more (IsAnswer name w.host) (record { id = i; verdict = Ack k.at k.to }) w.answers answer g.answers;
  replicas = g.replicas;
  sources = g.sources;
  snapshots = g.snapshots;
  followers = g.followers;
  sent = g.sent;
  text = g.text;
}
  where
    answer : IsAnswer name w.host (record { id = i; verdict = Ack k.at k.to })
    answer at to e =
        let y = same_ack k.at at k.to to e in
        let same : k ≡ record { at = at; to = to } = λ j. record { at = y.0 j; to = y.1 j } in
        subst (IsKept name w.host i) same (h k refl)

-- what a copy keeps, the host keeps
replica_kept : (name : Key) (h r : List DeltaOf) (i : IdOf) (k : Kept) → IsLegal name h → IsBegin r h → kept i (start name) r ≡ Some k → IsKept name h i k
replica_kept name h r i k l b e =
    let l' : IsLegalFrom name [] (r ++ b.0) = subst (λ z. IsLegalFrom name [] z) (sym b.1) l in
    subst (λ z. IsKept name z i k) b.1 (kept_more name r b.0 i k (kept_is name r i k (legal_front name [] r b.0 l') e))

-- ---- every event

counted : (name : Key) (w u : World) (b : Bool) → IsGood name w → IsGood name u → IsGood name (cond b u w)
counted name w u true i j = j
counted name w u false i j = i

pub happens_good : (name : Key) (w : World) (e : Event) → IsGood name w → IsGood name (happens name w e)
happens_good name w (Starts k) i = starts_good name w k i _ refl
happens_good name w (Edits k acts t) i = counted name w _ (is_count (length acts)) i (to_good name w k _ i λ g e.
    let x = and_then_some (w.followers k) (λ f. result_ok (edit f acts)) g e in
    edit_follower name w.host w.submissions k x.0 g acts t (i.followers k x.0 x.1) (ok_some (edit x.0 acts) g x.2))
happens_good name w (Submitted k) i = submitted_good name w k _ i λ t e.
    let x = and_then_some (w.followers k) (λ f. result_ok (submit f)) t e in
    (x.0, i.followers k x.0 x.1, submitting_is x.0 t.1 t.0 (ok_some (submit x.0) t x.2))
happens_good name w (TakesDelta k which) i = to_good name w k _ i λ g e.
    let x = and_then_some (w.followers k) (λ f. option_map (λ d. (receive f d).1) (slice_get w.deltas which)) g e in
    let y = mapped (λ d. (receive x.0 d).1) (slice_get w.deltas which) g x.2 in
    let m = i.deltas y.value (mem_get w.deltas which y.value y.had) in
    subst (IsFollower name w.host w.submissions k) y.gives (receive_follower name w.host w.submissions k x.0 y.value i.legal m (i.text y.value m) (i.followers k x.0 x.1))
happens_good name w (TakesRefusal k which) i = to_good name w k _ i λ g e.
    let x = and_then_some (w.followers k) (λ f. option_map (λ a. take_answer f a) (slice_get w.answers which)) g e in
    let y = mapped (λ a. take_answer x.0 a) (slice_get w.answers which) g x.2 in
    subst (IsFollower name w.host w.submissions k) y.gives (answer_follower name w.host w.submissions k x.0 y.value (i.followers k x.0 x.1))
happens_good name w (TakesSnapshot k which) i = to_good name w k _ i λ g e.
    let x = and_then_some (w.followers k) (λ f. option_map (λ p. (take_snapshot f p).1) (slice_get w.snapshots which)) g e in
    let y = mapped (λ p. (take_snapshot x.0 p).1) (slice_get w.snapshots which) g x.2 in
    subst (IsFollower name w.host w.submissions k) y.gives (snapshot_follower name w.host w.submissions k x.0 y.value i.legal (i.snapshots y.value (mem_get w.snapshots which y.value y.had)) (i.followers k x.0 x.1))
happens_good name w (Drops k) i = to_good name w k _ i λ g e.
    let x = mapped dropped (w.followers k) g e in
    subst (IsFollower name w.host w.submissions k) x.gives (drop_follower name w.host w.submissions k x.value (i.followers k x.value x.had))
happens_good name w (Pools s t) i = pools_good name w s t i _ refl
happens_good name w (HostTakes which reading) i = host_at_good name w _ reading i λ s e. mem_get w.submissions which s e
happens_good name w HostSnapshot i = shown_good name w _ i λ p e. record { before = w.host; behind = []; whole = append-nil w.host; leads = e }
happens_good name w HostRestarts i = i
happens_good name w (Queues d which) i = to_replica_good name w d _ i λ r e.
    let x = mapped (queue (w.replicas d)) (slice_get w.submissions which) r e in
    subst (λ (z : ReplicaOf). IsBegin z.deltas w.host) x.gives (queue_begins w.host (w.replicas d) x.value (i.replicas d))
happens_good name w (Absorbs d which) i = to_replica_good name w d _ i λ r e.
    let x = and_then_some (slice_get w.deltas which) (absorb name (w.replicas d)) r e in
    absorb_begins name w.host (w.replicas d) r x.0 i.legal (i.deltas x.0 (mem_get w.deltas which x.0 x.1)) (i.replicas d) x.2
happens_good name w (Notes d which) i = to_replica_good name w d _ i λ r e.
    let x = mapped (λ (a : Answer). settle (w.replicas d) a.id) (slice_get w.answers which) r e in
    subst (λ (z : ReplicaOf). IsBegin z.deltas w.host) x.gives (i.replicas d)
happens_good name w (NotesDrop d) i = replica_good name w d _ i (i.replicas d)
happens_good name w (Restarts d) i = replica_good name w d empty_replica i (w.host, refl)
happens_good name w (ReplicaSnapshot d) i = shown_good name w _ i λ p e. record { before = (w.replicas d).deltas; behind = (i.replicas d).0; whole = (i.replicas d).1; leads = e }
happens_good name w (ReplicaAcks d j) i = acked_good name w j _ i λ k e. replica_kept name w.host (w.replicas d).deltas j k i.legal (i.replicas d) e
happens_good name w Cuts i = i
happens_good name w Opens i = i

pub all_good : (name : Key) (events : List Event) (w : World) → IsGood name w → IsGood name (world_after name events w)
all_good name [] w i = i
all_good name (e ∷ es) w i = all_good name es (happens name w e) (happens_good name w e i)

pub good : (name : Key) (events : List Event) → IsGood name (world_of name events)
good name events = all_good name events first_world (record {
  legal = tt;
  deltas = λ d m. absurd m;
  answers = λ a m. absurd m;
  replicas = λ d. ([], refl);
  sources = λ d m. absurd m;
  snapshots = λ p m. absurd m;
  followers = λ k f e. no_value e;
  sent = λ s m. absurd m;
  text = λ d m. absurd m;
})
