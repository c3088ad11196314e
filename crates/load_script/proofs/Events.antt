-- What a client does leads from one good world to another, in which its follower is another one and those of others are as before.
--     IsPooled w             each delta of the host's history is pooled
--     Leads w k h g          so it does: the host's history is h then, and the client's follower g
--     stays, on_to           nothing happens; one thing after the other
--     edit_leads, drop_leads, submit_leads, receive_leads     an edit, a drop, a submission with its answer, deltas in turn
use Rattle.std.proofs.Common.{◌≡◌, inl, inr, ℕ, true, false, cond, List, [], ◌∷◌, length, Option, None, Some, Ok, Err, slice_get, refl, sym, ap, subst, ◌∙◌, option_and_then}
use Rattle.std.specs.Option.{option_map}
use Rattle.std.specs.Result.{result_ok}
use Rattle.doc_items.specs.Maps.{Key}
use Rattle.wavelet_op.specs.Acts.{Act}
use Rattle.wavelet_op.specs.Deltas.{DeltaOf, is_count}
use Rattle.wavelet_op.specs.declared.delta.Submission.{Submission}
use Rattle.delta_history.specs.Laws.{IsJudged}
use Rattle.delta_history.specs.Verdicts.{Judged, judge}
use Rattle.follower_rules.specs.Followers.{ClientOf, same_client, FollowerOf, dropped}
use Rattle.follower_rules.specs.Receiving.{receive}
use Rattle.follower_rules.specs.Submitting.{Edited, edit, submit}
use Rattle.wave_world.specs.Texts.{AreTextActs}
use Rattle.wave_world.specs.Worlds.{Mem, Answer, World, Event, Edits, Submits, TakesDelta, TakesRefusal, Drops, HostTakes, set_follower, to_follower, pool, submitted, grown, pooled, take_answer, host_answers, happens}
use Rattle.wave_world.proofs.Clients.{same_client_is}
use Rattle.wave_world.proofs.Events.{IsGood, happens_good, judged_in}
use Rattle.wave_world.proofs.Members.{get_mem, mem_last}
use Rattle.load_script.specs.Edits.{unless_refused, changed}
use Rattle.load_script.specs.Exchanges.{received}

abbrev pub IsPooled : World → Type 0
IsPooled w = (d : DeltaOf) → Mem d w.host → Mem d w.deltas

pub record Leads (name : Key) (w : World) (k : ClientOf) (h : List DeltaOf) (g : FollowerOf) : Type 0 where
  pub after : World
  pub good : IsGood name after
  pub pooled : IsPooled after
  pub host : after.host ≡ h
  pub is : after.followers k ≡ Some g
  pub others : (j : ClientOf) → same_client k j ≡ false → after.followers j ≡ w.followers j

pub stays : (name : Key) (w : World) (k : ClientOf) (f : FollowerOf) → IsGood name w → IsPooled w → w.followers k ≡ Some f → Leads name w k w.host f
stays name w k f i p e = record { after = w; good = i; pooled = p; host = refl; is = e; others = λ j n. refl }

pub on_to : (name : Key) (w : World) (k : ClientOf) (h h' : List DeltaOf) (g g' : FollowerOf) → (a : Leads name w k h g) → Leads name a.after k h' g' → Leads name w k h' g'
on_to name w k h h' g g' a b = record { after = b.after; good = b.good; pooled = b.pooled; host = b.host; is = b.is; others = λ j n. b.others j n ∙ a.others j n }

-- the client's follower is another one
set_leads : (name : Key) (w : World) (k : ClientOf) (g : FollowerOf) → IsGood name (set_follower w k g) → IsPooled w → Leads name w k w.host g
set_leads name w k g i p = record {
  after = set_follower w k g;
  good = i;
  pooled = p;
  host = refl;
  is = ap (λ b. cond b (Some g) (w.followers k)) (same_client_is k k refl);
  others = λ j n. ap (λ b. cond b (Some g) (w.followers j)) n;
}

event_leads : (name : Key) (w : World) (k : ClientOf) (g : FollowerOf) (e : Event) → happens name w e ≡ set_follower w k g → IsGood name w → IsPooled w → Leads name w k w.host g
event_leads name w k g e is i p = set_leads name w k g (subst (IsGood name) is (happens_good name w e i)) p

-- ---- an edit, and a drop

pub edit_leads : (name : Key) (w : World) (k : ClientOf) (f : FollowerOf) (acts : List Act) → IsGood name w → IsPooled w → w.followers k ≡ Some f → is_count (length acts) ≡ true → AreTextActs acts → Leads name w k w.host (changed f acts)
unfolding changed
edit_leads name w k f acts i p e c t = go (edit f acts) refl
  where
    to : Option FollowerOf → World
    to o = to_follower w k (option_and_then (λ g. result_ok (edit g acts)) o)

    go : (r : Edited) → edit f acts ≡ r → Leads name w k w.host (unless_refused f r)
    go (Err fault) q = stays name w k f i p e
    go (Ok g) q = event_leads name w k g (Edits k acts t) (ap (λ b. cond b (to (w.followers k)) w) c ∙ ap (λ o. to_follower w k (option_and_then (λ z. result_ok (edit z acts)) o)) e ∙ ap (λ r. to_follower w k (result_ok r)) q) i p

pub drop_leads : (name : Key) (w : World) (k : ClientOf) (f : FollowerOf) → IsGood name w → IsPooled w → w.followers k ≡ Some f → Leads name w k w.host (dropped f)
drop_leads name w k f i p e = event_leads name w k (dropped f) (Drops k) (ap (λ o. to_follower w k (option_map dropped o)) e) i p

-- ---- deltas

pub receive_leads : (name : Key) (w : World) (k : ClientOf) (f : FollowerOf) (ds : List DeltaOf) → IsGood name w → IsPooled w → w.followers k ≡ Some f → ((d : DeltaOf) → Mem d ds → Mem d w.host) → Leads name w k w.host (received f ds)
receive_leads name w k f [] i p e m = stays name w k f i p e
receive_leads name w k f (d ∷ ds) i p e m =
    let at = get_mem w.deltas d (p d (m d (inl refl))) in
    let one : Leads name w k w.host (receive f d).1 = event_leads name w k (receive f d).1 (TakesDelta k at.0) (ap (λ o. to_follower w k (option_and_then (λ z. option_map (λ x. (receive z x).1) (slice_get w.deltas at.0)) o)) e ∙ ap (λ o. to_follower w k (option_map (λ x. (receive f x).1) o)) at.1) i p in
    let there : (x : DeltaOf) → Mem x ds → Mem x one.after.host = λ x n. subst (λ h. Mem x h) (sym one.host) (m x (inr n)) in
    let rest = receive_leads name one.after k (receive f d).1 ds one.good one.pooled one.is there in
    on_to name w k w.host w.host (receive f d).1 (received f (d ∷ ds)) one (subst (λ h. Leads name one.after k h (received f (d ∷ ds))) one.host rest)

-- ---- a submission

grown_pooled : (h ds : List DeltaOf) (m : Option DeltaOf) → ((d : DeltaOf) → Mem d h → Mem d ds) → (d : DeltaOf) → Mem d (grown h m) → Mem d (pooled ds m)
grown_pooled h ds None p = p
grown_pooled h ds (Some x) p = mem_last (λ d. Mem d (x ∷ ds)) x h (inl refl) (λ d n. inr (p d n))

pub none_leads : (name : Key) (w : World) (k : ClientOf) (f g : FollowerOf) → IsGood name w → IsPooled w → w.followers k ≡ Some f → submit f ≡ Ok (None, g) → Leads name w k w.host g
none_leads name w k f g i p e q = event_leads name w k g (Submits k) (ap (λ o. submitted w k (option_and_then (λ z. result_ok (submit z)) o)) e ∙ ap (λ r. submitted w k (result_ok r)) q) i p

-- the answer to a submission at a history
abbrev pub answer_to : Submission → Judged → Answer
answer_to s j = record { id = s.id; verdict = j.0 }

pub submit_leads : (name : Key) (w : World) (k : ClientOf) (f g : FollowerOf) (s : Submission) (t : ℕ) → IsGood name w → IsPooled w → w.followers k ≡ Some f → submit f ≡ Ok (Some s, g)
    → Leads name w k (grown w.host (judge name w.host s t).1) (take_answer g (answer_to s (judge name w.host s t))) × IsJudged name w.host s (judge name w.host s t)
submit_leads name w k f g s t i p e q = (
  record {
    after = last;
    good = good3;
    pooled = grown_pooled w.host w.deltas j.1 p;
    host = refl;
    is = ap (λ b. cond b (Some (take_answer g (answer_to s j))) (w1.followers k)) (same_client_is k k refl);
    others = λ at n. ap (λ b. cond b (Some (take_answer g (answer_to s j))) (w1.followers at)) n ∙ ap (λ b. cond b (Some g) (w.followers at)) n;
  },
  judged_in name w1 s t good1 (inl refl),
)
  where
    j : Judged
    j = judge name w.host s t

    w1 : World
    w1 = set_follower (pool w (Some s)) k g

    good1 : IsGood name w1
    good1 = subst (IsGood name) (ap (λ o. submitted w k (option_and_then (λ z. result_ok (submit z)) o)) e ∙ ap (λ r. submitted w k (result_ok r)) q) (happens_good name w (Submits k) i)

    w2 : World
    w2 = host_answers w1 s j

    good2 : IsGood name w2
    good2 = happens_good name w1 (HostTakes 0 t) good1

    last : World
    last = set_follower w2 k (take_answer g (answer_to s j))

    mine : w2.followers k ≡ Some g
    mine = ap (λ b. cond b (Some g) (w.followers k)) (same_client_is k k refl)

    good3 : IsGood name last
    good3 = subst (IsGood name) (ap (λ o. to_follower w2 k (option_and_then (λ z. option_map (λ a. take_answer z a) (slice_get w2.answers 0)) o)) mine) (happens_good name w2 (TakesRefusal k 0) good2)
