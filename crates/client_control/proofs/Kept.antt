-- What each call keeps.
--     new_kept, dropped_kept, snapshot_kept, edited_kept, submitted_kept
use Rattle.std.proofs.Common.{◌≡◌, ◌≢◌, ℕ, suc, ◌+◌, ◌<◌, ◌≤◌, Bool, true, false, cond, nat_le, nat_lt, List, [], ◌∷◌, ◌++◌, map, drop, Option, None, Some, is_some, Ok, Err, IfSome, refl, sym, ap, subst, ◌∙◌, arith, append_assoc}
use Rattle.std.specs.List.{All}
use Rattle.std.specs.Option.{option_map}
use Rattle.std.proofs.lemmas.Bool.Decides.{nat_tests}
use Rattle.std.proofs.lemmas.List.{map-append}
use Rattle.std.proofs.lemmas.List.Elements.{All-cons, All-nil, All-append, All-drop}
use Rattle.wavelet_op.proofs.Passes.{split_first}
use Rattle.doc_items.specs.Limits.{max_count}
use Rattle.doc_items.specs.Maps.{Key}
use Rattle.wave_base.specs.Versions.{VersionAt}
use Rattle.wave_hash.specs.Chain.{zero_hash_of}
use Rattle.wavelet_op.specs.Acts.{Act, meanings, inserted, AreNormal}
use Rattle.wavelet_op.specs.States.{State, empty_state, run}
use Rattle.wavelet_op.specs.declared.delta.Submission.{Submission}
use Rattle.wavelet_op.specs.declared.op.WaveletOp.{WaveletOp}
use Rattle.wavelet_state.specs.Parts.{item_count}
use Rattle.wavelet_state.specs.Snapshots.{max_inserted}
use Rattle.delta_history.specs.Points.{Point}
use Rattle.delta_history.proofs.Points.{and_then_is}
use Rattle.follower_rules.specs.declared.fault.FollowerFault.{FollowerFault}
use Rattle.follower_rules.specs.declared.fault.FollowerFault.TheVariants.{OpInvalid, EditFull, TooBig, NumbersSpent, Memory}
use Rattle.follower_rules.specs.declared.taken.Taken.TheVariants.{Pending, Old, Took}
use Rattle.follower_rules.specs.Followers.{ClientOf, FollowerOf, run_all, inserted_all, flying, pending, screen, moved, take_newer, take_settled, take_snapshot}
use Rattle.follower_rules.specs.Laws.{IsSound}
use Rattle.follower_rules.specs.Submitting.{is_short, IsFault, queued, edit_short, edit_held, edit_run, edit_shown, edit_within, gather, sent_by, submitting, take_numbered, take_gathered, take_queued, take_unless, submit}
use Rattle.follower_rules.proofs.Advances.{ops_back}
use Rattle.follower_rules.proofs.Gathers.{IsSubmitting, submitting_is_sound}
use Rattle.follower_rules.proofs.Rebases.{inserted_all_append}
use Rattle.follower_rules.proofs.Sounds.{new_is_sound, edit_is_sound, dropped_is_sound}
use Rattle.client_control.specs.declared.flight.InFlight.{InFlight}
use Rattle.client_control.specs.declared.joining.Joint.{Joint}
use Rattle.client_control.specs.Parts.{Parts, parts, flight_of, follower_of, settled, IsKept}
use Rattle.client_control.specs.Joins.{IsGathered}
use Rattle.client_control.specs.Steps.{IsTried}
use Rattle.client_control.proofs.Pending.{settled_none, settled_screen}
use Rattle.client_control.proofs.Small.{items_small}

pub true_le : (a b : ℕ) → a ≤ b → nat_le a b ≡ true
true_le a b h = grind (arith, nat_tests)

false_le : (a b : ℕ) → b < a → nat_le a b ≡ false
false_le a b h = grind (arith, nat_tests)

true_lt : (a b : ℕ) → a < b → nat_lt a b ≡ true
true_lt a b h = grind (arith, nat_tests)

false_lt : (a b : ℕ) → b ≤ a → nat_lt a b ≡ false
false_lt a b h = grind (arith, nat_tests)

pub few : (a b : ℕ) → nat_lt a b ≡ false → b ≤ a
few a b h = grind (arith, nat_tests)

-- ---- a new follower

pub new_kept : (name author : Key) (client : ℕ) (at : VersionAt) (state : State) (queue : List (List WaveletOp)) (shown : State) → client ≤ max_count → at ≡ record { version = 0; hash = zero_hash_of name } → state ≡ empty_state → queue ≡ [] → shown ≡ empty_state → IsKept (parts name author client at 0 state None queue 1) 0 (Some shown)
new_kept name author client at state queue shown c a e q s =
    let k : ClientOf = record { author = author; client = client } in
    let first : VersionAt = record { version = 0; hash = zero_hash_of name } in
    let start : IsKept (parts name author client first 0 empty_state None [] 1) 0 (Some empty_state) = record {
      sound = new_is_sound name k;
      flight_normal = tt;
      queue_normal = All-nil AreNormal;
      held = refl;
      shown = refl;
      client = c;
      next = omega arith;
    } in
    subst (λ z. IsKept (parts name author client z 0 state None queue 1) 0 (Some shown)) (sym a) (subst (λ z. IsKept (parts name author client first 0 z None queue 1) 0 (Some shown)) (sym e) (subst (λ z. IsKept (parts name author client first 0 empty_state None z 1) 0 (Some shown)) (sym q) (subst (λ z. IsKept (parts name author client first 0 empty_state None [] 1) 0 (Some z)) (sym s) start)))

-- ---- what is dropped

abbrev pub dropped_parts : Parts → List (List WaveletOp) → Parts
dropped_parts p queue = parts p.name p.client.author p.client.client p.here.at p.here.count p.here.state None queue p.next

kept_screen : (f : FollowerOf) (shown : Option State) → pending f ≡ [] → IfSome shown (λ s. screen f ≡ Some s) → IfSome shown (λ s. Some f.here.state ≡ Some s)
kept_screen f None e h = tt
kept_screen f (Some s) e h = sym (settled_screen f e) ∙ h

pub dropped_kept : (p : Parts) (count : ℕ) (shown now : Option State) (queue : List (List WaveletOp)) (b : Bool) → IsKept p count shown → b ≡ settled (pending (follower_of p)) → now ≡ cond b shown None → queue ≡ [] → IsKept (dropped_parts p queue) 0 now
dropped_kept p count shown now queue b k e n q =
    let fits : IfSome now (λ s. Some p.here.state ≡ Some s) = subst (λ z. IfSome z (λ s. Some p.here.state ≡ Some s)) (sym n) (go b e) in
    let all : IsKept (dropped_parts p []) 0 now = record {
      sound = dropped_is_sound (follower_of p) k.sound;
      flight_normal = tt;
      queue_normal = All-nil AreNormal;
      held = refl;
      shown = fits;
      client = k.client;
      next = k.next;
    } in
    subst (λ z. IsKept (dropped_parts p z) 0 now) (sym q) all
  where
    go : (c : Bool) → c ≡ settled (pending (follower_of p)) → IfSome (cond c shown None) (λ s. Some p.here.state ≡ Some s)
    go true f = kept_screen (follower_of p) shown (settled_none (pending (follower_of p)) (sym f)) k.shown
    go false f = tt

-- ---- a snapshot

abbrev pub moved_parts : Parts → VersionAt → ℕ → State → Parts
moved_parts p at count state = parts p.name p.client.author p.client.client at count state p.flight p.queue p.next

pub snapshot_kept : (p : Parts) (count : ℕ) (shown : Option State) (at : VersionAt) (n : ℕ) (s : State) → IsKept p count shown → settled (pending (follower_of p)) ≡ true → n ≤ max_inserted → item_count s.documents ≤ n → IsKept (moved_parts p at n s) count None
snapshot_kept p count shown at n s k e b i =
    let f = follower_of p in
    let none : pending f ≡ [] = settled_none (pending f) e in
    record {
      sound = record { place = record { count = b; small = items_small n s i }; shown = s; is_shown = ap (run_all s) none; held = k.sound.held };
      flight_normal = k.flight_normal;
      queue_normal = k.queue_normal;
      held = k.held;
      shown = tt;
      client = k.client;
      next = k.next;
    }

pub snapshot_pending : (f : FollowerOf) (p : Point) → settled (pending f) ≡ false → take_snapshot f p ≡ (Pending, f)
snapshot_pending f p e = go (pending f) e
  where
    go : (es : List (List Act)) → settled es ≡ false → take_settled f p es ≡ (Pending, f)
    go [] h = absurd (cc)
    go (x ∷ xs) h = refl

pub snapshot_old : (f : FollowerOf) (p : Point) → settled (pending f) ≡ true → p.at.version ≤ f.here.at.version → take_snapshot f p ≡ (Old, f)
snapshot_old f p e h = ap (take_settled f p) (settled_none (pending f) e) ∙ ap (take_newer f p) (false_lt _ _ h)

pub snapshot_took : (f : FollowerOf) (p : Point) → settled (pending f) ≡ true → f.here.at.version < p.at.version → take_snapshot f p ≡ (Took, moved f p f.flight f.queue)
snapshot_took f p e h = ap (take_settled f p) (settled_none (pending f) e) ∙ ap (take_newer f p) (true_lt _ _ h)

-- ---- an edit

abbrev pub longer_parts : Parts → List WaveletOp → Parts
longer_parts p ops = parts p.name p.client.author p.client.client p.here.at p.here.count p.here.state p.flight (p.queue ++ ops ∷ []) p.next

edit_ran : (most : ℕ) (f : FollowerOf) (acts : List Act) (s : State) → screen f ≡ Some s → edit_within most f acts ≡ edit_run most f acts s (run s acts)
edit_ran most f acts s e = ap (edit_shown most f acts) e

pub edit_done : (most : ℕ) (f : FollowerOf) (acts : List Act) (s t : State) → screen f ≡ Some s → run s acts ≡ Some t → inserted_all (pending f) + inserted acts ≤ most → is_short acts ≡ true → edit_within most f acts ≡ Ok (queued f acts)
edit_done most f acts s t e r h k = edit_ran most f acts s e ∙ ap (edit_run most f acts s) r ∙ ap (edit_held f acts) (true_le _ _ h) ∙ ap (edit_short f acts) k

queued_is : (p : Parts) (ops : List WaveletOp) → queued (follower_of p) (meanings ops) ≡ follower_of (longer_parts p ops)
queued_is p ops = ap (λ z. moved (follower_of p) p.here (option_map flight_of p.flight) z) (sym (map-append meanings p.queue (ops ∷ [])))

pub edit_kept : (p : Parts) (count : ℕ) (shown : Option State) (s t : State) (ops : List WaveletOp) (acts : List Act) → IsKept p count shown → AreNormal ops → meanings ops ≡ acts → screen (follower_of p) ≡ Some s → run s acts ≡ Some t → count + inserted acts ≤ max_inserted → is_short acts ≡ true → IsKept (longer_parts p ops) (count + inserted acts) (Some t)
edit_kept p count shown s t ops acts k n m e r h b = subst (λ z. IsKept (longer_parts p ops) (count + inserted z) (Some t)) m (all (subst (λ z. run s z ≡ Some t) (sym m) r) (subst (λ z. count + inserted z ≤ max_inserted) (sym m) h) (subst (λ z. is_short z ≡ true) (sym m) b))
  where
    all : run s (meanings ops) ≡ Some t → count + inserted (meanings ops) ≤ max_inserted → is_short (meanings ops) ≡ true → IsKept (longer_parts p ops) (count + inserted (meanings ops)) (Some t)
    all r h b =
        let f = follower_of p in
        let done = edit_done max_inserted f (meanings ops) s t e r (omega (arith, k.held, h)) b in
        let x = edit_is_sound f (queued f (meanings ops)) (meanings ops) k.sound done in
        let q = queued_is p ops in
        let longer : pending (queued f (meanings ops)) ≡ pending f ++ meanings ops ∷ [] = sym (append_assoc (flying f.flight) f.queue (meanings ops ∷ [])) in
        let sum : inserted_all (pending (queued f (meanings ops))) ≡ inserted_all (pending f) + inserted_all (meanings ops ∷ []) = ap inserted_all longer ∙ inserted_all_append (pending f) (meanings ops ∷ []) in
        let items : inserted_all (pending (follower_of (longer_parts p ops))) ≡ inserted_all (pending (queued f (meanings ops))) = ap (λ z. inserted_all (pending z)) (sym q) in
        record {
          sound = subst IsSound q x.0;
          flight_normal = k.flight_normal;
          queue_normal = All-append AreNormal p.queue (ops ∷ []) k.queue_normal (All-cons AreNormal ops [] n (All-nil AreNormal));
          held = omega (arith, sum, items, k.held);
          shown = ap screen (sym q) ∙ x.1 ∙ and_then_is (screen f) (λ z. run z (meanings ops)) s e ∙ r;
          client = k.client;
          next = k.next;
        }

pub edit_answer : (most : ℕ) (p : Parts) (s t : State) (ops : List WaveletOp) (acts : List Act) → meanings ops ≡ acts → screen (follower_of p) ≡ Some s → run s acts ≡ Some t → inserted_all (pending (follower_of p)) + inserted acts ≤ most → is_short acts ≡ true → edit_within most (follower_of p) acts ≡ Ok (follower_of (longer_parts p ops))
edit_answer most p s t ops acts m e r h b = edit_done most (follower_of p) acts s t e r h b ∙ ap Ok (ap (queued (follower_of p)) (sym m) ∙ queued_is p ops)

pub edit_refused : (most : ℕ) (f : FollowerOf) (acts : List Act) (s : State) (full short : Bool) (e : FollowerFault) → screen f ≡ Some s → full ≡ nat_lt most (inserted_all (pending f) + inserted acts) → short ≡ is_short acts → IsTried s acts full short e → IsFault (edit_within most f acts) e
edit_refused most f acts s full short (OpInvalid k) e a b t = edit_ran most f acts s e ∙ ap (edit_run most f acts s) t.0 ∙ ap (λ z. Err (OpInvalid z)) (sym t.1)
edit_refused most f acts s full short EditFull e a b t = edit_ran most f acts s e ∙ go (run s acts) t.0
  where
    many : nat_le (inserted_all (pending f) + inserted acts) most ≡ false
    many = (let h : nat_lt most (inserted_all (pending f) + inserted acts) ≡ true = sym a ∙ t.1 in grind (arith, nat_tests))

    go : (o : Option State) → o ≢ None → edit_run most f acts s o ≡ Err EditFull
    go None n = absurd (n refl)
    go (Some t') n = ap (edit_held f acts) many
edit_refused most f acts s full short TooBig e a b t = edit_ran most f acts s e ∙ go (run s acts) t.0
  where
    few : nat_le (inserted_all (pending f) + inserted acts) most ≡ true
    few = (let h : nat_lt most (inserted_all (pending f) + inserted acts) ≡ false = sym a ∙ t.1 in grind (arith, nat_tests))

    go : (o : Option State) → o ≢ None → edit_run most f acts s o ≡ Err TooBig
    go None n = absurd (n refl)
    go (Some t') n = ap (edit_held f acts) few ∙ ap (edit_short f acts) (sym b ∙ t.2)
edit_refused most f acts s full short NumbersSpent e a b t = absurd t
edit_refused most f acts s full short Memory e a b t = tt

-- ---- a submission

abbrev pub flying_parts : Parts → InFlight → List (List WaveletOp) → Parts
flying_parts p g queue = parts p.name p.client.author p.client.client p.here.at p.here.count p.here.state (Some g) queue (p.next + 1)

pub sent_is : (p : Parts) (ops : List WaveletOp) → AreNormal ops → sent_by (follower_of p) (meanings ops) ≡ record { id = record { author = p.client.author; client = p.client.client; number = p.next }; at = p.here.at; ops = ops }
sent_is p ops n = λ i. record { id = record { author = p.client.author; client = p.client.client; number = p.next }; at = p.here.at; ops = ops_back ops n i }

-- what is known where a submission is taken
pub record IsTaking (p : Parts) (first : List WaveletOp) (rest : List (List WaveletOp)) (g : Joint) (sent : Submission) : Type 0 where
  pub none : p.flight ≡ None
  pub queue : p.queue ≡ first ∷ rest
  pub gathered : IsGathered first rest g
  pub next : p.next ≤ max_count
  pub is_sent : sent ≡ sent_by (follower_of p) (meanings g.ops)

submitting_of : (p : Parts) (first : List WaveletOp) (rest : List (List WaveletOp)) (g : Joint) (sent : Submission) → IsTaking p first rest g sent → follower_of (flying_parts p (record { sent = sent; ops = g.ops }) (drop g.entries rest)) ≡ submitting (follower_of p) (meanings g.ops, map meanings (drop g.entries rest))
submitting_of p first rest g sent t =
    let n : p.next + 1 ≡ suc p.next = omega arith in
    λ i. record { name = p.name; client = p.client; here = p.here; flight = Some (record { sent = t.is_sent i; acts = meanings g.ops }); queue = map meanings (drop g.entries rest); next = n i }

taking_is : (p : Parts) (first : List WaveletOp) (rest : List (List WaveletOp)) (g : Joint) (sent : Submission) → IsTaking p first rest g sent → IsSubmitting (follower_of p) (Some sent) (follower_of (flying_parts p (record { sent = sent; ops = g.ops }) (drop g.entries rest)))
taking_is p first rest g sent t = record {
  entry = meanings first;
  rest = map meanings rest;
  taken = (meanings g.ops, map meanings (drop g.entries rest));
  none = ap (option_map flight_of) t.none;
  is_queue = ap (map meanings) t.queue;
  is_taken = t.gathered.is;
  numbered = t.next;
  is_sent = ap Some t.is_sent;
  is_after = submitting_of p first rest g sent t;
}

pub taking_answer : (p : Parts) (first : List WaveletOp) (rest : List (List WaveletOp)) (g : Joint) (sent : Submission) → IsTaking p first rest g sent → submit (follower_of p) ≡ Ok (Some sent, follower_of (flying_parts p (record { sent = sent; ops = g.ops }) (drop g.entries rest)))
taking_answer p first rest g sent t =
    let f = follower_of p in
    let x = taking_is p first rest g sent t in
    ap (take_unless f) x.none ∙ ap (take_queued f) x.is_queue ∙ ap (take_gathered f) x.is_taken ∙ ap (take_numbered f x.taken) (true_le _ _ t.next) ∙ (λ i. Ok (sym x.is_sent i, sym x.is_after i))

all_drop : (n : ℕ) (xs : List (List WaveletOp)) → All AreNormal xs → All AreNormal (drop n xs)
all_drop n xs h = All-drop AreNormal n xs h

-- few items, before all is put together
pub taking_room : (p : Parts) (count : ℕ) (shown : Option State) (first : List WaveletOp) (rest : List (List WaveletOp)) (g : Joint) (sent : Submission) → IsKept p count shown → IsTaking p first rest g sent → inserted (meanings g.ops) + inserted_all (map meanings (drop g.entries rest)) ≤ max_inserted
taking_room p count shown first rest g sent k t = (submitting_is_sound (follower_of p) (follower_of (flying_parts p (record { sent = sent; ops = g.ops }) (drop g.entries rest))) (Some sent) k.sound (taking_is p first rest g sent t)).sound.held

pub taking_kept : (p : Parts) (count now : ℕ) (shown : Option State) (first : List WaveletOp) (rest queue : List (List WaveletOp)) (g : Joint) (sent : Submission) → IsKept p count shown → IsTaking p first rest g sent → queue ≡ drop g.entries rest → now ≡ inserted (meanings g.ops) + inserted_all (map meanings queue) → IsKept (flying_parts p (record { sent = sent; ops = g.ops }) queue) now shown
taking_kept p count now shown first rest queue g sent k t q n =
    let x = submitting_is_sound (follower_of p) (follower_of (flying_parts p (record { sent = sent; ops = g.ops }) (drop g.entries rest))) (Some sent) k.sound (taking_is p first rest g sent t) in
    let tail : All AreNormal (first ∷ rest) = subst (All AreNormal) t.queue k.queue_normal in
    let held : now ≡ inserted (meanings g.ops) + inserted_all (map meanings (drop g.entries rest)) = n ∙ ap (λ z. inserted (meanings g.ops) + inserted_all (map meanings z)) q in
    let all : IsKept (flying_parts p (record { sent = sent; ops = g.ops }) (drop g.entries rest)) now shown = record {
      sound = x.sound;
      flight_normal = t.gathered.normal;
      queue_normal = all_drop g.entries rest (split_first AreNormal first rest tail).1;
      held = held;
      shown = same shown x.same k.shown;
      client = k.client;
      next = omega (arith, t.next);
    } in
    subst (λ z. IsKept (flying_parts p (record { sent = sent; ops = g.ops }) z) now shown) (sym q) all
  where
    same : {o m : Option State} (s : Option State) → m ≡ o → IfSome s (λ z. o ≡ Some z) → IfSome s (λ z. m ≡ Some z)
    same None e h = tt
    same (Some s) e h = e ∙ h

-- where none is taken
pub submit_flying : (p : Parts) (g : InFlight) → p.flight ≡ Some g → submit (follower_of p) ≡ Ok (None, follower_of p)
submit_flying p g e = ap (λ z. take_unless (follower_of p) (option_map flight_of z)) e

pub submit_empty : (p : Parts) → p.flight ≡ None → p.queue ≡ [] → submit (follower_of p) ≡ Ok (None, follower_of p)
submit_empty p e q = ap (λ z. take_unless (follower_of p) (option_map flight_of z)) e ∙ ap (λ z. take_queued (follower_of p) (map meanings z)) q

pub submit_big : (p : Parts) (first : List WaveletOp) (rest : List (List WaveletOp)) → p.flight ≡ None → p.queue ≡ first ∷ rest → gather (meanings first) (map meanings rest) ≡ None → submit (follower_of p) ≡ Err TooBig
submit_big p first rest e q g = ap (λ z. take_unless (follower_of p) (option_map flight_of z)) e ∙ ap (λ z. take_queued (follower_of p) (map meanings z)) q ∙ ap (take_gathered (follower_of p)) g

pub submit_spent : (p : Parts) (first : List WaveletOp) (rest : List (List WaveletOp)) (g : Joint) → p.flight ≡ None → p.queue ≡ first ∷ rest → IsGathered first rest g → max_count < p.next → submit (follower_of p) ≡ Err NumbersSpent
submit_spent p first rest g e q h n = ap (λ z. take_unless (follower_of p) (option_map flight_of z)) e ∙ ap (λ z. take_queued (follower_of p) (map meanings z)) q ∙ ap (take_gathered (follower_of p)) h.is ∙ ap (take_numbered (follower_of p) (meanings g.ops, map meanings (drop g.entries rest))) (false_le _ _ n)

-- ---- what the code finds

pub none_if : {A : Type 0} (o : Option A) → is_some o ≡ false → o ≡ None
none_if None e = refl
none_if (Some x) e = absurd (cc)

pub drop_next : (n : ℕ) (x : List WaveletOp) (xs : List (List WaveletOp)) → drop (n + 1) (x ∷ xs) ≡ drop n xs
drop_next n x xs = (let e : n + 1 ≡ suc n = omega arith in ap (λ m. drop m (x ∷ xs)) e)

pub copied_kept : (p q : Parts) (count : ℕ) (shown : Option State) → IsKept p count shown → p ≡ q → IsKept q count None
copied_kept p q count shown k e = subst (λ z. IsKept z count None) e (record { sound = k.sound; flight_normal = k.flight_normal; queue_normal = k.queue_normal; held = k.held; shown = tt; client = k.client; next = k.next })
