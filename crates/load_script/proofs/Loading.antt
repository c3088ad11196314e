-- Behind a load each follower's screen is the host's state.
--     each_shows
use Rattle.std.proofs.Common.{◌≡◌, ℕ, zero, suc, ◌-◌, List, [], ◌∷◌, ◌++◌, length, map, Option, None, Some, Ok, Err, slice_get, refl, sym, ap, subst, ◌∙◌, arith, unwrap_or, length-append}
use Rattle.std.specs.Option.{option_map_or}
use Rattle.std.specs.List.{All}
use Rattle.std.proofs.lemmas.Option.{slice_get-get_or}
use Rattle.doc_items.specs.Maps.{Key}
use Rattle.doc_items.specs.declared.item.Content.{Content}
use Rattle.doc_items.specs.declared.item.Content.TheVariants.{Character, Start, End}
use Rattle.doc_items.specs.declared.item.Item.{Item}
use Rattle.doc_op.specs.Actions.{Action}
use Rattle.doc_op.proofs.Applying.{no_value, same_Some}
use Rattle.op_build.specs.Plans.{erasing}
use Rattle.wavelet_op.specs.Acts.{Act, Adds, Mutates}
use Rattle.wavelet_op.specs.Deltas.{DeltaOf}
use Rattle.delta_history.specs.Points.{Point, start, replay, end_of}
use Rattle.follower_rules.specs.Followers.{ClientOf, Flight, FollowerOf, new_follower, run_all, flying, pending}
use Rattle.follower_rules.specs.Submitting.{Edited, edit}
use Rattle.follower_rules.proofs.Sounds.{edited_is}
use Rattle.wave_world.specs.Texts.{AreTextActs, AreTextsIn}
use Rattle.wave_world.specs.Worlds.{Mem, World, Event, Starts, world_of}
use Rattle.wave_world.proofs.Events.{IsGood, good}
use Rattle.load_script.specs.Draws.{next, drawn}
use Rattle.load_script.specs.Edits.{letters, unless_refused, changed, mutated, erasure_of, erasure, erased, invited, types, erases_one, erases}
use Rattle.load_script.specs.Exchanges.{meeting, caught_up, level, exchanged}
use Rattle.load_script.specs.Loads.{Load, client, first, each, founding, founded, choice_of, edited, turned, with_draws, step, steps, settles, loaded, Shows}
use Rattle.load_script.specs.declared.choice.Choice.{Choice}
use Rattle.load_script.specs.declared.choice.Choice.TheVariants.{Types, Erases, Exchanges}
use Rattle.load_script.specs.Names.{the_wavelet, the_document, user0, user1, user2, user3, users}
use Rattle.load_script.proofs.Catching.{IsCaughtUp}
use Rattle.load_script.proofs.Events.{IsPooled, stays, edit_leads, on_to}
use Rattle.load_script.proofs.Exchanging.{IsIdle, IsExchanged, level_leads, caught, exchange_leads, settling_leads, none_pending}
use Rattle.load_script.proofs.Followers.{IsHeld, IsMoved, Moves, moved_held, each_held}
use Rattle.load_script.proofs.Screens.{letters_are}
use Rattle.load_script.proofs.Texts.{shown_texts, typing_text, erasing_text, inviting_text}

-- of each host
abbrev Any : List DeltaOf → Type 0
Any h = Unit {0}

-- ---- edits

pending_idle : (f : FollowerOf) → f.flight ≡ None → pending f ≡ f.queue
pending_idle f e = ap (λ m. flying m ++ f.queue) e

changed_idle : (n : ℕ) (f : FollowerOf) (acts : List Act) → IsIdle n f → IsIdle (suc n) (changed f acts)
unfolding changed
changed_idle n f acts idle = go (edit f acts) refl
  where
    go : (r : Edited) → edit f acts ≡ r → IsIdle (suc n) (unless_refused f r)
    go (Err e) q = record { none = idle.none; few = omega (arith, idle.few) }
    go (Ok g) q = subst (IsIdle (suc n)) (edited_is f g acts q) (record { none = idle.none; few = omega (arith, length-append f.queue (acts ∷ []), idle.few) })

letters_text : (w : World) (k : ClientOf) (f : FollowerOf) → IsGood the_wavelet w → w.followers k ≡ Some f → (i : Item) → Mem i (letters f) → AreTextsIn i.notes
letters_text w k f g e i m =
    let c = g.followers k f e in
    shown_texts the_wavelet w.host w.submissions k f g.text c the_document i (subst (λ z. Mem i z) (letters_are f c.sound.shown c.sound.is_shown) m)

-- an edit by one act
edit_moves : (n : ℕ) (w : World) (k : ClientOf) (f : FollowerOf) (acts : List Action) → IsGood the_wavelet w → IsPooled w → w.followers k ≡ Some f → AreTextActs (Mutates the_document acts ∷ []) → IsIdle n f → IsMoved Any (IsIdle (suc n)) w k (meeting w.host (mutated f acts))
edit_moves n w k f acts i p e t idle = record { leads = edit_leads the_wavelet w k f (Mutates the_document acts ∷ []) i p e refl t; kept = tt; holds = changed_idle n f (Mutates the_document acts ∷ []) idle }

types_moves : (n x : ℕ) → Moves Any (IsIdle n) (IsIdle (suc n)) (λ c. (edited c (types x c.follower)).1)
unfolding types
types_moves n x w k f i p e u idle = edit_moves n w k f _ i p e (typing_text (letters f) _ _ (letters_text w k f i e)) idle

less : (n : ℕ) (f : FollowerOf) → IsIdle n f → IsIdle (suc n) f
less n f idle = record { none = idle.none; few = omega (arith, idle.few) }

erased_moves : (n place : ℕ) (w : World) (k : ClientOf) (f : FollowerOf) → IsGood the_wavelet w → IsPooled w → w.followers k ≡ Some f → IsIdle n f → IsMoved Any (IsIdle (suc n)) w k (meeting w.host (erased f place))
erased_moves n place w k f i p e idle = by_item (slice_get (letters f) place)
  where
    same : IsMoved Any (IsIdle (suc n)) w k (meeting w.host f)
    same = record { leads = stays the_wavelet w k f i p e; kept = tt; holds = less n f idle }

    by_content : (c : Content) → IsMoved Any (IsIdle (suc n)) w k (meeting w.host (option_map_or (mutated f) (erasure_of (letters f) place c) f))
    by_content (Character c) = edit_moves n w k f (erasing (letters f) place 1) i p e (erasing_text (letters f) place) idle
    by_content (Start kind attributes) = same
    by_content End = same

    by_item : (o : Option Item) → IsMoved Any (IsIdle (suc n)) w k (meeting w.host (option_map_or (mutated f) (erasure (letters f) place o) f))
    by_item None = same
    by_item (Some x) = by_content x.content

erases_moves : (n x : ℕ) → Moves Any (IsIdle n) (IsIdle (suc n)) (λ c. (edited c (erases x c.follower)).1)
unfolding erases
erases_moves n x w k f i p e u idle = go (length (letters f))
  where
    go : (m : ℕ) → IsMoved Any (IsIdle (suc n)) w k (meeting w.host (erases_one x f m).1)
    go zero = types_moves n x w k f i p e tt idle
    go (suc m) = erased_moves n (drawn (suc m) x) w k f i p e idle

-- ---- turns

exchange_moves : (n t : ℕ) → Moves Any (IsIdle n) (IsIdle (n - 1)) (exchanged t)
exchange_moves n t w k f i p e u idle = (let x = exchange_leads w k f n t i p e idle in record { leads = x.leads; kept = tt; holds = x.idle })

turn_moves : (n i x : ℕ) (c : Choice) → Moves Any (IsIdle n) (IsIdle (suc n)) (λ m. (turned i c x m).1)
unfolding turned
turn_moves n i x Types = types_moves n x
turn_moves n i x Erases = erases_moves n x
turn_moves n i x Exchanges = λ w k f g p e u idle. (let m = exchange_moves n i w k f g p e u idle in record { leads = m.leads; kept = tt; holds = record { none = m.holds.none; few = omega (arith, m.holds.few) } })

drawn_held : (P : ℕ → FollowerOf → Type 0) (l : Load) (x : ℕ) → IsHeld Any P l → IsHeld Any P (with_draws l x)
drawn_held P l x h = record { world = h.world; good = h.good; pooled = h.pooled; host = h.host; kept = tt; followers = h.followers }

step_held : (n i : ℕ) (l : Load) → IsHeld Any (λ k. IsIdle n) l → IsHeld Any (λ k. IsIdle (suc n)) (step i l)
unfolding step
step_held n i l h = moved_held Any (λ k. IsIdle n) (λ k. IsIdle (suc n)) (drawn 4 l.draws) (turned i (choice_of (drawn 4 (next l.draws))) (next (next l.draws))) (with_draws l (next (next l.draws)))
    (turn_moves n i (next (next l.draws)) (choice_of (drawn 4 (next l.draws)))) (λ k f q idle. less n f idle) (drawn_held (λ k. IsIdle n) l (next (next l.draws)) h)

steps_held : (n : ℕ) (l : Load) → IsHeld Any (λ k. IsIdle 0) l → IsHeld Any (λ k. IsIdle n) (steps n l)
unfolding steps
steps_held zero l h = h
steps_held (suc n) l h = step_held n (suc n) (steps n l) (steps_held n l h)

-- ---- the beginning

abbrev starts : List Event
starts = Starts (client user0) ∷ Starts (client user1) ∷ Starts (client user2) ∷ Starts (client user3) ∷ []

first_world : World
first_world = world_of the_wavelet starts

first_of : (i : ℕ) (u : Key) → slice_get users i ≡ Some u → first_world.followers (client u) ≡ Some (new_follower the_wavelet (client u))
unfolding first_world user0 user1 user2 user3
first_of zero u e = subst (λ z. first_world.followers (client z) ≡ Some (new_follower the_wavelet (client z))) (same_Some e) refl
first_of (suc zero) u e = subst (λ z. first_world.followers (client z) ≡ Some (new_follower the_wavelet (client z))) (same_Some e) refl
first_of (suc (suc zero)) u e = subst (λ z. first_world.followers (client z) ≡ Some (new_follower the_wavelet (client z))) (same_Some e) refl
first_of (suc (suc (suc zero))) u e = subst (λ z. first_world.followers (client z) ≡ Some (new_follower the_wavelet (client z))) (same_Some e) refl
first_of (suc (suc (suc (suc i)))) u e = no_value e

first_host : first_world.host ≡ []
unfolding first_world user0 user1 user2 user3
first_host = refl

first_good : IsGood the_wavelet first_world
unfolding first_world
first_good = good the_wavelet starts

user_of : (i : ℕ) (f : FollowerOf) → slice_get (map (λ (u : Key). new_follower the_wavelet (client u)) users) i ≡ Some f → (u : Key) × (slice_get users i ≡ Some u) × (new_follower the_wavelet (client u) ≡ f)
user_of zero f e = (user0, refl, same_Some e)
user_of (suc zero) f e = (user1, refl, same_Some e)
user_of (suc (suc zero)) f e = (user2, refl, same_Some e)
user_of (suc (suc (suc zero))) f e = (user3, refl, same_Some e)
user_of (suc (suc (suc (suc i)))) f e = no_value e

first_held : (n : ℕ) → IsHeld Any (λ k. IsIdle 0) (first n)
first_held n = record {
  world = first_world;
  good = first_good;
  pooled = λ d m. absurd (subst (λ z. Mem d z) first_host m);
  host = first_host;
  kept = tt;
  followers = λ i f e. (let u = user_of i f e in
      (record { user = u.0; is_user = u.1; has = first_of i u.0 u.1 ∙ ap Some u.2 }, subst (IsIdle 0) u.2 (record { none = refl; few = omega arith })));
}

founding_moves : Moves Any (IsIdle 0) (IsIdle 0) founding
unfolding invited
founding_moves w k f i p e u idle =
    let g = changed f (map Adds users) in
    let a = edit_leads the_wavelet w k f (map Adds users) i p e refl inviting_text in
    let x = exchange_leads a.after k g 1 0 a.good a.pooled a.is (changed_idle 0 f (map Adds users) idle) in
    let c : IsExchanged a.after k 0 (exchanged 0 (meeting w.host g)) = subst (λ h. IsExchanged a.after k 0 (exchanged 0 (meeting h g))) a.host x in
    record { leads = on_to the_wavelet w k w.host _ g _ a c.leads; kept = tt; holds = c.idle }

level_moves : (n : ℕ) → Moves Any (IsIdle n) (IsIdle n) level
level_moves n w k f i p e u idle =
    let c = caught w k f i e in
    let q = c.waiting.queue in
    record { leads = level_leads w k f i p e; kept = tt; holds = record { none = none (caught_up w.host f) c; few = omega (arith, q, idle.few) } }
  where
    none : (g : FollowerOf) → IsCaughtUp the_wavelet w.host f g → g.flight ≡ None
    none g c = elim g.flight as (λ m. g.flight ≡ m → g.flight ≡ None) [
      | None ↦ λ r. r
      | Some y ↦ λ r. (let x = c.waiting.flight y r in no_value (sym idle.none ∙ x.1))
    ] refl

founded_held : (n : ℕ) → IsHeld Any (λ k. IsIdle 0) (founded n)
unfolding founded
founded_held n = each_held Any (IsIdle 0) (IsIdle 0) level _ (level_moves 0) (moved_held Any (λ k. IsIdle 0) (λ k. IsIdle 0) 0 (λ c. ((first n).draws, founding c)) (first n) founding_moves (λ k f q idle. idle) (first_held n))

-- ---- the end

abbrev IsDone : FollowerOf → Type 0
IsDone f = pending f ≡ []

settles_moves : (n : ℕ) → Moves Any (IsIdle n) IsDone (settles n)
settles_moves n w k f i p e u idle = (let x = settling_leads w k f n (suc n) (suc n) i p e idle (omega arith) in record { leads = x.leads; kept = tt; holds = x.none })

-- nothing is pending, and the follower is where the history ends
abbrev IsLevel : List DeltaOf → FollowerOf → Type 0
IsLevel h f = (pending f ≡ []) × (replay (start the_wavelet) h ≡ Some f.here)

done_idle : (f : FollowerOf) → IsDone f → IsIdle 0 f
done_idle f d = go f.flight refl f.queue refl d
  where
    go : (m : Option Flight) → f.flight ≡ m → (q : List (List Act)) → f.queue ≡ q → flying m ++ q ≡ [] → IsIdle 0 f
    go None e [] r x = record { none = e; few = (let z = ap length r in omega (arith, z)) }
    go None e (acts ∷ q) r x = absurd (cc)
    go (Some y) e q r x = absurd (cc)

end_moves : (h : List DeltaOf) → Moves (λ z. z ≡ h) IsDone (IsLevel h) level
end_moves h w k f i p e u d =
    let c = caught w k f i e in
    let m = level_moves 0 w k f i p e tt (done_idle f d) in
    record { leads = m.leads; kept = u; holds = (none_pending (caught_up w.host f) m.holds, ap (replay (start the_wavelet)) (sym u) ∙ c.here) }

pub each_shows : (n : ℕ) → All (Shows (loaded n)) (loaded n).followers
unfolding loaded
each_shows n = λ i d q. shows i _ (slice_get-get_or (each level l).followers i d q)
  where
    l : Load
    l = each (settles n) (steps n (founded n))

    settled_held : IsHeld Any (λ i. IsDone) l
    settled_held = each_held Any (IsIdle n) IsDone (settles n) (steps n (founded n)) (settles_moves n) (steps_held n (founded n) (founded_held n))

    here : IsHeld (λ h. h ≡ l.host) (λ i. IsDone) l
    here = record { world = settled_held.world; good = settled_held.good; pooled = settled_held.pooled; host = settled_held.host; kept = refl; followers = settled_held.followers }

    end : IsHeld (λ h. h ≡ l.host) (λ i. IsLevel l.host) (each level l)
    end = each_held (λ h. h ≡ l.host) IsDone (IsLevel l.host) level l (end_moves l.host) here

    shows : (i : ℕ) (f : FollowerOf) → slice_get (each level l).followers i ≡ Some f → Shows (each level l) f
    shows i f e =
        let x = (end.followers i f e).1 in
        let at : end_of the_wavelet (each level l).host ≡ f.here = ap (end_of the_wavelet) end.kept ∙ ap (λ o. unwrap_or o (start the_wavelet)) x.1 in
        ap (run_all f.here.state) x.0 ∙ ap (λ (p : Point). Some p.state) (sym at)
