-- Chains of undo follow their screens past deltas and snapshots.
--     asked                   an opening changes neither follower nor chain
--     other_leads, own_leads  where the follower advances by another's delta, and by its own
--     update_is_followed, snapshot_is_followed
use Rattle.std.proofs.Common.{◌≡◌, Bool, true, false, List, [], ◌∷◌, Option, None, Some, refl, sym, ap, subst, ◌∙◌, nat_lt, option_and_then, unwrap_or}
use Rattle.std.specs.Option.{option_map}
use Rattle.doc_items.specs.Maps.{same_text}
use Rattle.wave_base.specs.Versions.{same_id}
use Rattle.wave_base.proofs.Same.{same_id-is}
use Rattle.wavelet_op.specs.Acts.{Act}
use Rattle.wavelet_op.specs.Deltas.{DeltaOf}
use Rattle.wavelet_op.specs.Laws.{IsWhole}
use Rattle.wavelet_op.specs.States.{run}
use Rattle.wavelet_op.proofs.Wholes.{states_hold}
use Rattle.delta_history.specs.Points.{Point, acts_of, next_point}
use Rattle.delta_history.specs.Verdicts.{same_hash}
use Rattle.delta_history.proofs.Points.{after_point}
use Rattle.follower_rules.specs.Followers.{Flight, FollowerOf, pending, screen, moved, point_of, take_newer, take_settled}
use Rattle.follower_rules.specs.Laws.{IsSound, AreOwn}
use Rattle.follower_rules.specs.Receiving.{Over, Answered, over, is_own, is_within, rebase, advance_within, advance_to, receive_other, receive_own, receive_id, receive_flight, receive_hash, receive_gap, receive_old}
use Rattle.follower_rules.proofs.Advances.{IsPassing, passing_is, landing_is}
use Rattle.follower_rules.proofs.Sounds.{snapshot_is_sound}
use Rattle.undo_control.specs.Chains.{ChainOf, changed}
use Rattle.undo_control.proofs.Keeping.{change_keeps}
use Rattle.client_session.specs.Laws.{IsFollowed, SnapshotIsFollowed, UpdateIsFollowed}
use Rattle.client_session.specs.Seats.{SeatOf, fresh_chain, after_change, with_follower, answered}
use Rattle.client_session.specs.Taking.{Rebasing, flies, flies_as, chain_after, chain_moved, updated, ask_unless, is_asked, snapshot_named, snapshot_told}
use Rattle.client_session.specs.declared.said.Said.{Said}
use Rattle.client_session.specs.declared.said.Said.TheVariants as said
use Rattle.client_session.proofs.Following.{at_screen, fresh}

pub asked : (s : SeatOf) (t : Said) (b : Bool) → IsFollowed s → IsFollowed (ask_unless s t b).0
asked s t true h = h
asked s t false h = record { sound = h.sound; whole = h.whole; shows = h.shows; in_turn = h.in_turn }

answered_is : (s : SeatOf) → IsFollowed s → IsFollowed (answered s)
answered_is s h = record { sound = h.sound; whole = h.whole; shows = h.shows; in_turn = h.in_turn }

module _ (s : SeatOf) (d : DeltaOf) (h : IsFollowed s) where
  abbrev pub f : FollowerOf
  f = s.follower

  stays : IsFollowed (with_follower s f s.chain)
  stays = at_screen s f s.chain h.sound h.whole h.shows h.in_turn

  -- after an answer
  abbrev pub Leads : Answered → Type 0
  Leads r = IsFollowed (updated s d r).0

  after_whole : (q : Point) → next_point f.here d ≡ Some q → IsWhole q.state
  after_whole q n = let a = after_point f.here q d n in subst IsWhole (sym a.same) (states_hold f.here.state a.state (acts_of d) h.whole a.goes)

  -- a change by others of which this is left
  passes : (g : FollowerOf) (left : List Act) → IsSound g → IsWhole g.here.state → screen g ≡ run s.chain.state left → IsFollowed (with_follower s g (after_change g s.chain left))
  passes g left sound w e = go (rebase s.chain.entries left) refl
    where
      runs : run s.chain.state left ≡ Some sound.shown
      runs = sym e ∙ sound.is_shown

      rebased : (r : Rebasing) → rebase s.chain.entries left ≡ r → changed s.chain left ≡ option_map (λ (p : List (List Act) × List Act). record { state = sound.shown; entries = p.0 }) r
      rebased r q = ap (option_and_then (λ t. option_map (λ (p : List (List Act) × List Act). record { state = t; entries = p.0 }) (rebase s.chain.entries left))) runs ∙ ap (option_map (λ (p : List (List Act) × List Act). record { state = sound.shown; entries = p.0 })) q

      go : (r : Rebasing) → rebase s.chain.entries left ≡ r → IsFollowed (with_follower s g (after_change g s.chain left))
      go None q = subst (λ o. IsFollowed (with_follower s g (unwrap_or o (fresh_chain g)))) (sym (rebased None q)) (fresh s g sound w)
      go (Some p) q =
          let c : ChainOf = record { state = sound.shown; entries = p.0 } in
          let is : changed s.chain left ≡ Some c = rebased (Some p) q in
          subst (λ o. IsFollowed (with_follower s g (unwrap_or o (fresh_chain g)))) (sym is) (at_screen s g c sound w sound.is_shown (change_keeps s.chain c left h.in_turn is))

  -- another's delta
  pub other_leads : flies f d.id ≡ false → Leads (receive_other f d)
  other_leads e = go (next_point f.here d) refl
    where
      o : Option Over
      o = over f.flight f.queue (acts_of d)

      advanced : (q : Point) → next_point f.here d ≡ Some q → (x : IsPassing f d q) → IsFollowed (with_follower s (moved f q x.flight x.queue) (chain_moved s d (moved f q x.flight x.queue)))
      advanced q n x =
          let g : FollowerOf = moved f q x.flight x.queue in
          let chain : chain_moved s d g ≡ after_change g s.chain x.left = ap (λ b. chain_after b s.chain g (rebase (pending f) (acts_of d))) e ∙ ap (chain_after false s.chain g) x.rebased in
          subst (λ c. IsFollowed (with_follower s g c)) (sym chain) (passes g x.left x.sound (after_whole q n) (x.shows ∙ ap (option_and_then (λ t. run t x.left)) h.shows))

      by : (q : Point) → next_point f.here d ≡ Some q → (b : Bool) → is_within q d ≡ b → Leads (receive_other f d)
      by q n false w = subst Leads (sym (ap (advance_to f d o) n ∙ ap (advance_within f d o q) w)) stays
      by q n true w = let x = passing_is f d q h.sound n w in subst Leads (sym x.is) (advanced q n x)

      go : (n : Option Point) → next_point f.here d ≡ n → Leads (receive_other f d)
      go None n = subst Leads (sym (ap (advance_to f d o) n)) stays
      go (Some q) n = by q n (is_within q d) refl

  -- the flight's own
  pub own_leads : (x : Flight) → f.flight ≡ Some x → flies f d.id ≡ true → acts_of d ≡ x.acts → (b : Bool) → Leads (receive_own f d x b)
  own_leads x e flown same false = stays
  own_leads x e flown same true = go (next_point f.here d) refl
    where
      o : Option Over
      o = Some ((None, f.queue), [])

      by : (q : Point) → next_point f.here d ≡ Some q → (b : Bool) → is_within q d ≡ b → Leads (receive_own f d x true)
      by q n false w = subst Leads (sym (ap (advance_to f d o) n ∙ ap (advance_within f d o q) w)) stays
      by q n true w =
          let l = landing_is f d q x h.sound n w e same in
          let g : FollowerOf = moved f q None f.queue in
          let chain : chain_moved s d g ≡ s.chain = ap (λ b. chain_after b s.chain g (rebase (pending f) (acts_of d))) flown in
          subst Leads (sym l.is) (subst (λ c. IsFollowed (with_follower s g c)) (sym chain) (at_screen s g s.chain l.sound (after_whole q n) (l.shows ∙ h.shows) h.in_turn))

      go : (n : Option Point) → next_point f.here d ≡ n → Leads (receive_own f d x true)
      go None n = subst Leads (sym (ap (advance_to f d o) n)) stays
      go (Some q) n = by q n (is_within q d) refl

  flies_is : (x : Flight) (b : Bool) → f.flight ≡ Some x → same_id d.id x.sent.id ≡ b → flies f d.id ≡ b
  flies_is x b e i = ap (λ (o : Option Flight). flies_as d.id (option_map (λ (g : Flight). g.sent) o)) e ∙ i

  by_id : AreOwn f d → (x : Flight) → f.flight ≡ Some x → (b : Bool) → same_id d.id x.sent.id ≡ b → Leads (receive_id f d x b)
  by_id own x e false i = other_leads (flies_is x false e i)
  by_id own x e true i = own_leads x e (flies_is x true e i) (own x e (same_id-is d.id x.sent.id i)) (is_own d x.acts)

  by_flight : AreOwn f d → (o : Option Flight) → f.flight ≡ o → Leads (receive_flight f d o)
  by_flight own None e = other_leads (ap (λ (o : Option Flight). flies_as d.id (option_map (λ (g : Flight). g.sent) o)) e)
  by_flight own (Some x) e = by_id own x e (same_id d.id x.sent.id) refl

  by_hash : AreOwn f d → (b : Bool) → Leads (receive_hash f d b)
  by_hash own false = asked (with_follower s f s.chain) said.Diverged (is_asked (with_follower s f s.chain)) stays
  by_hash own true = by_flight own f.flight refl

  by_gap : AreOwn f d → (b : Bool) → Leads (receive_gap f d b)
  by_gap own true = asked (with_follower s f s.chain) said.Nothing (is_asked (with_follower s f s.chain)) stays
  by_gap own false = by_hash own (same_hash d.from.hash f.here.at.hash)

  by_old : AreOwn f d → (b : Bool) → Leads (receive_old f d b)
  by_old own true = stays
  by_old own false = by_gap own (nat_lt f.here.at.version d.from.version)

pub update_is_followed : UpdateIsFollowed
update_is_followed s d own h = by_old s d h own (nat_lt d.from.version s.follower.here.at.version)

-- ---- snapshots

pub snapshot_is_followed : SnapshotIsFollowed
snapshot_is_followed s x place w h = named (same_text x.name s.follower.name)
  where
    a : SeatOf
    a = answered s

    k : IsFollowed a
    k = answered_is s h

    p : Point
    p = point_of x

    still : IsFollowed (with_follower a s.follower s.chain)
    still = at_screen a s.follower s.chain h.sound h.whole h.shows h.in_turn

    newer : pending s.follower ≡ [] → (b : Bool) → IsSound (take_newer s.follower p b).1 → IsFollowed (snapshot_told a (take_newer s.follower p b)).0
    newer e false sound = still
    newer e true sound = fresh a (moved s.follower p s.follower.flight s.follower.queue) sound w

    settled : (es : List (List Act)) → pending s.follower ≡ es → IsSound (take_settled s.follower p es).1 → IsFollowed (snapshot_told a (take_settled s.follower p es)).0
    settled (acts ∷ rest) e sound = asked (with_follower a s.follower s.chain) said.Nothing (is_asked (with_follower a s.follower s.chain)) still
    settled [] e sound = newer e (nat_lt s.follower.here.at.version p.at.version) sound

    named : (b : Bool) → IsFollowed (snapshot_named s x b).0
    named false = h
    named true = settled (pending s.follower) refl (snapshot_is_sound s.follower p h.sound place)
