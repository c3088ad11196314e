-- What each kind of step makes of the history, and what the rule says.
use Rattle.std.proofs.Common.{◌≡◌, ◌≢◌, ℕ, zero, suc, ◌+◌, ◌<◌, ◌≤◌, List, [], ◌∷◌, ◌++◌, length, get_or, set, sym, refl, ap, ◌∙◌, subst, ⊎_elim, arith, Option, Some, None, length-append, append-nil}
use mathlib.Core.Logic.{dite}
use mathlib.Core.Option.{none, some, some-ne-none, some-injective}
use mathlib.Core.Option as maybe
use mathlib.Core.List.{IsPrefix}
use native.Mathlib.Decide.{ℕ_discrete}
use lib.ListN.{get_elem?}
use lib.Seq.{set-get_or}
use Rattle.atomic_table.specs.Table.{State}
use Rattle.atomic_table.proofs.Lists.{at_set, set_else, set_again, at_snoc, at_longer}
use Rattle.turn_lock.specs.declared.view.View.{View}
use Rattle.turn_lock.specs.declared.view.Stage.{Stage}
use Rattle.turn_lock.specs.declared.view.Stage.TheVariants.{Out, Waits, Turn, Inside, Fresh, Gave, Told, Joined}
use Rattle.turn_lock.specs.Turns.{turn_limit, holding, held, IsBusy, Holds, Fits, Turned, InTurn, HasTicket, newcomer, nobody, told, longer_of}
use Rattle.turn_lock.specs.Kinds.{Stands, Draws, LooksAtTicket, LooksAtServing, LooksAtHead, Settles, Takes, GivesBack, GivesNew, Publishes, PassesOn, SplitsSeat, JoinsSeat}
use Rattle.turn_lock.proofs.Beginnings.{prefix_self, prefix_trans, longer_begins, no_length, same_front, set_there, put, put_here, put_else}

module _ {E : Type 0} where
  held_set : (vs : List (View E)) (id : ℕ) (v w : View E) → get_elem? vs id ≡ some v → held (set vs id w) + holding v.stage ≡ held vs + holding w.stage
  held_set [] id v w e = absurd (some-ne-none v (sym e))
  held_set (u ∷ us) zero v w e = let same : holding u.stage ≡ holding v.stage = ap (λ (z : View E). holding z.stage) (some-injective u v e) in omega arith
  held_set (u ∷ us) (suc id) v w e = let r = held_set us id v w e in omega arith

  held_append : (xs ys : List (View E)) → held (xs ++ ys) ≡ held xs + held ys
  held_append [] ys = omega arith
  held_append (x ∷ xs) ys = let r = held_append xs ys in omega arith

  -- a seat that holds no ticket, or only waits, isn't busy
  abbrev pub IsCalm : Stage E → Type 0
  IsCalm st = (n : ℕ) → ¬ IsBusy n st

module _ {T E : Type 0} (entries : T → List E) where
  abbrev St : Type 0
  St = State (Option T) (View E)

  abbrev Homes : Type 0
  Homes = List (maybe.Option (Option T))

  moves : (log log' : List E) (s : St) (r : Turned entries log s) (id : ℕ) (v w : View E) → get_elem? s.views id ≡ some v
      → (words' : List ℕ) (homes' : Homes) (ticket' serving' away' : ℕ) (fresh' : List E) (turn' : ℕ → ℕ)
      → words' ≡ ticket' ∷ serving' ∷ length log' ∷ away' ∷ []
      → (serving' ≤ ticket') × (ticket' ≤ turn_limit) × (away' < 2)
      → holding w.stage + serving' + r.ticket ≡ holding v.stage + r.serving + ticket'
      → (away' ≡ 0 → (x : T) × (homes' ≡ some (Some x) ∷ []) × (entries x ≡ log' ++ fresh'))
      → (away' ≡ 1 → homes' ≡ none ∷ [])
      → (0 < away' + length fresh' → (u : View E) × (get_elem? (set s.views id w) (turn' serving') ≡ some u) × IsBusy serving' u.stage)
      → Fits ticket' serving' away' log' fresh' turn' id w.seen w.stage
      → ((j : ℕ) (u : View E) → j ≢ id → get_elem? s.views j ≡ some u → Fits ticket' serving' away' log' fresh' turn' j u.seen u.stage)
      → Turned entries log' record { words = words'; homes = homes'; views = set s.views id w }
  moves log log' s r id v w at words' homes' ticket' serving' away' fresh' turn' words order count home out busy mine others = record {
    ticket = ticket';
    serving = serving';
    away = away';
    fresh = fresh';
    turn = turn';
    words = words;
    order = order;
    drawn = let d = r.drawn in let c = held_set s.views id v w at in omega arith;
    home = home;
    out = out;
    busy = busy;
    each = λ j u e. ⊎_elim (λ (t : (j ≡ id) × (w ≡ u)). subst (λ (z : ℕ × View E). Fits ticket' serving' away' log' fresh' turn' z.0 z.1.seen z.1.stage) (λ i. (sym t.0 i, t.1 i)) mine)
        (λ (t : (j ≢ id) × (get_elem? s.views j ≡ some u)). others j u t.0 t.1) (at_set s.views id j w u e);
  }

  -- where the seat that steps is calm, whoever was busy still is
  still_busy : (log : List E) (s : St) (r : Turned entries log s) (id : ℕ) (v w : View E) → get_elem? s.views id ≡ some v → IsCalm v.stage
      → 0 < r.away + length r.fresh → (u : View E) × (get_elem? (set s.views id w) (r.turn r.serving) ≡ some u) × IsBusy r.serving u.stage
  still_busy log s r id v w at calm some_busy = let b = r.busy some_busy in (
    b.0,
    set_else s.views id (r.turn r.serving) w (λ (e : r.turn r.serving ≡ id).
        let same : b.0 ≡ v = some-injective b.0 v (sym b.1 ∙ (ap (get_elem? s.views) e ∙ at)) in calm r.serving (subst (λ (z : View E). IsBusy r.serving z.stage) same b.2)) ∙ b.1,
    b.2,
  )

  -- a step that changes one view alone, and its holding not
  unmoved : (log : List E) (s : St) (r : Turned entries log s) (i id : ℕ) (v w : View E) → get_elem? s.views id ≡ some v → IsCalm v.stage → holding w.stage ≡ holding v.stage
      → Fits r.ticket r.serving r.away log r.fresh r.turn id w.seen w.stage
      → Turned entries log record { words = set s.words i (get_or s.words i 0); homes = s.homes; views = set s.views id w }
  unmoved log s r i id v w at calm as_held fits = moves log log s r id v w at (set s.words i (get_or s.words i 0)) s.homes r.ticket r.serving r.away r.fresh r.turn
      (set-get_or s.words i 0 ∙ r.words) r.order (omega arith) r.home r.out (still_busy log s r id v w at calm) fits (λ j u _. r.each j u)

  pub fits_as : (log : List E) (s : St) (r : Turned entries log s) (id : ℕ) (v : View E) (st : Stage E) → get_elem? s.views id ≡ some v → v.stage ≡ st
      → Fits r.ticket r.serving r.away log r.fresh r.turn id v.seen st
  fits_as log s r id v st at is = subst (Fits r.ticket r.serving r.away log r.fresh r.turn id v.seen) is (r.each id v at)

  pub calm_as : (v : View E) (st : Stage E) → v.stage ≡ st → IsCalm st → IsCalm v.stage
  calm_as v st is calm = subst IsCalm (sym is) calm

  -- with the ticket word one higher, and the old one drawn by the seat `me`
  others_drew : (ticket serving away : ℕ) (log fresh : List E) (turn : ℕ → ℕ) (me j : ℕ) (seen : List E) (st : Stage E) → Fits ticket serving away log fresh turn j seen st
      → Fits (ticket + 1) serving away log fresh (put turn ticket me) j seen st
  others_drew ticket serving away log fresh turn me j seen = go
    where
      still : (t : ℕ) → Holds ticket serving away log fresh turn j t → Holds (ticket + 1) serving away log fresh (put turn ticket me) j t
      still t h = let a = h.0 in let b = h.1 in (a, omega arith, put_else turn ticket me t (λ e. omega arith) ∙ h.2)

      go : (st : Stage E) → Fits ticket serving away log fresh turn j seen st → Fits (ticket + 1) serving away log fresh (put turn ticket me) j seen st
      go Out f = f
      go (Waits t) f = (f.0, still t f.1)
      go (Turn t) f = (f.0, still t f.1, f.2, f.3, f.4)
      go (Inside t) f = (f.0, still t f.1, f.2, f.3, f.4)
      go (Fresh t e) f = (f.0, still t f.1, f.2, f.3, f.4)
      go (Gave t) f = (f.0, still t f.1, f.2, f.3, f.4)
      go (Told xs) f = f
      go Joined f = f

  -- the others, at a step of the seat `me` whose ticket is served: they wait, and hold tickets that come later
  others_wait : (ticket serving away : ℕ) (log fresh : List E) (turn : ℕ → ℕ) (me j : ℕ) (serving' away' : ℕ) (log' fresh' : List E) → turn serving ≡ me → j ≢ me → serving' ≤ serving + 1 → IsPrefix log log'
      → (seen : List E) (st : Stage E) → Fits ticket serving away log fresh turn j seen st → Fits ticket serving' away' log' fresh' turn j seen st
  others_wait ticket serving away log fresh turn me j serving' away' log' fresh' mine other later longer_log seen = go
    where
      none : (t : ℕ) → Holds ticket serving away log fresh turn j t → t ≢ serving
      none t h e = other (sym h.2 ∙ (ap turn e ∙ mine))

      go : (st : Stage E) → Fits ticket serving away log fresh turn j seen st → Fits ticket serving' away' log' fresh' turn j seen st
      go Out f = prefix_trans seen log log' f longer_log
      go (Waits t) f = let h = f.1 in let a = h.0 in let n = none t h in (prefix_trans seen log log' f.0 longer_log, (omega arith, h.1, h.2))
      go (Turn t) f = absurd (none t f.1 f.2)
      go (Inside t) f = absurd (none t f.1 f.2)
      go (Fresh t e) f = absurd (none t f.1 f.2)
      go (Gave t) f = absurd (none t f.1 f.2)
      go (Told xs) f = (prefix_trans seen log log' f.0 longer_log, prefix_trans xs log log' f.1 longer_log)
      go Joined f = f

  busy_below : (ticket serving away : ℕ) (log fresh : List E) (turn : ℕ → ℕ) (seat : ℕ) (seen : List E) (st : Stage E) → IsBusy serving st → Fits ticket serving away log fresh turn seat seen st → serving < ticket
  busy_below ticket serving away log fresh turn seat seen Out b f = absurd b
  busy_below ticket serving away log fresh turn seat seen (Waits t) b f = absurd b
  busy_below ticket serving away log fresh turn seat seen (Turn t) b f = absurd b
  busy_below ticket serving away log fresh turn seat seen (Inside t) b f = let l = f.1.1 in omega arith
  busy_below ticket serving away log fresh turn seat seen (Fresh t e) b f = let l = f.1.1 in omega arith
  busy_below ticket serving away log fresh turn seat seen (Gave t) b f = absurd b
  busy_below ticket serving away log fresh turn seat seen (Told xs) b f = absurd b
  busy_below ticket serving away log fresh turn seat seen Joined b f = absurd b

  -- whoever is busy has the ticket that is served, which was drawn
  busy_drawn : (log : List E) (s : St) (r : Turned entries log s) → 0 < r.away + length r.fresh → r.serving < r.ticket
  busy_drawn log s r some_busy = let b = r.busy some_busy in let u = b.0 in
      busy_below r.ticket r.serving r.away log r.fresh r.turn (r.turn r.serving) u.seen u.stage b.2 (r.each (r.turn r.serving) u b.1)

  turn_of : (ticket serving away : ℕ) (log fresh : List E) (turn : ℕ → ℕ) (seat n : ℕ) (seen : List E) (st : Stage E) → HasTicket n st → Fits ticket serving away log fresh turn seat seen st → turn n ≡ seat
  turn_of ticket serving away log fresh turn seat n seen Out h f = absurd h
  turn_of ticket serving away log fresh turn seat n seen (Waits t) h f = ap turn (sym h) ∙ f.1.2
  turn_of ticket serving away log fresh turn seat n seen (Turn t) h f = ap turn (sym h) ∙ f.1.2
  turn_of ticket serving away log fresh turn seat n seen (Inside t) h f = ap turn (sym h) ∙ f.1.2
  turn_of ticket serving away log fresh turn seat n seen (Fresh t e) h f = ap turn (sym h) ∙ f.1.2
  turn_of ticket serving away log fresh turn seat n seen (Gave t) h f = ap turn (sym h) ∙ f.1.2
  turn_of ticket serving away log fresh turn seat n seen (Told xs) h f = absurd h
  turn_of ticket serving away log fresh turn seat n seen Joined h f = absurd h

  pub distinct : (s : St) (i j t : ℕ) (v w : View E) → InTurn entries s → get_elem? s.views i ≡ some v → get_elem? s.views j ≡ some w → HasTicket t v.stage → HasTicket t w.stage → i ≡ j
  distinct s i j t v w r at at' h h' = let k = r.1 in let log : List E = r.0 in
      sym (turn_of k.ticket k.serving k.away log k.fresh k.turn i t v.seen v.stage h (k.each i v at)) ∙ turn_of k.ticket k.serving k.away log k.fresh k.turn j t w.seen w.stage h' (k.each j w at')

  busy_has : (n : ℕ) (st : Stage E) → IsBusy n st → HasTicket n st
  busy_has n Out b = absurd b
  busy_has n (Waits t) b = absurd b
  busy_has n (Turn t) b = absurd b
  busy_has n (Inside t) b = b
  busy_has n (Fresh t e) b = b
  busy_has n (Gave t) b = absurd b
  busy_has n (Told xs) b = absurd b
  busy_has n Joined b = absurd b

  busy_seen : (ticket serving away : ℕ) (log fresh : List E) (turn : ℕ → ℕ) (seat : ℕ) (seen : List E) (st : Stage E) → IsBusy serving st → Fits ticket serving away log fresh turn seat seen st → seen ≡ log
  busy_seen ticket serving away log fresh turn seat seen Out b f = absurd b
  busy_seen ticket serving away log fresh turn seat seen (Waits t) b f = absurd b
  busy_seen ticket serving away log fresh turn seat seen (Turn t) b f = absurd b
  busy_seen ticket serving away log fresh turn seat seen (Inside t) b f = f.0
  busy_seen ticket serving away log fresh turn seat seen (Fresh t e) b f = f.0
  busy_seen ticket serving away log fresh turn seat seen (Gave t) b f = absurd b
  busy_seen ticket serving away log fresh turn seat seen (Told xs) b f = absurd b
  busy_seen ticket serving away log fresh turn seat seen Joined b f = absurd b

  -- whoever is busy while the value is out is inside
  busy_inside : (ticket serving away : ℕ) (log fresh : List E) (turn : ℕ → ℕ) (seat : ℕ) (seen : List E) (st : Stage E) → IsBusy serving st → Fits ticket serving away log fresh turn seat seen st → away ≢ 0 → (t : ℕ) × (st ≡ Inside t)
  busy_inside ticket serving away log fresh turn seat seen Out b f out = absurd b
  busy_inside ticket serving away log fresh turn seat seen (Waits t) b f out = absurd b
  busy_inside ticket serving away log fresh turn seat seen (Turn t) b f out = absurd b
  busy_inside ticket serving away log fresh turn seat seen (Inside t) b f out = (t, refl)
  busy_inside ticket serving away log fresh turn seat seen (Fresh t e) b f out = absurd (out f.3)
  busy_inside ticket serving away log fresh turn seat seen (Gave t) b f out = absurd b
  busy_inside ticket serving away log fresh turn seat seen (Told xs) b f out = absurd b
  busy_inside ticket serving away log fresh turn seat seen Joined b f out = absurd b

  -- where somebody is busy, two histories of one state are what that seat has seen
  busy_one : (log other : List E) (s : St) (k : Turned entries log s) (k' : Turned entries other s) → 0 < k.away + length k.fresh → 0 < k'.away + length k'.fresh → log ≡ other
  busy_one log other s k k' some_busy some_busy' =
      let b = k.busy some_busy in let b' = k'.busy some_busy' in let u = b.0 in let u' = b'.0 in let i : ℕ = k.turn k.serving in let j : ℕ = k'.turn k'.serving in
      let serve : k'.serving ≡ k.serving = ap (λ ws. get_or ws 1 0) (sym k'.words ∙ k.words) in
      let has : HasTicket k.serving u'.stage = subst (λ (n : ℕ). HasTicket n u'.stage) serve (busy_has k'.serving u'.stage b'.2) in
      let seat : i ≡ j = turn_of k.ticket k.serving k.away log k.fresh k.turn j k.serving u'.seen u'.stage has (k.each j u' b'.1) in
      let same : u ≡ u' = some-injective u u' (sym b.1 ∙ (ap (get_elem? s.views) seat ∙ b'.1)) in
      let one : u.seen ≡ log = busy_seen k.ticket k.serving k.away log k.fresh k.turn i u.seen u.stage b.2 (k.each i u b.1) in
      let two : u'.seen ≡ other = busy_seen k'.ticket k'.serving k'.away other k'.fresh k'.turn j u'.seen u'.stage b'.2 (k'.each j u' b'.1) in
      sym one ∙ (ap (λ (z : View E). z.seen) same ∙ two)

  pub one_log : (log other : List E) (s : St) → Turned entries log s → Turned entries other s → log ≡ other
  one_log log other s k k' =
      let away : k.away ≡ k'.away = ap (λ ws. get_or ws 3 0) (sym k.words ∙ k'.words) in
      let long : length log ≡ length other = ap (λ ws. get_or ws 2 0) (sym k.words ∙ k'.words) in dite (ℕ_discrete k.away 0)
      (λ home. let a = k.home home in let a' = k'.home (sym away ∙ home) in
      let boxed : some (Some a.0) ≡ some (Some a'.0) = ap (λ (h : Homes). get_or h 0 none) (sym a.1 ∙ a'.1) in
      let same : Some a.0 ≡ Some a'.0 = some-injective (Some a.0) (Some a'.0) boxed in
      let alike : entries a.0 ≡ entries a'.0 = ap (λ (o : Option T). elim o [ None ↦ entries a.0 | Some y ↦ entries y ]) same in
      let joined : log ++ k.fresh ≡ other ++ k'.fresh = sym a.2 ∙ (alike ∙ a'.2) in same_front log other k.fresh k'.fresh joined long)
      (λ out. busy_one log other s k k' (omega arith) (omega arith))

  pub one_inside : (s : St) (i j t u : ℕ) (v w : View E) → InTurn entries s → Stands s i v (Inside t) → Stands s j w (Inside u) → (i ≡ j) × (t ≡ get_or s.words 1 0)
  one_inside s i j t u v w r here there = let log : List E = r.0 in let k = r.1 in
      let fits = fits_as log s k i v (Inside t) here.0 here.1 in let fits' = fits_as log s k j w (Inside u) there.0 there.1 in (
        distinct s i j k.serving v w r here.0 there.0 (subst (HasTicket k.serving) (sym here.1) fits.2) (subst (HasTicket k.serving) (sym there.1) fits'.2),
        fits.2 ∙ sym (ap (λ ws. get_or ws 1 0) k.words),
      )

  pub inside_empty : (s : St) (i t : ℕ) (v : View E) → InTurn entries s → Stands s i v (Inside t) → s.homes ≡ none ∷ []
  inside_empty s i t v r here = let fits = fits_as r.0 s r.1 i v (Inside t) here.0 here.1 in r.1.out fits.3

  pub empty_inside : (s : St) → InTurn entries s → s.homes ≡ none ∷ [] → (i : ℕ) × (v : View E) × (t : ℕ) × Stands s i v (Inside t)
  empty_inside s r empty = let log : List E = r.0 in let k = r.1 in dite (ℕ_discrete k.away 0)
      (λ home. let a = k.home home in
      let boxed : some (Some a.0) ≡ none = ap (λ (h : Homes). get_or h 0 none) (sym a.1 ∙ empty) in absurd (some-ne-none (Some a.0) boxed))
      (λ out. let b = k.busy (omega arith) in let u = b.0 in let i : ℕ = k.turn k.serving in
      let is = busy_inside k.ticket k.serving k.away log k.fresh k.turn i u.seen u.stage b.2 (k.each i u b.1) out in (i, u, is.0, (b.1, is.1)))

  begins : (ticket serving away : ℕ) (log fresh : List E) (turn : ℕ → ℕ) (seat : ℕ) (seen : List E) (st : Stage E) → Fits ticket serving away log fresh turn seat seen st → st ≢ Joined → IsPrefix seen log
  begins ticket serving away log fresh turn seat seen Out f not_joined = f
  begins ticket serving away log fresh turn seat seen (Waits t) f not_joined = f.0
  begins ticket serving away log fresh turn seat seen (Turn t) f not_joined = f.0
  begins ticket serving away log fresh turn seat seen (Inside t) f not_joined = subst (IsPrefix seen) f.0 (prefix_self seen)
  begins ticket serving away log fresh turn seat seen (Fresh t e) f not_joined = subst (IsPrefix seen) f.0 (prefix_self seen)
  begins ticket serving away log fresh turn seat seen (Gave t) f not_joined = subst (IsPrefix seen) f.0 (prefix_self seen)
  begins ticket serving away log fresh turn seat seen (Told xs) f not_joined = f.0
  begins ticket serving away log fresh turn seat seen Joined f not_joined = absurd (not_joined refl)

  pub seen_begins : (log : List E) (s : St) (j : ℕ) (v : View E) → Turned entries log s → get_elem? s.views j ≡ some v → v.stage ≢ Joined → IsPrefix v.seen log
  seen_begins log s j v k at not_joined = begins k.ticket k.serving k.away log k.fresh k.turn j v.seen v.stage (k.each j v at) not_joined

  -- The kinds of step.

  pub draws_keep : (log : List E) (id : ℕ) (s s' : St) → Turned entries log s → Draws id s s' → Turned entries log s'
  draws_keep log id s s' k d = let v = d.0 in let at = d.1.0 in let is = d.1.1 in let n : ℕ = get_or s.words 0 0 in let small = d.2 in
      let drawn : n ≡ k.ticket = ap (λ ws. get_or ws 0 0) k.words in let fits = fits_as log s k id v Out at is in let calm = calm_as v Out is (λ n b. b) in
      let w : View E = record v { ticket = n; stage = Waits n } in let o = k.order in let o0 = o.0 in let next : n + 1 ≡ k.ticket + 1 = omega arith in
      let none_held : holding v.stage ≡ 0 = ap holding is in
      subst (Turned entries log) (sym d.3) (moves log log s k id v w at (set s.words 0 (n + 1)) s.homes (k.ticket + 1) k.serving k.away k.fresh (put k.turn k.ticket id)
      (ap (λ ws. set ws 0 (n + 1)) k.words ∙ ap (λ (z : ℕ). z ∷ k.serving ∷ length log ∷ k.away ∷ []) next)
      (omega arith, omega arith, o.2) (omega arith) k.home k.out
      (λ some_busy. let b = still_busy log s k id v w at calm some_busy in let l = busy_drawn log s k some_busy in
      (b.0, ap (get_elem? (set s.views id w)) (put_else k.turn k.ticket id k.serving (λ e. omega arith)) ∙ b.1, b.2))
      (fits, (omega arith, omega arith, ap (put k.turn k.ticket id) drawn ∙ put_here k.turn k.ticket id))
      (λ j u _ e. others_drew k.ticket k.serving k.away log k.fresh k.turn id j u.seen u.stage (k.each j u e)))

  pub ticket_looks_keep : (log : List E) (id : ℕ) (s s' : St) → Turned entries log s → LooksAtTicket id s s' → Turned entries log s'
  ticket_looks_keep log id s s' k d = let v = d.0 in let w : View E = record v { ticket = get_or s.words 0 0 } in
      subst (Turned entries log) (sym d.2) (unmoved log s k 0 id v w d.1.0 (calm_as v Out d.1.1 (λ n b. b)) refl (k.each id v d.1.0))

  pub serving_looks_keep : (log : List E) (id : ℕ) (s s' : St) → Turned entries log s → LooksAtServing id s s' → Turned entries log s'
  serving_looks_keep log id s s' k d = let v = d.0 in let t : ℕ = d.1 in let at = d.2.0 in let is = d.2.1 in let n : ℕ = get_or s.words 1 0 in
      let serves : n ≡ k.serving = ap (λ ws. get_or ws 1 0) k.words in let fits = fits_as log s k id v (Waits t) at is in let calm = calm_as v (Waits t) is (λ n b. b) in ⊎_elim
      (λ found. let w : View E = record v { stage = Turn t } in let here : t ≡ k.serving = sym found.0 ∙ serves in
      let idle : ¬ (0 < k.away + length k.fresh) = λ some_busy. let b = k.busy some_busy in
      let same : b.0 ≡ v = some-injective b.0 v (sym b.1 ∙ (ap (get_elem? s.views) (ap k.turn (sym here) ∙ fits.1.2) ∙ at)) in calm k.serving (subst (λ (z : View E). IsBusy k.serving z.stage) same b.2) in
      let home : k.away ≡ 0 = omega arith in let none_fresh : length k.fresh ≡ 0 = omega arith in
      subst (Turned entries log) (sym found.1) (unmoved log s k 1 id v w at calm (ap holding (sym is)) (fits.0, fits.1, here, home, no_length k.fresh none_fresh)))
      (λ found. subst (Turned entries log) (sym found.1) (unmoved log s k 1 id v v at calm refl (k.each id v at)))
      d.3

  pub head_looks_keep : (log : List E) (id : ℕ) (s s' : St) → Turned entries log s → LooksAtHead log id s s' → Turned entries log s'
  head_looks_keep log id s s' k d = let v = d.0 in let w : View E = record v { seen = log; loads = v.loads + 1 } in
      subst (Turned entries log) (sym d.2) (unmoved log s k 2 id v w d.1.0 (calm_as v Out d.1.1 (λ n b. b)) refl
      (subst (Fits k.ticket k.serving k.away log k.fresh k.turn id log) (sym d.1.1) (prefix_self log)))

  pub settling_keeps : (log : List E) (id : ℕ) (s s' : St) → Turned entries log s → Settles id s s' → Turned entries log s'
  settling_keeps log id s s' k d = let v = d.0 in let xs : List E = d.1 in let at = d.2.0 in let is = d.2.1 in let fits = fits_as log s k id v (Told xs) at is in
      let w : View E = record v { seen = longer_of v.seen xs; stage = Out } in let both = longer_begins v.seen xs log fits.0 fits.1 in
      subst (Turned entries log) (sym d.3) (unmoved log s k 0 id v w at (calm_as v (Told xs) is (λ n b. b)) (ap holding (sym is)) both.0)

  pub takes_keep : (log : List E) (id : ℕ) (s s' : St) → Turned entries log s → Takes entries id s s' → Turned entries log s'
  takes_keep log id s s' k d = let v = d.0 in let t : ℕ = d.1 in let x : T = d.2 in let at = d.3.0 in let is = d.3.1 in let fits = fits_as log s k id v (Turn t) at is in
      let at_home = k.home fits.3 in let boxed : some (Some x) ≡ some (Some at_home.0) = some-injective (some (Some x)) (some (Some at_home.0)) (sym d.4 ∙ ap (λ (h : Homes). get_elem? h 0) at_home.1) in
      let same : Some x ≡ Some at_home.0 = some-injective (Some x) (Some at_home.0) boxed in
      let alike : entries x ≡ entries at_home.0 = ap (λ (o : Option T). elim o [ None ↦ entries x | Some y ↦ entries y ]) same in
      let whole : entries x ≡ log = alike ∙ (at_home.2 ∙ (ap (λ l. log ++ l) fits.4 ∙ append-nil log)) in
      let w : View E = record v { seen = entries x; stage = Inside t } in let mine : k.turn k.serving ≡ id = ap k.turn (sym fits.2) ∙ fits.1.2 in
      let kept : holding v.stage ≡ 1 = ap holding is in let o = k.order in
      subst (Turned entries log) (sym d.5) (moves log log s k id v w at (set s.words 3 1) (set s.homes 0 none) k.ticket k.serving 1 [] k.turn
      (ap (λ ws. set ws 3 1) k.words) (o.0, o.1, omega arith) (omega arith) (λ e. absurd (omega arith)) (λ _. ap (λ (h : Homes). set h 0 none) at_home.1)
      (λ _. (w, ap (get_elem? (set s.views id w)) mine ∙ set_there s.views id v w at, fits.2))
      (whole, fits.1, fits.2, refl, refl)
      (λ j u other e. others_wait k.ticket k.serving k.away log k.fresh k.turn id j k.serving 1 log [] mine other (omega arith) (prefix_self log) u.seen u.stage (k.each j u e)))

  pub gives_keep : (log : List E) (id : ℕ) (s s' : St) → Turned entries log s → GivesBack entries id s s' → Turned entries log s'
  gives_keep log id s s' k d = let v = d.0 in let t : ℕ = d.1 in let x : T = d.2 in let at = d.3.0 in let is = d.3.1 in let fits = fits_as log s k id v (Inside t) at is in
      let w : View E = record v { stage = Gave t } in let mine : k.turn k.serving ≡ id = ap k.turn (sym fits.2) ∙ fits.1.2 in
      let kept : holding v.stage ≡ 1 = ap holding is in let o = k.order in
      let whole : set s.homes 0 (some (Some x)) ≡ some (Some x) ∷ [] = ap (λ (h : Homes). set h 0 (some (Some x))) (k.out fits.3) in
      subst (Turned entries log) (sym d.5) (moves log log s k id v w at (set s.words 3 0) (set s.homes 0 (some (Some x))) k.ticket k.serving 0 [] k.turn
      (ap (λ ws. set ws 3 0) k.words) (o.0, o.1, omega arith) (omega arith) (λ _. (x, whole, d.4 ∙ (fits.0 ∙ sym (append-nil log)))) (λ e. absurd (omega arith))
      (λ some_busy. absurd (omega arith))
      (fits.0, fits.1, fits.2, refl, refl)
      (λ j u other e. others_wait k.ticket k.serving k.away log k.fresh k.turn id j k.serving 0 log [] mine other (omega arith) (prefix_self log) u.seen u.stage (k.each j u e)))

  pub gives_new_keep : (log : List E) (e : E) (id : ℕ) (s s' : St) → Turned entries log s → GivesNew entries e id s s' → Turned entries log s'
  gives_new_keep log e id s s' k d = let v = d.0 in let t : ℕ = d.1 in let x : T = d.2 in let at = d.3.0 in let is = d.3.1 in let fits = fits_as log s k id v (Inside t) at is in
      let w : View E = record v { added = v.added + 1; stage = Fresh t e } in let mine : k.turn k.serving ≡ id = ap k.turn (sym fits.2) ∙ fits.1.2 in
      let kept : holding v.stage ≡ 1 = ap holding is in let o = k.order in
      let whole : set s.homes 0 (some (Some x)) ≡ some (Some x) ∷ [] = ap (λ (h : Homes). set h 0 (some (Some x))) (k.out fits.3) in
      subst (Turned entries log) (sym d.5) (moves log log s k id v w at (set s.words 3 0) (set s.homes 0 (some (Some x))) k.ticket k.serving 0 (e ∷ []) k.turn
      (ap (λ ws. set ws 3 0) k.words) (o.0, o.1, omega arith) (omega arith) (λ _. (x, whole, d.4 ∙ ap (λ l. l ++ e ∷ []) fits.0)) (λ z. absurd (omega arith))
      (λ _. (w, ap (get_elem? (set s.views id w)) mine ∙ set_there s.views id v w at, fits.2))
      (fits.0, fits.1, fits.2, refl, refl)
      (λ j u other z. others_wait k.ticket k.serving k.away log k.fresh k.turn id j k.serving 0 log (e ∷ []) mine other (omega arith) (prefix_self log) u.seen u.stage (k.each j u z)))

  -- with the head published the history is one entry longer
  pub publishing : (log : List E) (e : E) (id : ℕ) (s s' : St) → Turned entries log s → Publishes e id s s' → Turned entries (log ++ e ∷ []) s'
  publishing log e id s s' k d = let v = d.0 in let t : ℕ = d.1 in let at = d.2.0 in let is = d.2.1 in let fits = fits_as log s k id v (Fresh t e) at is in
      let w : View E = record v { seen = v.seen ++ e ∷ []; stage = Gave t } in let mine : k.turn k.serving ≡ id = ap k.turn (sym fits.2) ∙ fits.1.2 in let log' : List E = log ++ e ∷ [] in
      let kept : holding v.stage ≡ 1 = ap holding is in let o = k.order in let at_home = k.home fits.3 in let same_length : length v.seen ≡ length log = ap length fits.0 in
      let new : ℕ = length v.seen + 1 in let long : new ≡ length log' = omega (arith, length-append log (e ∷ [])) in
      subst (Turned entries log') (sym d.3) (moves log log' s k id v w at (set s.words 2 new) s.homes k.ticket k.serving k.away [] k.turn
      (ap (λ ws. set ws 2 new) k.words ∙ ap (λ (z : ℕ). k.ticket ∷ k.serving ∷ z ∷ k.away ∷ []) long) o (omega arith)
      (λ _. (at_home.0, at_home.1, at_home.2 ∙ (ap (λ l. log ++ l) fits.4 ∙ sym (append-nil log')))) k.out
      (λ some_busy. let home = fits.3 in absurd (omega arith))
      (ap (λ l. l ++ e ∷ []) fits.0, fits.1, fits.2, fits.3, refl)
      (λ j u other z. others_wait k.ticket k.serving k.away log k.fresh k.turn id j k.serving k.away log' [] mine other (omega arith) (e ∷ [], refl) u.seen u.stage (k.each j u z)))

  pub passing_keeps : (log : List E) (id : ℕ) (s s' : St) → Turned entries log s → PassesOn id s s' → Turned entries log s'
  passing_keeps log id s s' k d = let v = d.0 in let t : ℕ = d.1 in let at = d.2.0 in let is = d.2.1 in let fits = fits_as log s k id v (Gave t) at is in
      let w : View E = record v { stage = Out } in let mine : k.turn k.serving ≡ id = ap k.turn (sym fits.2) ∙ fits.1.2 in let below = fits.1.1 in let here = fits.2 in let new : ℕ = t + 1 in
      let kept : holding v.stage ≡ 1 = ap holding is in let o = k.order in let o1 = o.1 in let fresh_none : length k.fresh ≡ 0 = ap length fits.4 in let home = fits.3 in
      subst (Turned entries log) (sym d.3) (moves log log s k id v w at (set s.words 1 new) s.homes k.ticket new k.away k.fresh k.turn
      (ap (λ ws. set ws 1 new) k.words) (omega arith, o1, o.2) (omega arith) k.home k.out (λ some_busy. absurd (omega arith))
      (subst (λ l. IsPrefix v.seen l) fits.0 (prefix_self v.seen))
      (λ j u other z. others_wait k.ticket k.serving k.away log k.fresh k.turn id j new k.away log k.fresh mine other (omega arith) (prefix_self log) u.seen u.stage (k.each j u z)))

  pub splitting_keeps : (log : List E) (id : ℕ) (s s' : St) → Turned entries log s → SplitsSeat id s s' → Turned entries log s'
  splitting_keeps log id s s' k d = let v = d.0 in let at = d.1.0 in let before : IsPrefix v.seen log = fits_as log s k id v Out at d.1.1 in let n : View E = newcomer v.seen in
      subst (Turned entries log) (sym d.2) (subst (λ (vs : List (View E)). Turned entries log record { words = s.words; homes = s.homes; views = vs ++ n ∷ [] }) (sym (set_again s.views id v at)) record {
        ticket = k.ticket;
        serving = k.serving;
        away = k.away;
        fresh = k.fresh;
        turn = k.turn;
        words = k.words;
        order = k.order;
        drawn = let d = k.drawn in let h = held_append s.views (n ∷ []) in omega arith;
        home = k.home;
        out = k.out;
        busy = λ some_busy. let b = k.busy some_busy in (b.0, at_longer s.views (n ∷ []) (k.turn k.serving) b.0 b.1, b.2);
        each = λ j u e. ⊎_elim (λ (t : get_elem? s.views j ≡ some u). k.each j u t) (λ (t : n ≡ u). subst (λ (z : View E). Fits k.ticket k.serving k.away log k.fresh k.turn j z.seen z.stage) t before) (at_snoc s.views n u j e);
      })

  pub joining_keeps : (log : List E) (other id : ℕ) (s s' : St) → Turned entries log s → JoinsSeat other id s s' → Turned entries log s'
  joining_keeps log other id s s' k d = let v = d.0 in let w = d.1 in let at = d.2.0 in let is = d.2.1 in let at_other = d.3.0 in let is' = d.3.1 in let apart = d.4 in let both : View E = told v w in
      let there : get_elem? (set s.views id both) other ≡ some w = set_else s.views id other both apart ∙ at_other in
      let one : IsPrefix v.seen log = fits_as log s k id v Out at is in let two : IsPrefix w.seen log = fits_as log s k other w Out at_other is' in
      let calm : IsCalm v.stage = calm_as v Out is (λ n b. b) in let calm' : IsCalm w.stage = calm_as w Out is' (λ n b. b) in
      let middle : St = record { words = s.words; homes = s.homes; views = set s.views id both } in let none : holding v.stage ≡ 0 = ap holding is in
      let first : Turned entries log middle = moves log log s k id v both at s.words s.homes k.ticket k.serving k.away k.fresh k.turn k.words k.order (omega arith) k.home k.out
      (still_busy log s k id v both at calm) (one, two) (λ j u _. k.each j u) in
      let none_held : holding w.stage ≡ 0 = ap holding is' in
      subst (Turned entries log) (sym d.5) (moves log log middle first other w nobody there s.words s.homes first.ticket first.serving first.away first.fresh first.turn first.words first.order (omega arith) first.home first.out
      (still_busy log middle first other w nobody there calm') tt (λ j u _. first.each j u))

  pub opens : (x : T) (first n : ℕ) → first ≤ turn_limit → n ≡ length (entries x) → Turned entries (entries x) record { words = first ∷ first ∷ n ∷ 0 ∷ []; homes = some (Some x) ∷ []; views = newcomer (entries x) ∷ [] }
  opens x first n small is = record {
    ticket = first;
    serving = first;
    away = 0;
    fresh = [];
    turn = λ _. 0;
    words = ap (λ (z : ℕ). first ∷ first ∷ z ∷ 0 ∷ []) is;
    order = (omega arith, small, omega arith);
    drawn = omega arith;
    home = λ _. (x, refl, sym (append-nil (entries x)));
    out = λ e. absurd (omega arith);
    busy = λ some_busy. absurd (omega arith);
    each = λ j v e. ⊎_elim (λ (t : get_elem? [] j ≡ some v). absurd (some-ne-none v (sym t))) (λ (t : newcomer (entries x) ≡ v). subst (λ (z : View E). Fits first first 0 (entries x) [] (λ _. 0) j z.seen z.stage) t (prefix_self (entries x)))
        (at_snoc [] (newcomer (entries x)) v j e);
  }
