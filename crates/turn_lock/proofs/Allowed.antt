-- What each step needs: whatever the state is, it keeps the rule, and tells what it is to tell.
use Rattle.std.proofs.Common.{◌≡◌, inl, inr, ℕ, ◌+◌, ◌<◌, ◌≤◌, eqb, List, [], ◌∷◌, ◌++◌, length, get_or, sym, refl, ap, ◌∙◌, subst, arith, Option, Some, None, Bool, true, false, MatchBool, IfSome, append-nil, length-append, eq-eqb, ne_eqb}
use mathlib.Core.Logic.{dite}
use mathlib.Core.Option.{none, some, some-injective}
use mathlib.Core.Option as maybe
use mathlib.Core.List.{IsPrefix}
use native.Mathlib.Decide.{ℕ_discrete}
use lib.ListN.{get_elem?}
use prog.Atomic.{either}
use Rattle.atomic_table.specs.Table.{State, Me, step, keeps, takes, gives, rest, Final, Seen, stepped, Allows, Splits, Joins, opening}
use Rattle.atomic_table.proofs.Lists.{set_else}
use Rattle.turn_lock.specs.declared.view.View.{View}
use Rattle.turn_lock.specs.declared.view.Stage.{Stage}
use Rattle.turn_lock.specs.declared.view.Stage.TheVariants.{Out, Waits, Turn, Inside, Fresh, Gave, Told, Joined}
use Rattle.turn_lock.specs.Turns.{turn_limit, InTurn, newcomer, nobody, told, longer_of}
use Rattle.turn_lock.specs.Tells.{TellsTicket, TellsDraw, TellsServing, TellsHead, TellsTaken, TellsGiven, TellsAdded, TellsPublished, TellsPassed, TellsSettled}
use Rattle.turn_lock.specs.Passes.{IsOneMore}
use Rattle.turn_lock.proofs.Beginnings.{prefix_more, longer_begins}
use Rattle.turn_lock.proofs.Keeping.{fits_as, draws_keep, ticket_looks_keep, serving_looks_keep, head_looks_keep, settling_keeps, takes_keep, gives_keep, gives_new_keep, publishing, passing_keeps, splitting_keeps, joining_keeps, opens}

module _ {T E : Type 0} (entries : T → List E) where
  abbrev St : Type 0
  St = State (Option T) (View E)

  abbrev M : Type 0
  M = Me (Option T) (View E)

  abbrev sat : View E → List (ℕ × Option T) → M
  sat v c = (v, c)

  abbrev Homes : Type 0
  Homes = List (maybe.Option (Option T))

  abbrev ticket_or : Stage E → ℕ
  ticket_or Out = 0
  ticket_or (Waits t) = t
  ticket_or (Turn t) = t
  ticket_or (Inside t) = t
  ticket_or (Fresh t e) = t
  ticket_or (Gave t) = t
  ticket_or (Told xs) = 0
  ticket_or Joined = 0

  abbrev entry_or : E → Stage E → E
  entry_or d (Fresh t e) = e
  entry_or d _ = d

  abbrev told_or : List E → Stage E → List E
  told_or d (Told xs) = xs
  told_or d _ = d

  abbrev carried_or : T → List (ℕ × Option T) → T
  carried_or d [] = d
  carried_or d (x ∷ xs) = elim x.1 [ None ↦ d | Some y ↦ y ]

  pub looks_ticket : (slots id : ℕ) (me : M) → me.0.stage ≡ Out → Allows (InTurn entries) slots id me 0 (λ x. x) (TellsTicket (step slots 0 0 0 none) me)
  looks_ticket slots id me is s r deep at small = let n : ℕ = get_or s.words 0 0 in (record me.0 { ticket = n }, keeps, tt, (r.0, ticket_looks_keep entries r.0 id s _ r.1 (me.0, (at, is), refl)), refl)

  pub looks_head : (slots id : ℕ) (me : M) → me.0.stage ≡ Out → Allows (InTurn entries) slots id me 2 (λ x. x) (TellsHead (step slots 2 0 0 none) me)
  looks_head slots id me is s r deep at small = let log : List E = r.0 in let n : ℕ = get_or s.words 2 0 in let v : View E = me.0 in
      let head : n ≡ length log = ap (λ ws. get_or ws 2 0) r.1.words in let before : IsPrefix v.seen log = fits_as entries log s r.1 id v Out at is in
      (record v { seen = log; loads = v.loads + 1 }, keeps, tt, (log, head_looks_keep entries log id s _ r.1 (v, (at, is), refl)), (refl, before, sym head))

  pub looks_serving : (slots id : ℕ) (me : M) (t : ℕ) → me.0.stage ≡ Waits t → Allows (InTurn entries) slots id me 1 (λ x. x) (TellsServing (step slots 1 0 0 none) me)
  looks_serving slots id me t is s r deep at small = let log : List E = r.0 in let n : ℕ = get_or s.words 1 0 in let v : View E = me.0 in dite (ℕ_discrete n t)
      (λ hit. let w : View E = record v { stage = Turn t } in (
        w,
        keeps,
        tt,
        (log, serving_looks_keep entries log id s _ r.1 (v, t, (at, is), inl (hit, refl))),
        λ t' is'. let same : t ≡ t' = ap ticket_or (sym is ∙ is') in subst (λ (z : ℕ). MatchBool (eqb n z) (sat w me.1 ≡ sat (record v { stage = Turn z }) me.1) (sat w me.1 ≡ me)) same
            (subst (λ (b : Bool). MatchBool b (sat w me.1 ≡ sat (record v { stage = Turn t }) me.1) (sat w me.1 ≡ me)) (sym (eq-eqb n t hit)) refl),
      ))
      (λ miss. (
        v,
        keeps,
        tt,
        (log, serving_looks_keep entries log id s _ r.1 (v, t, (at, is), inr (miss, refl))),
        λ t' is'. let same : t ≡ t' = ap ticket_or (sym is ∙ is') in subst (λ (z : ℕ). MatchBool (eqb n z) (sat v me.1 ≡ sat (record v { stage = Turn z }) me.1) (sat v me.1 ≡ me)) same
            (subst (λ (b : Bool). MatchBool b (sat v me.1 ≡ sat (record v { stage = Turn t }) me.1) (sat v me.1 ≡ me)) (sym (ne_eqb n t miss)) refl),
      ))

  pub draws : (slots id : ℕ) (me : M) (old new : ℕ) → me.0.stage ≡ Out → old < turn_limit → new ≡ old + 1
      → Allows (InTurn entries) slots id me 0 (λ x. either (eqb x old) new x) (TellsDraw (step slots 0 old new none) me)
  draws slots id me old new is small up s r deep at _ = let log : List E = r.0 in let n : ℕ = get_or s.words 0 0 in let v : View E = me.0 in dite (ℕ_discrete n old)
      (λ hit. let w : View E = record v { ticket = n; stage = Waits n } in let next : new ≡ n + 1 = omega arith in (
        w,
        keeps,
        tt,
        subst (λ (b : Bool). InTurn entries (stepped s 0 (either b new n) id me.1 w keeps)) (sym (eq-eqb n old hit))
            (log, draws_keep entries log id s _ r.1 (v, (at, is), omega arith, ap (λ (z : ℕ). stepped s 0 z id me.1 w keeps) next)),
        subst (λ (b : Bool). MatchBool b (sat w me.1 ≡ sat w me.1) (sat w me.1 ≡ sat (record v { ticket = n }) me.1)) (sym (eq-eqb n old hit)) refl,
      ))
      (λ miss. let w : View E = record v { ticket = n } in (
        w,
        keeps,
        tt,
        subst (λ (b : Bool). InTurn entries (stepped s 0 (either b new n) id me.1 w keeps)) (sym (ne_eqb n old miss)) (log, ticket_looks_keep entries log id s _ r.1 (v, (at, is), refl)),
        subst (λ (b : Bool). MatchBool b (sat w me.1 ≡ sat (record v { ticket = n; stage = Waits n }) me.1) (sat w me.1 ≡ sat w me.1)) (sym (ne_eqb n old miss)) refl,
      ))

  pub takes_it : (slots id : ℕ) (me : M) (t : ℕ) → me.0.stage ≡ Turn t → Allows (InTurn entries) slots id me 3 (λ _. 1) (λ _. TellsTaken entries (step slots 3 1 0 none) me 1)
  takes_it slots id me t is s r deep at _ = let log : List E = r.0 in let v : View E = me.0 in let k = r.1 in let fits = fits_as entries log s k id v (Turn t) at is in
      let at_home = k.home fits.3 in let x : T = at_home.0 in let there = ap (λ (h : Homes). get_elem? h 0) at_home.1 in
      let whole : entries x ≡ log = at_home.2 ∙ (ap (λ l. log ++ l) fits.4 ∙ append-nil log) in (
        record v { seen = entries x; stage = Inside t },
        takes 0 (Some x),
        there,
        (log, takes_keep entries log id s _ k (v, t, x, (at, is), there, refl)),
        λ t' is'. let same : t ≡ t' = ap ticket_or (sym is ∙ is') in (x, ap (λ (z : ℕ). sat (record v { seen = entries x; stage = Inside z }) ((0, Some x) ∷ me.1)) same, subst (IsPrefix v.seen) (sym whole) fits.0),
      )

  pub gives_back : (slots id : ℕ) (me : M) (t : ℕ) (x : T) → me.0.stage ≡ Inside t → me.1 ≡ (0, Some x) ∷ [] → entries x ≡ me.0.seen
      → Allows (InTurn entries) slots id me 3 (λ _. 0) (λ _. TellsGiven (step slots 3 0 0 none) me 0)
  gives_back slots id me t x is carried same_entries s r deep at _ = let v : View E = me.0 in let w : View E = record v { stage = Gave t } in (
    w,
    gives,
    tt,
    (r.0, gives_keep entries r.0 id s _ r.1 (v, t, x, (at, is), same_entries, ap (λ (c : List (ℕ × Option T)). stepped s 3 0 id c w gives) carried)),
    λ t' is'. let same : t ≡ t' = ap ticket_or (sym is ∙ is') in λ i. sat (record v { stage = Gave (same i) }) (rest (carried i)),
  )

  pub gives_new : (slots id : ℕ) (me : M) (t : ℕ) (x : T) (e : E) → me.0.stage ≡ Inside t → me.1 ≡ (0, Some x) ∷ [] → entries x ≡ me.0.seen ++ e ∷ []
      → Allows (InTurn entries) slots id me 3 (λ _. 0) (λ _. TellsAdded entries (step slots 3 0 0 none) me 0)
  gives_new slots id me t x e is carried one_more s r deep at _ = let v : View E = me.0 in let w : View E = record v { added = v.added + 1; stage = Fresh t e } in (
    w,
    gives,
    tt,
    (r.0, gives_new_keep entries r.0 e id s _ r.1 (v, t, x, (at, is), one_more, ap (λ (c : List (ℕ × Option T)). stepped s 3 0 id c w gives) carried)),
    λ t' x' is' carried'. let same : t ≡ t' = ap ticket_or (sym is ∙ is') in let same_x : x ≡ x' = ap (carried_or x) (sym carried ∙ carried') in
        (e, subst (λ (y : T). entries y ≡ v.seen ++ e ∷ []) same_x one_more, λ i. sat (record v { added = v.added + 1; stage = Fresh (same i) e }) (rest (carried i))),
  )

  pub publishes : (slots id : ℕ) (me : M) (t new : ℕ) (e : E) → me.0.stage ≡ Fresh t e → new ≡ length me.0.seen + 1
      → Allows (InTurn entries) slots id me 2 (λ _. new) (λ _. TellsPublished (step slots 2 new 0 none) me new)
  publishes slots id me t new e is up s r deep at _ = let v : View E = me.0 in let w : View E = record v { seen = v.seen ++ e ∷ []; stage = Gave t } in (
    w,
    keeps,
    tt,
    (r.0 ++ e ∷ [], publishing entries r.0 e id s _ r.1 (v, t, (at, is), ap (λ (z : ℕ). stepped s 2 z id me.1 w keeps) up)),
    λ t' e' is'. let same : t ≡ t' = ap ticket_or (sym is ∙ is') in let same_e : e ≡ e' = ap (entry_or e) (sym is ∙ is') in
        λ i. sat (record v { seen = v.seen ++ same_e i ∷ []; stage = Gave (same i) }) me.1,
  )

  pub passes_on : (slots id : ℕ) (me : M) (t new : ℕ) → me.0.stage ≡ Gave t → new ≡ t + 1 → Allows (InTurn entries) slots id me 1 (λ _. new) (λ _. TellsPassed (step slots 1 new 0 none) me new)
  passes_on slots id me t new is up s r deep at _ = let w : View E = record me.0 { stage = Out } in (
    w,
    keeps,
    tt,
    (r.0, passing_keeps entries r.0 id s _ r.1 (me.0, t, (at, is), ap (λ (z : ℕ). stepped s 1 z id me.1 w keeps) up)),
    λ t' is'. refl,
  )

  pub splits : (id : ℕ) (v : View E) → v.stage ≡ Out → Splits (InTurn entries) id v v (newcomer v.seen)
  splits id v is s r at = (r.0, splitting_keeps entries r.0 id s _ r.1 (v, (at, is), refl))

  pub joins : (id : ℕ) (v : View E) (other : ℕ) (w : View E) → v.stage ≡ Out → w.stage ≡ Out → Joins (InTurn entries) id v other w (told v w) nobody
  joins id v other w is is' s r at apart there = let at_other : get_elem? s.views other ≡ some w = sym (set_else s.views id other (told v w) apart) ∙ there in
      (r.0, joining_keeps entries r.0 other id s _ r.1 (v, w, (at, is), (at_other, is'), apart, refl))

  pub settles : (slots id : ℕ) (me : M) (xs : List E) → me.0.stage ≡ Told xs → Allows (InTurn entries) slots id me 0 (λ x. x) (TellsSettled (step slots 0 0 0 none) me)
  settles slots id me xs is s r deep at small = let log : List E = r.0 in let v : View E = me.0 in let fits = fits_as entries log s r.1 id v (Told xs) at is in
      let w : View E = record v { seen = longer_of v.seen xs; stage = Out } in let both = longer_begins v.seen xs log fits.0 fits.1 in (
        w,
        keeps,
        tt,
        (log, settling_keeps entries log id s _ r.1 (v, xs, (at, is), refl)),
        λ ys is'. let same : xs ≡ ys = ap (told_or xs) (sym is ∙ is') in
            subst (λ (z : List E). (sat w me.1 ≡ sat (record v { seen = longer_of v.seen z; stage = Out }) me.1) × IsPrefix v.seen w.seen × IsPrefix z w.seen) same (refl, both.1, both.2),
      )

  pub starts : (x : T) (first n : ℕ) → first ≤ turn_limit → n ≡ length (entries x) → InTurn entries (opening (first ∷ first ∷ n ∷ 0 ∷ []) (Some x ∷ []) (newcomer (entries x)))
  starts x first n small is = (entries x, opens entries x first n small is)

  -- at the end the value lies in the slot where word 3 is 0, and its entries begin with what the pass has seen
  pub closes_full : (id : ℕ) (v : View E) (ws : List ℕ) (xs : List (Option T)) (n : ℕ) (y : Option T) → v.stage ≡ Out → Final (Seen (InTurn entries) id v) ws xs → get_elem? ws 3 ≡ some n → n ≡ 0 → get_elem? xs 0 ≡ some y
      → IfSome y (λ x. IsPrefix v.seen (entries x))
  closes_full id v ws xs n y is final word zero_word there = let s = final.0 in let r = final.1.0 in let log : List E = r.0 in let k = r.1 in let before : IsPrefix v.seen log = fits_as entries log s k id v Out final.1.1 is in
      let home : k.away ≡ 0 = some-injective k.away n (sym (ap (λ l. get_elem? l 3) k.words) ∙ (ap (λ l. get_elem? l 3) final.2 ∙ word)) ∙ zero_word in let at_home = k.home home in
      let here = final.4 0 (Some at_home.0) (ap (λ (h : Homes). get_elem? h 0) at_home.1) in
      let whole : Some at_home.0 ≡ y = some-injective (Some at_home.0) y (sym here ∙ there) in
      subst (λ (z : Option T). IfSome z (λ x. IsPrefix v.seen (entries x))) whole (subst (IsPrefix v.seen) (sym at_home.2) (prefix_more v.seen log k.fresh before))

  -- what the seat carries once it wrote the value into the slot
  pub carries : (m m' : M) (t : ℕ) (x : T) → m.1 ≡ (0, None) ∷ [] → m.0.stage ≡ Inside t → m' ≡ sat m.0 ((0, Some x) ∷ rest m.1) → (m'.0.stage ≡ Inside t) × (m'.1 ≡ (0, Some x) ∷ [])
  carries m m' t x out is wrote = (ap (λ (z : M). z.0.stage) wrote ∙ is, ap (λ (z : M). z.1) wrote ∙ ap (λ (c : List (ℕ × Option T)). (0, Some x) ∷ rest c) out)

  pub may_give : (slots id : ℕ) (m m' : M) (t : ℕ) (x : T) → m.1 ≡ (0, None) ∷ [] → m.0.stage ≡ Inside t → m' ≡ sat m.0 ((0, Some x) ∷ rest m.1) → entries x ≡ m.0.seen
      → Allows (InTurn entries) slots id m' 3 (λ _. 0) (λ _. TellsGiven (step slots 3 0 0 none) m' 0)
  may_give slots id m m' t x out is wrote same = let now = carries m m' t x out is wrote in gives_back slots id m' t x now.0 now.1 (same ∙ ap (λ (z : M). z.0.seen) (sym wrote))

  pub may_give_new : (slots id : ℕ) (m m' : M) (t : ℕ) (x : T) → m.1 ≡ (0, None) ∷ [] → m.0.stage ≡ Inside t → m' ≡ sat m.0 ((0, Some x) ∷ rest m.1) → IsOneMore m.0.seen (entries x)
      → Allows (InTurn entries) slots id m' 3 (λ _. 0) (λ _. TellsAdded entries (step slots 3 0 0 none) m' 0)
  may_give_new slots id m m' t x out is wrote more = let now = carries m m' t x out is wrote in
      gives_new slots id m' t x more.0 now.0 now.1 (more.1 ∙ ap (λ (l : List E). l ++ more.0 ∷ []) (ap (λ (z : M). z.0.seen) (sym wrote)))

  -- what the seat knows once it gave the value back with a new entry
  pub gave_one_more : (slots : ℕ) (m m' m'' : M) (t : ℕ) (x : T) → m.1 ≡ (0, None) ∷ [] → m.0.stage ≡ Inside t → m' ≡ sat m.0 ((0, Some x) ∷ rest m.1) → TellsAdded entries (step slots 3 0 0 none) m' 0 m''
      → (e : E) × (m''.0.stage ≡ Fresh t e) × (m''.1 ≡ []) × (m''.0.seen ++ e ∷ [] ≡ entries x) × (m''.0.added ≡ m.0.added + 1) × (m''.0.loads ≡ m.0.loads) × (m''.0.ticket ≡ m.0.ticket)
  gave_one_more slots m m' m'' t x out is wrote tells = let now = carries m m' t x out is wrote in let told = tells t x now.0 now.1 in let e : E = told.0 in let last : m'' ≡ sat (record m'.0 { added = m'.0.added + 1; stage = Fresh t e }) [] = told.2 in (
    e,
    ap (λ (z : M). z.0.stage) last,
    ap (λ (z : M). z.1) last,
    ap (λ (z : M). z.0.seen ++ e ∷ []) last ∙ sym told.1,
    ap (λ (z : M). z.0.added) last ∙ ap (λ (z : M). z.0.added + 1) wrote,
    ap (λ (z : M). z.0.loads) last ∙ ap (λ (z : M). z.0.loads) wrote,
    ap (λ (z : M). z.0.ticket) last ∙ ap (λ (z : M). z.0.ticket) wrote,
  )

  pub may_publish : (slots id : ℕ) (m m' m'' : M) (t now : ℕ) (x : T) → m.1 ≡ (0, None) ∷ [] → m.0.stage ≡ Inside t → m' ≡ sat m.0 ((0, Some x) ∷ rest m.1) → TellsAdded entries (step slots 3 0 0 none) m' 0 m'' → now ≡ length (entries x)
      → Allows (InTurn entries) slots id m'' 2 (λ _. now) (λ _. TellsPublished (step slots 2 now 0 none) m'' now)
  may_publish slots id m m' m'' t now x out is wrote tells long = let g = gave_one_more slots m m' m'' t x out is wrote tells in
      let all : length (m''.0.seen ++ g.0 ∷ []) ≡ length (entries x) = ap length g.3 in publishes slots id m'' t now g.0 g.1 (omega (arith, length-append m''.0.seen (g.0 ∷ [])))

  -- what the seat knows once it published
  pub gave_new_published : (slots : ℕ) (m m' m'' last : M) (t now : ℕ) (x : T) → m.1 ≡ (0, None) ∷ [] → m.0.stage ≡ Inside t → m' ≡ sat m.0 ((0, Some x) ∷ rest m.1) → TellsAdded entries (step slots 3 0 0 none) m' 0 m'' → TellsPublished (step slots 2 now 0 none) m'' now last
      → (last.1 ≡ []) × (last.0.stage ≡ Gave t) × (last.0.seen ≡ entries x) × (last.0.added ≡ m.0.added + 1) × (last.0.loads ≡ m.0.loads) × (last.0.ticket ≡ m.0.ticket)
  gave_new_published slots m m' m'' last t now x out is wrote tells published = let g = gave_one_more slots m m' m'' t x out is wrote tells in let e = published t g.0 g.1 in (
    ap (λ (z : M). z.1) e ∙ g.2,
    ap (λ (z : M). z.0.stage) e,
    ap (λ (z : M). z.0.seen) e ∙ g.3,
    ap (λ (z : M). z.0.added) e ∙ g.4,
    ap (λ (z : M). z.0.loads) e ∙ g.5,
    ap (λ (z : M). z.0.ticket) e ∙ g.6,
  )

  -- what a look at the serving word tells a seat that holds no slot
  pub served_or_waits : (P : Type 0) (b : Bool) (m m' : M) (t : ℕ) → P → m.1 ≡ [] → m.0.stage ≡ Waits t → MatchBool b (m' ≡ sat (record m.0 { stage = Turn t }) m.1) (m' ≡ m)
      → MatchBool b (P × (m'.1 ≡ []) × (m'.0.stage ≡ Turn t)) (P × (m'.1 ≡ []) × (m'.0.stage ≡ Waits t))
  served_or_waits P true m m' t p bare is e = (p, ap (λ (z : M). z.1) e ∙ bare, ap (λ (z : M). z.0.stage) e)
  served_or_waits P false m m' t p bare is e = (p, ap (λ (z : M). z.1) e ∙ bare, ap (λ (z : M). z.0.stage) e ∙ is)

  pub served_same : (b : Bool) (m m' : M) (t : ℕ) → MatchBool b (m' ≡ sat (record m.0 { stage = Turn t }) m.1) (m' ≡ m)
      → (m'.0.seen ≡ m.0.seen) × (m'.0.loads ≡ m.0.loads) × (m'.0.added ≡ m.0.added) × (m'.0.ticket ≡ m.0.ticket)
  served_same true m m' t e = (ap (λ (z : M). z.0.seen) e, ap (λ (z : M). z.0.loads) e, ap (λ (z : M). z.0.added) e, ap (λ (z : M). z.0.ticket) e)
  served_same false m m' t e = (ap (λ (z : M). z.0.seen) e, ap (λ (z : M). z.0.loads) e, ap (λ (z : M). z.0.added) e, ap (λ (z : M). z.0.ticket) e)
