-- The depths after components of one kind, and the structure of an operation without a break.
use Rattle.std.proofs.Common.{◌≡◌, ℕ, zero, suc, ◌+◌, ◌<◌, ◌==◌, ◌&&◌, ◌||◌, List, [], ◌∷◌, ◌++◌, length, map, replicate, Bool, true, false, if◌then◌else◌, refl, sym, ap, ◌∙◌, arith, Option, None, Some, option_and_then, add-one, true≢false, get_or, take, drop, drop-cons}
use Rattle.std.proofs.Math.Seq.{take-suc}
use Rattle.doc_op.proofs.Lengths.{running-add}
use Rattle.std.proofs.lemmas.Bool.{ne_eqb, eqb-true, eq-eqb, ltb-true, lt-ltb, and_parts, and_from}
use Rattle.doc_items.specs.Balance.{level, Closes}
use Rattle.doc_items.specs.Changes.{ChangeSet, none_running}
use Rattle.doc_op.specs.declared.component.Component.{Component}
use Rattle.doc_items.specs.declared.item.Content.{Content}
use Rattle.doc_items.specs.declared.item.Content.TheVariants.{Character, Start, End}
use Rattle.doc_op.specs.declared.depths.Depths.{Depths}
use Rattle.doc_op.specs.Actions.{Action, Keep, Ins, Del, AttributeChange, insertion, deletion, component_actions, running_after, running, actions_from, actions}
use Rattle.doc_op.specs.Structure.{ground, is_ground, closes, depths_after, depths_behind, StructuredFrom, Structured, unless_broken, first_break_from, first_break}

when : (b : Bool) (d : Depths) (f : Depths → Option Depths) → option_and_then f (if b then Some d else None) ≡ (if b then f d else None)
when true d f = refl
when false d f = refl

-- one action more of a run that goes on where b holds
one_more : (n b : Bool) (d : Depths) (x : Option Depths) → x ≡ (if n || b then Some d else None) → (if b then x else None) ≡ (if b then Some d else None)
one_more true true d x e = e
one_more false true d x e = e
one_more n false d x e = refl

nonzero : (n : ℕ) → (suc n == 0) ≡ false
nonzero n = ne_eqb (suc n) 0 (λ e. absurd (omega (arith, e)))

pub behind-kept : (n : ℕ) (d : Depths) (u : ChangeSet) (a : AttributeChange) → depths_behind d (replicate n (Keep u a)) ≡ (if (n == 0) || is_ground d then Some d else None)
behind-kept zero d u a = refl
behind-kept (suc n) d u a =
    when (is_ground d) d (λ e. depths_behind e (replicate n (Keep u a)))
    ∙ one_more (n == 0) (is_ground d) d (depths_behind d (replicate n (Keep u a))) (behind-kept n d u a)
    ∙ sym (ap (λ b. if b || is_ground d then Some d else None) (nonzero n))

and_true : (b : Bool) → (b && true) ≡ b
and_true true = refl
and_true false = refl

pub behind-inserted : (d : Depths) (u : ChangeSet) (t : List ℕ) → depths_behind d (map (λ c. insertion u (Character c)) t) ≡ (if (length t == 0) || (d.deleted == 0) then Some d else None)
behind-inserted d u [] = refl
behind-inserted d u (c ∷ t) =
    let rest = map (λ c. insertion u (Character c)) t in
    ap (λ b. option_and_then (λ e. depths_behind e rest) (if b then Some d else None)) (and_true (d.deleted == 0))
    ∙ when (d.deleted == 0) d (λ e. depths_behind e rest)
    ∙ one_more (length t == 0) (d.deleted == 0) d (depths_behind d rest) (behind-inserted d u t)
    ∙ sym (ap (λ b. if b || (d.deleted == 0) then Some d else None) (nonzero (length t)))

pub behind-deleted : (d : Depths) (u : ChangeSet) (t : List ℕ) → depths_behind d (map (λ c. deletion u (Character c)) t) ≡ (if (length t == 0) || (d.inserted == 0) then Some d else None)
behind-deleted d u [] = refl
behind-deleted d u (c ∷ t) =
    let rest = map (λ c. deletion u (Character c)) t in
    ap (λ b. option_and_then (λ e. depths_behind e rest) (if b then Some d else None)) (and_true (d.inserted == 0))
    ∙ when (d.inserted == 0) d (λ e. depths_behind e rest)
    ∙ one_more (length t == 0) (d.inserted == 0) d (depths_behind d rest) (behind-deleted d u t)
    ∙ sym (ap (λ b. if b || (d.inserted == 0) then Some d else None) (nonzero (length t)))

pub ruleset runs_of_one_kind = (behind-kept, behind-inserted, behind-deleted)

-- ---- the rules as one fact

taken : (b : Bool) (d g : Depths) (f : Depths → Option Depths) → option_and_then f (if b then Some d else None) ≡ Some g → (b ≡ true) × (f d ≡ Some g)
taken true d g f e = (refl, e)
taken false d g f e = absurd (cc)

gives : (b : Bool) (d : Depths) (f : Depths → Option Depths) → b ≡ true → option_and_then f (if b then Some d else None) ≡ f d
gives true d f e = refl
gives false d f e = absurd (true≢false (sym e))

closes-Closes : (c : Content) (n : ℕ) → closes c n ≡ true → Closes c n
closes-Closes (Character c) n e = tt
closes-Closes (Start kind m) n e = tt
closes-Closes End n e = ltb-true 0 n e

Closes-closes : (c : Content) (n : ℕ) → Closes c n → closes c n ≡ true
Closes-closes (Character c) n h = refl
Closes-closes (Start kind m) n h = refl
Closes-closes End n h = lt-ltb 0 n h

pub Structured-behind : (acts : List Action) (d : Depths) → depths_behind d acts ≡ Some ground → StructuredFrom d.inserted d.deleted acts
Structured-behind [] d e = let q : d ≡ ground = cc in (ap (λ (x : Depths). x.inserted) q, ap (λ (x : Depths). x.deleted) q)
Structured-behind (Keep u a ∷ more) d e =
    let t = taken (is_ground d) d ground (λ x. depths_behind x more) e in
    let p = and_parts (d.inserted == 0) (d.deleted == 0) t.0 in
    (eqb-true d.inserted 0 p.0, eqb-true d.deleted 0 p.1, Structured-behind more d t.1)
Structured-behind (Ins x ∷ more) d e =
    let next : Depths = record { inserted = level x.content d.inserted; deleted = d.deleted } in
    let t = taken ((d.deleted == 0) && closes x.content d.inserted) next ground (λ y. depths_behind y more) e in
    let p = and_parts (d.deleted == 0) (closes x.content d.inserted) t.0 in
    (eqb-true d.deleted 0 p.0, closes-Closes x.content d.inserted p.1, Structured-behind more next t.1)
Structured-behind (Del c n ∷ more) d e =
    let next : Depths = record { inserted = d.inserted; deleted = level c d.deleted } in
    let t = taken ((d.inserted == 0) && closes c d.deleted) next ground (λ y. depths_behind y more) e in
    let p = and_parts (d.inserted == 0) (closes c d.deleted) t.0 in
    (eqb-true d.inserted 0 p.0, closes-Closes c d.deleted p.1, Structured-behind more next t.1)

pub behind-Structured : (acts : List Action) (d : Depths) → StructuredFrom d.inserted d.deleted acts → depths_behind d acts ≡ Some ground
behind-Structured [] d h = λ i. Some (record { inserted = h.0 i; deleted = h.1 i })
behind-Structured (Keep u a ∷ more) d h =
    gives (is_ground d) d (λ x. depths_behind x more) (and_from _ _ (eq-eqb d.inserted 0 h.0) (eq-eqb d.deleted 0 h.1)) ∙ behind-Structured more d h.2
behind-Structured (Ins x ∷ more) d h =
    let next : Depths = record { inserted = level x.content d.inserted; deleted = d.deleted } in
    gives ((d.deleted == 0) && closes x.content d.inserted) next (λ y. depths_behind y more) (and_from _ _ (eq-eqb d.deleted 0 h.0) (Closes-closes x.content d.inserted h.1)) ∙ behind-Structured more next h.2
behind-Structured (Del c n ∷ more) d h =
    let next : Depths = record { inserted = d.inserted; deleted = level c d.deleted } in
    gives ((d.inserted == 0) && closes c d.deleted) next (λ y. depths_behind y more) (and_from _ _ (eq-eqb d.inserted 0 h.0) (Closes-closes c d.deleted h.1)) ∙ behind-Structured more next h.2

-- ---- along the components

behind-append : (xs ys : List Action) (d : Depths) → depths_behind d (xs ++ ys) ≡ option_and_then (λ e. depths_behind e ys) (depths_behind d xs)
behind-append [] ys d = refl
behind-append (x ∷ xs) ys d = elim (depths_after d x) as (λ o. option_and_then (λ e. depths_behind e (xs ++ ys)) o ≡ option_and_then (λ e. depths_behind e ys) (option_and_then (λ e. depths_behind e xs) o)) [
  | None ↦ refl
  | Some e ↦ behind-append xs ys e
]

ground-eta : (d : Depths) → is_ground d ≡ true → d ≡ ground
ground-eta d e = let p = and_parts (d.inserted == 0) (d.deleted == 0) e in λ i. record { inserted = eqb-true d.inserted 0 p.0 i; deleted = eqb-true d.deleted 0 p.1 i }

at_end : (n : ℕ) (d : Depths) → first_break_from n d none_running [] ≡ None → Some d ≡ Some ground
at_end n d e = elim (is_ground d) as (λ b. is_ground d ≡ b → (if b then None else Some n) ≡ None → Some d ≡ Some ground) [
  | true ↦ λ t _. ap Some (ground-eta d t)
  | false ↦ λ t f. absurd (cc)
] refl e

pub unbroken-behind : (cs : List Component) (n : ℕ) (d : Depths) (u : ChangeSet) → first_break_from n d u cs ≡ None → depths_behind d (actions_from u cs) ≡ Some ground
unbroken-behind [] n d u e = at_end n d e
unbroken-behind (c ∷ cs) n d u e = behind-append (component_actions u c) (actions_from (running_after u c) cs) d ∙ elim (depths_behind d (component_actions u c))
    as (λ o. unless_broken n (λ x. first_break_from (n + 1) x (running_after u c) cs) o ≡ None → option_and_then (λ x. depths_behind x (actions_from (running_after u c) cs)) o ≡ Some ground) [
      | None ↦ λ f. absurd (cc)
      | Some x ↦ λ f. unbroken-behind cs (n + 1) x (running_after u c) f
    ] e

pub behind-unbroken : (cs : List Component) (n : ℕ) (d : Depths) (u : ChangeSet) → depths_behind d (actions_from u cs) ≡ Some ground → first_break_from n d u cs ≡ None
behind-unbroken [] n d u e = let q : d ≡ ground = cc in ap (λ (x : Depths). first_break_from n x u []) q
behind-unbroken (c ∷ cs) n d u e = elim (depths_behind d (component_actions u c))
    as (λ o. option_and_then (λ x. depths_behind x (actions_from (running_after u c) cs)) o ≡ Some ground → unless_broken n (λ x. first_break_from (n + 1) x (running_after u c) cs) o ≡ None) [
      | None ↦ λ f. absurd (cc)
      | Some x ↦ λ f. behind-unbroken cs (n + 1) x (running_after u c) f
    ] (sym (behind-append (component_actions u c) (actions_from (running_after u c) cs) d) ∙ e)

-- an operation is structured exactly where it has no break
pub unbroken_is_structured : (cs : List Component) → first_break cs ≡ None → Structured (actions cs)
unbroken_is_structured cs e = Structured-behind (actions cs) ground (unbroken-behind cs 0 ground none_running e)

pub structured_is_unbroken : (cs : List Component) → Structured (actions cs) → first_break cs ≡ None
structured_is_unbroken cs h = behind-unbroken cs 0 ground none_running (behind-Structured (actions cs) ground h)

-- ---- one component further

pub first_break-next : (cs : List Component) (i n : ℕ) (d e : Depths) (c : Component) → i < length cs → c ≡ get_or cs i c
    → ((u : ChangeSet) → Some e ≡ depths_behind d (component_actions u c))
    → first_break_from n d (running (take i cs)) (drop i cs) ≡ first_break_from (n + 1) e (running (take (i + 1) cs)) (drop (i + 1) cs)
first_break-next cs i n d e c h is b =
    let u = running (take i cs) in
    let next : drop i cs ≡ c ∷ drop (i + 1) cs = drop-cons cs i c h ∙ (λ k. sym is k ∷ drop (sym (add-one i) k) cs) in
    let runs : running_after u c ≡ running (take (i + 1) cs) =
    sym (ap running (ap (λ k. take k cs) (add-one i) ∙ take-suc cs i c h ∙ ap (λ x. take i cs ++ x ∷ []) (sym is)) ∙ running-add (take i cs) c) in
    ap (first_break_from n d u) next
    ∙ ap (unless_broken n (λ x. first_break_from (n + 1) x (running_after u c) (drop (i + 1) cs))) (sym (b u))
    ∙ ap (λ w. first_break_from (n + 1) e w (drop (i + 1) cs)) runs

pub first_break-here : (cs : List Component) (i n : ℕ) (d : Depths) (c : Component) → i < length cs → c ≡ get_or cs i c
    → ((u : ChangeSet) → None ≡ depths_behind d (component_actions u c))
    → first_break_from n d (running (take i cs)) (drop i cs) ≡ Some n
first_break-here cs i n d c h is b =
    let u = running (take i cs) in
    let next : drop i cs ≡ c ∷ drop (i + 1) cs = drop-cons cs i c h ∙ (λ k. sym is k ∷ drop (sym (add-one i) k) cs) in
    ap (first_break_from n d u) next
    ∙ ap (unless_broken n (λ x. first_break_from (n + 1) x (running_after u c) (drop (i + 1) cs))) (sym (b u))
