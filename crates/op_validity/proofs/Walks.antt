-- Steps of a walk, one after another.
--     same-refl, same-trans, stops-back     a step after others
--     taken, missed, ended                  one item
--     same-inserted                         insertions take no item
use Rattle.std.proofs.Common.{zero, ◌<◌, ◌≤◌, drop, get_or, drop-cons, add-one, add-zero, replicate, subst, ◌≡◌, ℕ, suc, ◌+◌, Bool, true, false, cond, List, [], ◌∷◌, ◌++◌, length, map, refl, sym, ap, ◌∙◌, arith, Option, None, Some, is_some, option_map}
use Rattle.std.proofs.lemmas.Bool.{and_from}
use Rattle.doc_items.specs.Changes.{ChangeSet, none_running}
use Rattle.doc_items.proofs.ChangeSets.{agrees_none}
use Rattle.op_validity.proofs.Demands.{unchanged}
use Rattle.doc_items.specs.declared.item.Content.TheVariants.{Character}
use Rattle.doc_items.specs.declared.item.Item.{Item}
use Rattle.doc_op.specs.Actions.{Action, Keep, Ins, Del, keep, insertion, new_values}
use Rattle.doc_op.specs.Apply.{keeps, kept, fits, apply, mismatch_from}
use Rattle.op_validity.specs.declared.demand.Demand.{Demand}
use Rattle.op_validity.specs.declared.demand.Demand.TheVariants.{Keep as KeepOne, Update as UpdateOne, Replace as ReplaceOne, Character as DeleteCharacter, Start as DeleteStart, End as DeleteEnd}
use Rattle.op_validity.specs.declared.fault.CheckFault.{CheckFault}
use Rattle.op_validity.specs.declared.fault.CheckFault.TheVariants.{NotStructured, Mismatch, WrongLength, Memory}
use Rattle.op_validity.specs.Walks.{takes, demand_action, Same, Stops}

pub same-refl : (p : ℕ) (items : List Item) (a : List Action) → Same p items a p items a
same-refl p items a = record { applies = refl; mismatch = refl; lengths = refl }

pub same-trans : (p q r : ℕ) (x y z : List Item) (a b c : List Action) → Same p x a q y b → Same q y b r z c → Same p x a r z c
same-trans p q r x y z a b c h k = record { applies = h.applies ∙ k.applies; mismatch = h.mismatch ∙ k.mismatch; lengths = omega (arith, h.lengths, k.lengths) }

pub stops-back : (e : CheckFault) (p q : ℕ) (x y : List Item) (a b : List Action) → Same p x a q y b → Stops e q y b → Stops e p x a
stops-back (NotStructured n) p q x y a b h k = k
stops-back (Mismatch n) p q x y a b h k = h.mismatch ∙ k
stops-back WrongLength p q x y a b h k = (h.mismatch ∙ k.0, λ e. k.1 (omega (arith, h.lengths, e)))
stops-back Memory p q x y a b h k = tt

some_mapped : {A B : Type 0} (f : A → B) (o : Option A) → is_some (option_map f o) ≡ is_some o
some_mapped f None = refl
some_mapped f (Some x) = refl

-- ---- one item

keep_taken : (c : Bool) (f : List Item → List Item) (o : Option (List Item)) → c ≡ true → is_some (cond c (option_map f o) None) ≡ is_some o
keep_taken true f o e = some_mapped f o
keep_taken false f o e = absurd (cc)

passed : {A : Type 0} (c : Bool) (x y : A) → c ≡ true → cond c x y ≡ x
passed true x y e = refl
passed false x y e = absurd (cc)

refused : {A : Type 0} (c : Bool) (x y : A) → c ≡ false → cond c x y ≡ y
refused false x y e = refl
refused true x y e = absurd (cc)

-- no demand inserts
abbrev pub TakesOne : Action → Type 0
TakesOne (Keep u a) = Unit {0}
TakesOne (Ins x) = ⊥
TakesOne (Del c n) = Unit {0}

pub demand-takes : (u : ChangeSet) (d : Demand) → TakesOne (demand_action u d)
demand-takes u KeepOne = tt
demand-takes u (UpdateOne changes) = tt
demand-takes u (ReplaceOne old new) = tt
demand-takes u (DeleteCharacter c) = tt
demand-takes u (DeleteStart kind attributes) = tt
demand-takes u DeleteEnd = tt

pub taken : (act : Action) (p : ℕ) (i : Item) (items : List Item) (more : List Action) → TakesOne act → takes act i ≡ true → Same p (i ∷ items) (act ∷ more) (p + 1) items more
taken (Keep u a) p i items more t e = record {
  applies = keep_taken (keeps u a i) (λ out. kept u a i ∷ out) (apply more items) e;
  mismatch = passed (keeps u a i) _ _ e;
  lengths = omega arith;
}
taken (Ins x) p i items more t e = absurd t
taken (Del c n) p i items more t e = record {
  applies = ap is_some (passed (fits c n i) (apply more items) None e);
  mismatch = passed (fits c n i) _ _ e;
  lengths = omega arith;
}

pub missed : (act : Action) (p : ℕ) (i : Item) (items : List Item) (more : List Action) → TakesOne act → takes act i ≡ false → mismatch_from p (act ∷ more) (i ∷ items) ≡ Some p
missed (Keep u a) p i items more t e = refused (keeps u a i) _ _ e
missed (Ins x) p i items more t e = absurd t
missed (Del c n) p i items more t e = refused (fits c n i) _ _ e

pub ended : (act : Action) (p : ℕ) (more : List Action) → TakesOne act → Stops WrongLength p [] (act ∷ more)
ended (Keep u a) p more t = (refl, λ e. absurd (omega (arith, e)))
ended (Ins x) p more t = absurd t
ended (Del c n) p more t = (refl, λ e. absurd (omega (arith, e)))

-- ---- insertions

pub same-insertion : (p : ℕ) (items : List Item) (x : Item) (more : List Action) → Same p items (Ins x ∷ more) p items more
same-insertion p items x more = record { applies = some_mapped (λ out. x ∷ out) (apply more items); mismatch = refl; lengths = refl }

pub same-inserted : (p : ℕ) (items : List Item) (u : ChangeSet) (text : List ℕ) (more : List Action) → Same p items (map (λ c. insertion u (Character c)) text ++ more) p items more
same-inserted p items u [] more = same-refl p items more
same-inserted p items u (c ∷ text) more =
    let rest = map (λ x. insertion u (Character x)) text ++ more in
    same-trans p p p items items items _ rest more (same-insertion p items (record { content = Character c; notes = new_values u }) rest) (same-inserted p items u text more)

-- ---- items that are kept where no changes run

keeps_any : (i : Item) → takes (keep none_running) i ≡ true
keeps_any i = and_from _ _ (agrees_none i.notes) (sym (unchanged i.content))

pub skipped : (n p : ℕ) (items : List Item) (more : List Action) → n ≤ length items → Same p items (replicate n (keep none_running) ++ more) (p + n) (drop n items) more
skipped zero p items more h = rw add-zero (same-refl p items more)
skipped (suc n) p [] more h = absurd (omega (arith, h))
skipped (suc n) p (i ∷ items) more h =
    let rest = replicate n (keep none_running) ++ more in
    let e : p + 1 + n ≡ p + suc n = omega arith in
    subst (λ q. Same p (i ∷ items) (keep none_running ∷ rest) q (drop n items) more) e
    (same-trans p (p + 1) (p + 1 + n) (i ∷ items) items (drop n items) (keep none_running ∷ rest) rest more
    (taken (keep none_running) p i items rest tt (keeps_any i)) (skipped n (p + 1) items more (omega (arith, h))))

pub too_few : (n p : ℕ) (items : List Item) (more : List Action) → length items < n → Stops WrongLength p items (replicate n (keep none_running) ++ more)
too_few zero p items more h = absurd (omega (arith, h))
too_few (suc n) p [] more h = ended (keep none_running) p (replicate n (keep none_running) ++ more) tt
too_few (suc n) p (i ∷ items) more h =
    let rest = replicate n (keep none_running) ++ more in
    stops-back WrongLength p (p + 1) (i ∷ items) items (keep none_running ∷ rest) rest
    (taken (keep none_running) p i items rest tt (keeps_any i)) (too_few n (p + 1) items more (omega (arith, h)))

-- ---- one after another

-- after the first steps of a run stands one more
pub run_more : (p q r : ℕ) (x y z : List Item) (all left rest : List Action) (act : Action) → left ≡ act ∷ rest → Same p x all q y left → Same q y (act ∷ rest) r z rest → Same p x all r z rest
run_more p q r x y z all left rest act e h k = same-trans p q r x y z all left rest h (subst (λ l. Same q y l r z rest) (sym e) k)

pub run_stops : (f : CheckFault) (p q : ℕ) (x y : List Item) (all left rest : List Action) (act : Action) → left ≡ act ∷ rest → Same p x all q y left → Stops f q y (act ∷ rest) → Stops f p x all
run_stops f p q x y all left rest act e h k = stops-back f p q x y all left h (subst (λ l. Stops f q y l) (sym e) k)

pub replicate_next : (n m : ℕ) (act : Action) (more : List Action) → m + 1 ≡ n → replicate n act ++ more ≡ act ∷ (replicate m act ++ more)
replicate_next n m act more e = rw (← e, add-one) refl

pub mapped_next : (f : ℕ → Action) (text : List ℕ) (i x : ℕ) (more : List Action) → i < length text → x ≡ get_or text i x
    → map f (drop i text) ++ more ≡ f x ∷ (map f (drop (i + 1) text) ++ more)
mapped_next f text i x more h e =
    let next : drop i text ≡ get_or text i x ∷ drop (suc i) text = drop-cons text i x h in
    rw (add-one, next, ← e) refl
