-- What deletions name and insertions have, as the changes that run there say.
--     named_there, agrees_there     the second's old values are there, where the first inserts
--     named_follows                 a deletion's names agree with the changes before it
--     put_new, names_old            new values after other changes;  names before them
use Rattle.std.proofs.Common.{◌≡◌, Bool, true, refl, sym, ap, subst, ◌∙◌, Option, None, Some, option_map, option_and_then}
use Rattle.std.specs.Cmp.{both_ways}
use Rattle.std.specs.FinMap.{get}
use Rattle.doc_items.specs.Maps.{Key, Map, same_value, matches}
use Rattle.doc_items.specs.Changes.{KeyChange, ChangeSet, fits_old, set_new, agrees, put}
use Rattle.doc_items.proofs.Maps.{alike, get-merge, get-each, get-picked, matches_at, matches_all, same_value-is, same_value-refl}
use Rattle.change_view.specs.declared.rule.Rule.TheVariants.{Second}
use Rattle.change_view.specs.declared.rule.Test.TheVariants.{NewIsOld, OldIsThere}
use Rattle.change_view.specs.Rules.{one_second, new_is_old, old_is_there, passing}
use Rattle.change_view.specs.Sets.{joined, passes}
use Rattle.doc_op.specs.Actions.{new_values, old_values}
use Rattle.doc_op.specs.Apply.{named}
use Rattle.op_compose.specs.Chains.{named_new, one_name_before, names_before}

-- two tests that say the same at each key
module _ {X Y V W : Type 0} where
  same_tests : (p : Option X → Option Y → Bool) (q : Option V → Option W → Bool) (m : Map X) (n : Map Y) (k : Map V) (l : Map W) → p None None ≡ true → q None None ≡ true
      → ((key : Key) → p (get m key) (get n key) ≡ q (get k key) (get l key)) → matches p m n ≡ matches q k l
  same_tests p q m n k l z y h = both_ways _ _
      (λ e. matches_all q k l (λ key. sym (h key) ∙ matches_at p m n key z e))
      (λ e. matches_all p m n (λ key. h key ∙ matches_at q k l key y e))

old_at : (u : ChangeSet) (q : Key) → get (old_values u) q ≡ option_map (λ c. c.old) (get u q)
old_at u q = get-each (λ c. c.old) u q

new_at : (u : ChangeSet) (q : Key) → get (new_values u) q ≡ option_and_then (λ c. c.new) (get u q)
new_at u q = get-picked (λ c. c.new) u q

-- ---- where the first inserts

named_one : (w u : Option KeyChange) → named (option_map (λ c. c.old) u) (option_and_then (λ c. c.new) w) ≡ old_is_there w u
named_one w None = refl
named_one None (Some u) = refl
named_one (Some w) (Some u) = refl

pub named_there : (w u : ChangeSet) → matches named (old_values u) (new_values w) ≡ passes OldIsThere w u
named_there w u = same_tests named (passing OldIsThere) (old_values u) (new_values w) w u refl refl
    (λ q. (λ i. named (old_at u q i) (new_at w q i)) ∙ named_one (get w q) (get u q))

agrees_one : (w u : Option KeyChange) → fits_old u (option_and_then (λ c. c.new) w) ≡ old_is_there w u
agrees_one w None = refl
agrees_one None (Some u) = refl
agrees_one (Some w) (Some u) = refl

pub agrees_there : (w u : ChangeSet) → agrees u (new_values w) ≡ passes OldIsThere w u
agrees_there w u = same_tests fits_old (passing OldIsThere) u (new_values w) w u refl refl
    (λ q. ap (fits_old (get u q)) (new_at w q) ∙ agrees_one (get w q) (get u q))

put_one : (w u : Option KeyChange) → set_new u (option_and_then (λ c. c.new) w) ≡ option_and_then (λ c. c.new) (one_second w u)
put_one w None = refl
put_one w (Some u) = refl

pub put_new : (w u : ChangeSet) → put u (new_values w) ≡ new_values (joined Second w u)
put_new w u = alike _ _ (λ q.
    get-merge set_new u (new_values w) q refl ∙ ap (set_new (get u q)) (new_at w q) ∙ put_one (get w q) (get u q)
    ∙ ap (option_and_then (λ c. c.new)) (sym (get-merge one_second w u q refl)) ∙ sym (new_at (joined Second w u) q))

-- ---- where the second deletes

flip : (a b : Option Key) → same_value a b ≡ same_value b a
flip a b = both_ways _ _ (turn a b) (turn b a)
  where
    turn : (x y : Option Key) → same_value x y ≡ true → same_value y x ≡ true
    turn x y e = subst (λ z. same_value y z ≡ true) (sym (same_value-is x y e)) (same_value-refl y)

follows_one : (w u : Option KeyChange) → named_new (option_map (λ c. c.old) u) w ≡ new_is_old w u
follows_one None None = refl
follows_one None (Some u) = refl
follows_one (Some w) None = refl
follows_one (Some w) (Some u) = flip u.old w.new

pub named_follows : (w u : ChangeSet) → matches named_new (old_values u) w ≡ passes NewIsOld w u
named_follows w u = same_tests named_new (passing NewIsOld) (old_values u) w w u refl refl
    (λ q. ap (λ n. named_new n (get w q)) (old_at u q) ∙ follows_one (get w q) (get u q))

names_one : (u w : Option KeyChange) → one_name_before (option_map (λ c. c.old) u) w ≡ option_map (λ c. c.old) (one_second u w)
names_one u None = refl
names_one u (Some w) = refl

pub names_old : (u w : ChangeSet) → names_before (old_values u) w ≡ old_values (joined Second u w)
names_old u w = alike _ _ (λ q.
    get-merge one_name_before (old_values u) w q refl ∙ ap (λ n. one_name_before n (get w q)) (old_at u q) ∙ names_one (get u q) (get w q)
    ∙ ap (option_map (λ c. c.old)) (sym (get-merge one_second u w q refl)) ∙ sym (old_at (joined Second u w) q))
