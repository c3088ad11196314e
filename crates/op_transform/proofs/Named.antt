-- The names of a deletion, where they are the old values of changes.
--     names_cross       changes come after a deletion's names exactly where both have equal old values
--     names_alike       two deletions name no key in two ways exactly there
--     names_behind      the names after changes are the old values of those changes turned back, and of the rest
--     names_inserted    all annotations of an inserted item, as names
use Rattle.std.proofs.Common.{◌≡◌, Bool, true, false, refl, sym, ap, ◌∙◌, Option, None, Some}
use Rattle.std.specs.Option.{option_map, option_and_then}
use Rattle.std.specs.FinMap.{get}
use Rattle.doc_items.specs.Maps.{Key, matches, merge}
use Rattle.doc_items.specs.Changes.{KeyChange, ChangeSet, turned, back}
use Rattle.doc_items.proofs.Maps.{get-merge, get-each, get-picked, matches_at, matches_all, alike}
use Rattle.doc_op.specs.Actions.{new_values, old_values}
use Rattle.doc_op.specs.Apply.{names_of}
use Rattle.change_view.specs.Rules.{one_second_turned, same_old}
use Rattle.change_view.specs.Sets.{fresh, one_inserted, as_inserted}
use Rattle.op_transform.specs.Crossing.{named_old, one_name_after, names_after, named_alike}

-- ---- two tests of maps that answer alike

same_answer : (a b : Bool) → (a ≡ true → b ≡ true) → (b ≡ true → a ≡ true) → a ≡ b
same_answer true b f g = sym (f refl)
same_answer false true f g = g refl
same_answer false false f g = refl

at_old : (u : ChangeSet) (q : Key) → get (old_values u) q ≡ option_map (λ c. c.old) (get u q)
at_old u q = get-each (λ c. c.old) u q

key_cross : (v u : Option KeyChange) → named_old (option_map (λ c. c.old) v) u ≡ same_old v u
key_cross None u = refl
key_cross (Some v) None = refl
key_cross (Some v) (Some u) = refl

pub names_cross : (v u : ChangeSet) → matches named_old (old_values v) u ≡ matches same_old v u
names_cross v u = same_answer _ _
    (λ h. matches_all same_old v u (λ q. sym (key_cross (get v q) (get u q)) ∙ ap (λ n. named_old n (get u q)) (sym (at_old v q)) ∙ matches_at named_old (old_values v) u q refl h))
    (λ h. matches_all named_old (old_values v) u (λ q. ap (λ n. named_old n (get u q)) (at_old v q) ∙ key_cross (get v q) (get u q) ∙ matches_at same_old v u q refl h))

key_alike : (v w : Option KeyChange) → named_alike (option_map (λ c. c.old) v) (option_map (λ c. c.old) w) ≡ same_old v w
key_alike None w = refl
key_alike (Some v) None = refl
key_alike (Some v) (Some w) = refl

at_both : (v w : ChangeSet) (q : Key) → named_alike (get (old_values v) q) (get (old_values w) q) ≡ same_old (get v q) (get w q)
at_both v w q = (λ i. named_alike (at_old v q i) (at_old w q i)) ∙ key_alike (get v q) (get w q)

pub names_alike : (v w : ChangeSet) → matches named_alike (old_values v) (old_values w) ≡ matches same_old v w
names_alike v w = same_answer _ _
    (λ h. matches_all same_old v w (λ q. sym (at_both v w q) ∙ matches_at named_alike (old_values v) (old_values w) q refl h))
    (λ h. matches_all named_alike (old_values v) (old_values w) (λ q. at_both v w q ∙ matches_at same_old v w q refl h))

-- ---- names that are old values

key_behind : (v u : Option KeyChange) → option_map (λ c. c.old) (one_second_turned v u) ≡ one_name_after (option_map (λ c. c.old) v) u
key_behind v None = refl
key_behind v (Some u) = refl

pub names_behind : (v u : ChangeSet) → old_values (merge one_second_turned v u) ≡ names_after (old_values v) u
names_behind v u = alike _ _ (λ q.
    at_old (merge one_second_turned v u) q
    ∙ ap (option_map (λ c. c.old)) (get-merge one_second_turned v u q refl)
    ∙ key_behind (get v q) (get u q)
    ∙ ap (λ n. one_name_after n (get u q)) (sym (at_old v q))
    ∙ sym (get-merge one_name_after (old_values v) u q refl))

key_inserted : (c : Option KeyChange) → option_map (λ d. d.old) (option_map turned (option_and_then one_inserted c)) ≡ option_map Some (option_and_then (λ d. d.new) c)
key_inserted None = refl
key_inserted (Some c) = by c.new
  where
    by : (v : Option Key) → option_map (λ d. d.old) (option_map turned (option_map fresh v)) ≡ option_map Some v
    by None = refl
    by (Some x) = refl

pub names_inserted : (u : ChangeSet) → old_values (back (as_inserted u)) ≡ names_of (new_values u)
names_inserted u = alike _ _ (λ q.
    at_old (back (as_inserted u)) q
    ∙ ap (option_map (λ c. c.old)) (get-each turned (as_inserted u) q ∙ ap (option_map turned) (get-picked one_inserted u q))
    ∙ key_inserted (get u q)
    ∙ ap (option_map Some) (sym (get-picked (λ c. c.new) u q))
    ∙ sym (get-each Some (new_values u) q))
