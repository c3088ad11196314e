-- What is known of the changes that an output showed last.
--     joined_same                            changes with themselves
--     shown_rules                            what the rules of the three kinds of runs make of changes
--     shown_of_insertions, shown_of_deletions     what runs over the last of such runs
--     noted                                  nothing started or ended since
--     known_on                               changes start or end
--     turned                                 the next run is of another kind
use Rattle.std.proofs.Common.{◌≡◌, ℕ, ◌<◌, List, [], ◌++◌, length, map, refl, sym, ap, subst, ◌∙◌, Option, None, Some, option_map, option_and_then}
use Rattle.std.specs.FinMap.{get}
use Rattle.doc_items.specs.Changes.{KeyChange, ChangeSet, none_running}
use Rattle.doc_items.specs.declared.item.Content.{Content}
use Rattle.doc_items.proofs.Maps.{alike, get-merge, get-each, get-picked}
use Rattle.change_view.specs.declared.rule.Rule.TheVariants.{Second}
use Rattle.change_view.specs.Rules.{one_second, one_inserted, one_deleted, combined}
use Rattle.change_view.specs.Sets.{joined, as_inserted, as_deleted}
use Rattle.change_view.proofs.Sets.{joined_inserted, joined_deleted}
use Rattle.change_table.specs.Keys.{AgreeBut, Adds, Touches}
use Rattle.change_table.proofs.Agreement.{agree_more, agree_more_back}
use Rattle.doc_op.specs.declared.normal_output.Kind.{Kind}
use Rattle.doc_op.specs.declared.normal_output.Kind.TheVariants.{Kept, Inserted, Deleted}
use Rattle.doc_op.specs.Actions.{Action, insertion, deletion}
use Rattle.doc_op.specs.Normal.{shown_last}
use Rattle.doc_op.specs.Known.{shown_by, IsKnown}
use Rattle.doc_op.proofs.Shown.{shown_more, shown_mapped}
use Rattle.doc_op.proofs.Spelling.{shown_inserted, shown_deleted}

-- ---- what is shown

one_same : (c : Option KeyChange) → one_second c c ≡ c
one_same None = refl
one_same (Some c) = refl

pub joined_same : (u : ChangeSet) → joined Second u u ≡ u
joined_same u = alike _ _ (λ q. get-merge (combined Second) u u q refl ∙ one_same (get u q))

pub ruleset shown_rules = (joined_same, joined_inserted, joined_deleted)

pub shown_of_insertions : (acts : List Action) (u : ChangeSet) (cs : List Content) → 0 < length cs → shown_last (acts ++ map (insertion u) cs) ≡ as_inserted u
shown_of_insertions acts u cs h =
    shown_more none_running acts (map (insertion u) cs) ∙ shown_mapped (insertion u) cs (as_inserted u) (shown_inserted u) h (shown_last acts)

pub shown_of_deletions : (acts : List Action) (u : ChangeSet) (cs : List Content) → 0 < length cs → shown_last (acts ++ map (deletion u) cs) ≡ as_deleted u
shown_of_deletions acts u cs h =
    shown_more none_running acts (map (deletion u) cs) ∙ shown_mapped (deletion u) cs (as_deleted u) (shown_deleted u) h (shown_last acts)

-- ---- what is known

pub noted : (t : Option (List (List ℕ))) (k l : Kind) (acts : List Action) (u : ChangeSet) → t ≡ Some [] → k ≡ l → shown_last acts ≡ shown_by l u → IsKnown t acts (shown_by k u)
noted t k l acts u e f g =
    subst (λ x. IsKnown x acts (shown_by k u)) (sym e) (λ q n. ap (λ w. get w q) (g ∙ ap (λ x. shown_by x u) (sym f)))

agree_shown : (k : Kind) (keys : List (List ℕ)) (u w : ChangeSet) → AgreeBut keys u w → AgreeBut keys (shown_by k u) (shown_by k w)
agree_shown Kept keys u w h q n = h q n
agree_shown Inserted keys u w h q n = get-picked one_inserted u q ∙ ap (option_and_then one_inserted) (h q n) ∙ sym (get-picked one_inserted w q)
agree_shown Deleted keys u w h q n = get-each one_deleted u q ∙ ap (option_map one_deleted) (h q n) ∙ sym (get-each one_deleted w q)

adds_shown : (k : Kind) (ks ls : List (List ℕ)) (u w : ChangeSet) → Adds ks ls u w → Adds ks ls (shown_by k u) (shown_by k w)
adds_shown k ks ls u w a = record { more = a.more; is = a.is; kept = agree_shown k a.more u w a.kept }

pub known_on : (t s : Option (List (List ℕ))) (k : Kind) (acts : List Action) (u w : ChangeSet) → IsKnown t acts (shown_by k u) → Touches t u s w → IsKnown s acts (shown_by k w)
known_on None s k acts u w h a = subst (λ x. IsKnown x acts (shown_by k w)) (sym a) tt
known_on (Some ks) None k acts u w h a = absurd a
known_on (Some ks) (Some ls) k acts u w h a = agree_more ks ls (shown_last acts) (shown_by k u) (shown_by k w) h (adds_shown k ks ls u w a)

-- the next run is of another kind
pub turned : (t s r : Option (List (List ℕ))) (k l : Kind) (acts : List Action) (u : ChangeSet) → IsKnown t acts (shown_by k u) → Touches t u s (shown_by k u) → Touches s u r (shown_by l u) → IsKnown r acts (shown_by l u)
turned None s r k l acts u h a b = subst (λ x. IsKnown x acts (shown_by l u)) (sym (subst (λ x. Touches x u r (shown_by l u)) a b)) tt
turned (Some ks) None r k l acts u h a b = absurd a
turned (Some ks) (Some ls) None k l acts u h a b = absurd b
turned (Some ks) (Some ls) (Some ms) k l acts u h a b = agree_more ls ms (shown_last acts) u (shown_by l u) (agree_more_back ks ls (shown_last acts) (shown_by k u) u h a) b
