-- A demand is met where its action takes the item.
use Rattle.std.proofs.Common.{◌≡◌, Bool, true, false, ◌&&◌, refl, sym, ap, ◌∙◌, Option, None, Some, option_map}
use Rattle.std.specs.FinMap.{get}
use Rattle.std.specs.Cmp.{both_ways}
use Rattle.doc_items.specs.Maps.{Key, Map, matches}
use Rattle.doc_items.specs.Changes.{KeyChange, ChangeSet, fits_old, agrees}
use Rattle.doc_items.specs.declared.item.Content.{Content}
use Rattle.doc_items.specs.declared.item.Content.TheVariants.{Character, Start, End}
use Rattle.doc_items.specs.declared.item.Item.{Item}
use Rattle.doc_items.proofs.Maps.{matches_at, matches_all, get-each}
use Rattle.doc_op.specs.Actions.{Unchanged, old_values}
use Rattle.doc_op.specs.Apply.{content_agrees, named}
use Rattle.op_validity.specs.declared.demand.Demand.{Demand}
use Rattle.op_validity.specs.declared.demand.Demand.TheVariants.{Keep as KeepOne, Update as UpdateOne, Replace as ReplaceOne, Character as DeleteCharacter, Start as DeleteStart, End as DeleteEnd}
use Rattle.op_validity.specs.Walks.{takes, demand_action, content_meets}

and_swapped : (a b : Bool) → (a && b) ≡ (b && a)
and_swapped true true = refl
and_swapped true false = refl
and_swapped false true = refl
and_swapped false false = refl

pub unchanged : (c : Content) → true ≡ content_agrees Unchanged c
unchanged (Character x) = refl
unchanged (Start kind m) = refl
unchanged End = refl

named_one : (c : Option KeyChange) (v : Option Key) → named (option_map (λ d. d.old) c) v ≡ fits_old c v
named_one None v = refl
named_one (Some c) v = refl

-- a deletion names the running keys with their old values
pub named_agrees : (u : ChangeSet) (m : Map Key) → matches named (old_values u) m ≡ agrees u m
named_agrees u m =
    let at : (q : Key) → named (get (old_values u) q) (get m q) ≡ fits_old (get u q) (get m q) =
    λ q. ap (λ o. named o (get m q)) (get-each (λ (c : KeyChange). c.old) u q) ∙ named_one (get u q) (get m q) in
    both_ways _ _
    (λ e. matches_all fits_old u m (λ q. sym (at q) ∙ matches_at named (old_values u) m q refl e))
    (λ e. matches_all named (old_values u) m (λ q. at q ∙ matches_at fits_old u m q refl e))

pub is_met_takes : (u : ChangeSet) (d : Demand) (i : Item) → (agrees u i.notes && content_meets d i.content) ≡ takes (demand_action u d) i
is_met_takes u KeepOne i = ap (λ b. agrees u i.notes && b) (unchanged i.content)
is_met_takes u (UpdateOne changes) i = refl
is_met_takes u (ReplaceOne old new) i = refl
is_met_takes u (DeleteCharacter c) i = and_swapped (agrees u i.notes) _ ∙ ap (λ b. content_meets (DeleteCharacter c) i.content && b) (sym (named_agrees u i.notes))
is_met_takes u (DeleteStart kind attributes) i = and_swapped (agrees u i.notes) _ ∙ ap (λ b. content_meets (DeleteStart kind attributes) i.content && b) (sym (named_agrees u i.notes))
is_met_takes u DeleteEnd i = and_swapped (agrees u i.notes) _ ∙ ap (λ b. content_meets DeleteEnd i.content && b) (sym (named_agrees u i.notes))
