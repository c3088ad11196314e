use Rattle.std.proofs.Common.{rules, ◌≡◌, ◌∙◌, ◌+◌, ◌-◌, true, List, ◌∷◌, length, sym, ap, subst, arith}
use Rattle.std.proofs.lemmas.List.Elements.{All-head, All-tail}
use Rattle.std.specs.FinMap as finite
use Rattle.std.specs.List.{All}
use Rattle.doc_items.specs.Maps.{Key, same_text}
use Rattle.wave_base.specs.Grammar.{host_of}
use Rattle.delta_history.specs.Histories.{head_of}
use Rattle.peer_turns.specs.declared.item.CopyAt.{CopyAt}
use Rattle.replica_store.specs.declared.sought.Sought.TheVariants.{Found, Past}
use Rattle.replica_store.specs.Copies.{CopyOf}
use Rattle.replica_store.specs.Listings.{IsSought, reaches_among}
use Rattle.replica_store.specs.Worlds.{WorldOf, world_of, worlds_of, history_at}
use Rattle.replica_store.proofs.Listed.{reaches_found}
use Rattle.replica_store.proofs.Absorbing.{reach_named}
use Rattle.replica_store.proofs.Stored.{IsNamed, all_named, entries-each, world_entries}
use Rattle.replica_store.proofs.replicas.Replicas.reach_at.Goals as goal

-- no copy is left
pub returns : goal.returns
returns c =
    let m = c.args.self.now in
    let d = c.args.domain.now in
    let whole : world_entries c.into_iter-name-iterator.result ≡ finite.entries (worlds_of m) =
    ap world_entries (c.into_iter-name-iterator.ensures.into_iter_gives ∙ c.iter-name-items.ensures.rest) ∙ sym (entries-each c.self.inside.copies.entries m c.self.view_is c.iter-name-items.ensures.ordered) in
    let size : length (reaches_among d (world_entries c.loop-name.name-iterator)) ≡ 0 = ap (λ (es : List (Key × CopyOf)). length (reaches_among d (world_entries es))) c.in-None.ensures.steps.0 in
    let none : c.loop-name.left ≡ length (reaches_among d (world_entries c.loop-name.name-iterator)) + c.loop-name.left = omega (arith, size) in
    subst (λ (es : List (Key × WorldOf)). IsSought (reaches_among d es) c.args.place (Past c.loop-name.left)) whole (c.loop-name.invariant.sought (Past c.loop-name.left) none)

pub returns-then-left-eq0 : goal.returns-then-left-eq0
returns-then-left-eq0 c =
    let m = c.args.self.now in
    let d = c.args.domain.now in
    let whole : world_entries c.into_iter-name-iterator.result ≡ finite.entries (worlds_of m) =
    ap world_entries (c.into_iter-name-iterator.ensures.into_iter_gives ∙ c.iter-name-items.ensures.rest) ∙ sym (entries-each c.self.inside.copies.entries m c.self.view_is c.iter-name-items.ensures.ordered) in
    let e : Key × WorldOf = (c.in-Some.name.now, world_of c.in-Some.copy.now) in
    let steps : c.loop-name.name-iterator ≡ (c.in-Some.name.now, c.in-Some.copy.now) ∷ c.next.new.self = search rules in
    let own : same_text (host_of c.in-Some.name.now) d ≡ true = search rules in
    let r : CopyAt = record { name = c.in_ok-name.name; at = c.head-at.result } in
    let first : c.loop-name.left ≡ 0 = search rules in
    let named = All-head IsNamed (c.in-Some.name.now, c.in-Some.copy.now) c.next.new.self (subst (All IsNamed) steps c.loop-name.invariant.named) in
    let now : c.head-at.result ≡ (head_of c.in-Some.copy.now.history).at = search rules in
    let at : c.head-at.result ≡ (head_of (history_at e.0 e.1.replica)).at = now ∙ reach_named c.in-Some.copy.now c.in-Some.name.now named in
    let here = reaches_found d e (world_entries c.next.new.self) c.loop-name.left (Found r) own first (λ i. Found (record { name = c.in_ok-name.ensures i; at = at i })) in
    subst (λ (es : List (Key × WorldOf)). IsSought (reaches_among d es) c.args.place (Found r)) whole
    (c.loop-name.invariant.sought (Found r) (subst (λ (es : List (Key × CopyOf)). IsSought (reaches_among d (world_entries es)) c.loop-name.left (Found r)) (sym steps) here))

pub loop-name-init : goal.loop-name-init
loop-name-init c =
    let iterator : c.into_iter-name-iterator.result ≡ c.self.inside.copies.entries = c.into_iter-name-iterator.ensures.into_iter_gives ∙ c.iter-name-items.ensures.rest in
    record {
      named = subst (All IsNamed) (sym iterator) (all_named c.self.inside.copies c.args.self.now c.self.view_is c.self.invariant c.iter-name-items.ensures.found);
      sought = λ s is. is;
    }

pub loop-name-preserved-then-eq : goal.loop-name-preserved-then-eq
loop-name-preserved-then-eq c =
    let steps : c.loop-name.name-iterator ≡ (c.in-Some.name.now, c.in-Some.copy.now) ∷ c.next.new.self = search rules in
    record {
      named = All-tail IsNamed (c.in-Some.name.now, c.in-Some.copy.now) c.next.new.self (subst (All IsNamed) steps c.loop-name.invariant.named);
      sought = search (rules, c.loop-name.invariant.sought);
    }

pub loop-name-preserved : goal.loop-name-preserved
loop-name-preserved c =
    let steps : c.loop-name.name-iterator ≡ (c.in-Some.name.now, c.in-Some.copy.now) ∷ c.next.new.self = search rules in
    record {
      named = All-tail IsNamed (c.in-Some.name.now, c.in-Some.copy.now) c.next.new.self (subst (All IsNamed) steps c.loop-name.invariant.named);
      sought = search (rules, c.loop-name.invariant.sought);
    }
