use Rattle.std.proofs.Common.{rules, ◌≡◌, ◌∙◌, ◌+◌, ◌-◌, true, List, ◌∷◌, length, slice_get, Some, sym, ap, subst, arith}
use Rattle.std.specs.FinMap as finite
use Rattle.doc_items.specs.Maps.{Key, same_text}
use Rattle.wave_base.specs.Grammar.{host_of}
use Rattle.peer_turns.specs.declared.item.Relay.{Relay}
use Rattle.replica_store.specs.declared.sought.Sought.TheVariants.{Found, Past}
use Rattle.replica_store.specs.Copies.{CopyOf}
use Rattle.replica_store.specs.Listings.{IsSought, relays_among}
use Rattle.replica_store.specs.Worlds.{WorldOf, world_of, worlds_of}
use Rattle.replica_store.proofs.Listed.{relays_past, relays_found, none_past}
use Rattle.replica_store.proofs.Stored.{entries-each, world_entries}
use Rattle.replica_store.proofs.replicas.Replicas.relay_at.Goals as goal

-- no copy is left
pub returns : goal.returns
returns c =
    let m = c.args.self.now in
    let d = c.args.domain.now in
    let whole : world_entries c.into_iter-name-iterator.result ≡ finite.entries (worlds_of m) =
    ap world_entries (c.into_iter-name-iterator.ensures.into_iter_gives ∙ c.iter-name-items.ensures.rest) ∙ sym (entries-each c.self.inside.copies.entries m c.self.view_is c.iter-name-items.ensures.ordered) in
    let size : length (relays_among d (world_entries c.loop-name.name-iterator)) ≡ 0 = ap (λ (es : List (Key × CopyOf)). length (relays_among d (world_entries es))) c.in-None.ensures.steps.0 in
    let none : c.loop-name.left ≡ length (relays_among d (world_entries c.loop-name.name-iterator)) + c.loop-name.left = omega (arith, size) in
    subst (λ (es : List (Key × WorldOf)). IsSought (relays_among d es) c.args.place (Past c.loop-name.left)) whole (c.loop-name.invariant (Past c.loop-name.left) none)

pub returns-in-Some-unsettled : goal.returns-in-Some-unsettled
returns-in-Some-unsettled c =
    let m = c.args.self.now in
    let d = c.args.domain.now in
    let whole : world_entries c.into_iter-name-iterator.result ≡ finite.entries (worlds_of m) =
    ap world_entries (c.into_iter-name-iterator.ensures.into_iter_gives ∙ c.iter-name-items.ensures.rest) ∙ sym (entries-each c.self.inside.copies.entries m c.self.view_is c.iter-name-items.ensures.ordered) in
    let e : Key × WorldOf = (c.in-Some.name.now, world_of c.in-Some.copy.now) in
    let steps : c.loop-name.name-iterator ≡ (c.in-Some.name.now, c.in-Some.copy.now) ∷ c.next.new.self = search rules in
    let own : same_text (host_of c.in-Some.name.now) d ≡ true = search rules in
    let r : Relay = record { name = c.in_ok-name-in-Some-unsettled.name; submission = c.in_ok-submission-in-Some-unsettled.submission } in
    let at : slice_get c.in-Some.copy.now.waiting c.loop-name.left ≡ Some c.in-Some-unsettled.submission.now = search rules in
    let here = relays_found d e (world_entries c.next.new.self) c.loop-name.left (Found r) own c.in-Some-unsettled.submission.now at
    (λ i. Found (record { name = c.in_ok-name-in-Some-unsettled.ensures i; submission = c.in_ok-submission-in-Some-unsettled.ensures i })) in
    subst (λ (es : List (Key × WorldOf)). IsSought (relays_among d es) c.args.place (Found r)) whole
    (c.loop-name.invariant (Found r) (subst (λ (es : List (Key × CopyOf)). IsSought (relays_among d (world_entries es)) c.loop-name.left (Found r)) (sym steps) here))

pub overflow_sub-left : goal.overflow_sub-left
overflow_sub-left c =
    let below = none_past c.in-Some.copy.now.waiting c.loop-name.left (search rules) in
    let count = c.unsettled_count-left.ensures in
    omega (arith, below, count)

-- all that waits at this copy was gone past
pub loop-name-preserved-in-None-unsettled : goal.loop-name-preserved-in-None-unsettled
loop-name-preserved-in-None-unsettled c = λ s is.
    let d = c.args.domain.now in
    let e : Key × WorldOf = (c.in-Some.name.now, world_of c.in-Some.copy.now) in
    let steps : c.loop-name.name-iterator ≡ (c.in-Some.name.now, c.in-Some.copy.now) ∷ c.next.new.self = search rules in
    let own : same_text (host_of c.in-Some.name.now) d ≡ true = search rules in
    let below = none_past c.in-Some.copy.now.waiting c.loop-name.left (search rules) in
    let count = c.unsettled_count-left.ensures in
    let past = relays_past d e (world_entries c.next.new.self) c.loop-name.left s own (c.loop-name.left - c.unsettled_count-left.result) (omega (arith, below, count)) is in
    c.loop-name.invariant s (subst (λ (es : List (Key × CopyOf)). IsSought (relays_among d (world_entries es)) c.loop-name.left s) (sym steps) past)
