-- What a link with another domain asks the copies for.
--     relay_in i, reach_in i    the submission that an item is, and how far a copy reaches
--     items_of w e cs       what is wanted of copies, for a domain: the submissions that wait for it, or how far its copies reach
--     across n f            the first n lists, one after the other
--     items_across w d e ms     what is wanted of the shards of a domain with these marks, for another one
--     relays_across d e ms      the submissions that wait there
--     reaches_across d e ms     how far the copies reach there
use Rattle.std.specs.Prelude.{ℕ, zero, suc, List, [], ◌++◌, map, Option, Some, None}
use Rattle.doc_items.specs.Maps.{Key}
use Rattle.peer_turns.specs.declared.item.CopyAt.{CopyAt}
use Rattle.peer_turns.specs.declared.item.Relay.{Relay}
use Rattle.replica_store.specs.Listings.{relays_of, reaches_of}
use Rattle.replica_store.specs.Worlds.{Worlds}
use Rattle.shard_marks.specs.declared.mark.Mark.{Mark}
use Rattle.shard_marks.specs.Marks.{copied}
use Rattle.session_hub.specs.declared.seeking.Item.{Item}
use Rattle.session_hub.specs.declared.seeking.Item.TheVariants as item
use Rattle.session_hub.specs.declared.seeking.Wanted.{Wanted}
use Rattle.session_hub.specs.declared.seeking.Wanted.TheVariants.{Relays, Reaches}

abbrev pub relay_in : Item → Option Relay
relay_in (item.Relay r) = Some r
relay_in (item.Reach c) = None

abbrev pub reach_in : Item → Option CopyAt
reach_in (item.Relay r) = None
reach_in (item.Reach c) = Some c

abbrev pub items_of : Wanted → Key → Worlds → List Item
items_of Relays e cs = map (λ r. item.Relay r) (relays_of e cs)
items_of Reaches e cs = map (λ c. item.Reach c) (reaches_of e cs)

abbrev pub across : {A : Type 0} → ℕ → (ℕ → List A) → List A
across zero f = []
across (suc n) f = across n f ++ f n

abbrev pub items_across : Wanted → Key → Key → (ℕ → List Mark) → List Item
items_across w d e marks = across 16 (λ k. items_of w e (copied d k (marks k)))

abbrev pub relays_across : Key → Key → (ℕ → List Mark) → List Relay
relays_across d e marks = across 16 (λ k. relays_of e (copied d k (marks k)))

abbrev pub reaches_across : Key → Key → (ℕ → List Mark) → List CopyAt
reaches_across d e marks = across 16 (λ k. reaches_of e (copied d k (marks k)))
