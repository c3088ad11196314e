-- What is asked of copies, in byte order of their names.
--     relays_of d cs       the submissions that wait for a verdict of this domain
--     reaches_of d cs      how far the copies reach whose host this domain is
--     IsSought xs p s      what is at a place of a list: the item; or the list ends, and so many places further is the one that was sought
use Rattle.std.specs.Prelude.{◌≡◌, ℕ, ◌+◌, cond, List, [], ◌∷◌, map, length, slice_get, Some}
use Rattle.std.specs.FinMap.{entries}
use Rattle.std.specs.List.{flat_map}
use Rattle.doc_items.specs.Maps.{Key, same_text}
use Rattle.wave_base.specs.Grammar.{host_of}
use Rattle.delta_history.specs.Histories.{head_of}
use Rattle.peer_turns.specs.declared.item.CopyAt.{CopyAt}
use Rattle.peer_turns.specs.declared.item.Relay.{Relay}
use Rattle.replica_store.specs.declared.sought.Sought.{Sought}
use Rattle.replica_store.specs.declared.sought.Sought.TheVariants.{Found, Past}
use Rattle.replica_store.specs.Worlds.{WorldOf, Worlds, history_at}

abbrev pub relays_at : Key → WorldOf → List Relay
relays_at n w = map (λ s. record { name = n; submission = s }) w.replica.waiting

abbrev pub reach_at : Key → WorldOf → CopyAt
reach_at n w = record { name = n; at = (head_of (history_at n w.replica)).at }

abbrev pub relays_among : Key → List (Key × WorldOf) → List Relay
relays_among d es = flat_map (λ e. cond (same_text (host_of e.0) d) (relays_at e.0 e.1) []) es

abbrev pub reaches_among : Key → List (Key × WorldOf) → List CopyAt
reaches_among d es = flat_map (λ e. cond (same_text (host_of e.0) d) (reach_at e.0 e.1 ∷ []) []) es

abbrev pub relays_of : Key → Worlds → List Relay
relays_of d cs = relays_among d (entries cs)

abbrev pub reaches_of : Key → Worlds → List CopyAt
reaches_of d cs = reaches_among d (entries cs)

abbrev pub IsSought : {A : Type 0} → List A → ℕ → Sought A → Type 0
IsSought xs p (Found x) = slice_get xs p ≡ Some x
IsSought xs p (Past n) = p ≡ length xs + n
