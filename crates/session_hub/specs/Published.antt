-- Names that are looked at for a session, and their places in byte order.
--     IsSpot ns n s                where a name stands among others, or would stand
--     AreLookedAt d hs rs s n ns   the names that a shard of this domain, which hosts these histories and keeps these records, looks at for
--                                  a session that was told all at that number of marks: any for one that isn't a peer's, else all that is
--                                  hosted, or what was published since
use Rattle.std.specs.Prelude.{◌≡◌, ◌≢◌, ◌⊎◌, ◌-◌, ℕ, false, List, [], map, drop, insert}
use Rattle.doc_items.specs.Maps.{Key}
use Rattle.session_core.specs.declared.session.Session.{Session}
use Rattle.session_core.specs.Rules.{has_peer}
use Rattle.wavelet_shelf.specs.Hosting.{Hosted, names_of}
use Rattle.shard_marks.specs.Told.{name_put, published}
use Rattle.session_hub.specs.declared.published.Spot.{Spot}
use Rattle.session_hub.specs.declared.published.Spot.TheVariants.{Here, Before}
use Rattle.session_hub.specs.declared.record.Record.{Record}
use Rattle.session_hub.specs.Records.{mark_of}

abbrev pub IsSpot : List Key → Key → Spot → Type 0
IsSpot ns n Here = name_put n ns ≡ ns
IsSpot ns n (Before i) = name_put n ns ≡ insert ns i n

abbrev pub AreLookedAt : Key → List Hosted → List Record → Session → ℕ → List Key → Type 0
AreLookedAt d hs rs s n ns = (has_peer s ≡ false) ⊎ ((ns ≡ names_of hs) ⊎ ((n ≢ 0) × (ns ≡ published d [] (map mark_of (drop (n - 1) rs)))))
