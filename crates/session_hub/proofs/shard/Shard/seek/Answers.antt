use Rattle.std.proofs.Common.{map, sym, subst}
use Rattle.replica_store.specs.Listings.{IsSought, relays_of, reaches_of}
use Rattle.replica_store.specs.Worlds.{Worlds, worlds_of}
use Rattle.shard_marks.specs.Marks.{copied}
use Rattle.session_hub.specs.declared.seeking.Item.TheVariants as item
use Rattle.session_hub.specs.declared.seeking.Wanted.{Wanted}
use Rattle.session_hub.specs.Entries.{entries_of}
use Rattle.session_hub.specs.Items.{items_of}
use Rattle.session_hub.proofs.shard.Shard.seek.Goals as goal

pub returns-in_ok-relay_at-in-Relays : goal.returns-in_ok-relay_at-in-Relays
returns-in_ok-relay_at-in-Relays g c =
    let s = c.args.self.now in
    let d = c.args.domain.now in
    let at = c.as_relay.ensures (relays_of d (worlds_of s.replicas)) c.args.place c.in_ok-relay_at-in-Relays.ensures in
    subst (λ (w : Wanted). IsSought (items_of w d (copied s.domain s.number (entries_of s))) c.args.place c.as_relay.result) (sym c.in-Relays.is)
    (subst (λ (cs : Worlds). IsSought (map (λ r. item.Relay r) (relays_of d cs)) c.args.place c.as_relay.result) s.copies at)

pub returns-in_ok-reach_at-in-Reaches : goal.returns-in_ok-reach_at-in-Reaches
returns-in_ok-reach_at-in-Reaches g c =
    let s = c.args.self.now in
    let d = c.args.domain.now in
    let at = c.as_reach.ensures (reaches_of d (worlds_of s.replicas)) c.args.place c.in_ok-reach_at-in-Reaches.ensures in
    subst (λ (w : Wanted). IsSought (items_of w d (copied s.domain s.number (entries_of s))) c.args.place c.as_reach.result) (sym c.in-Reaches.is)
    (subst (λ (cs : Worlds). IsSought (map (λ c. item.Reach c) (reaches_of d cs)) c.args.place c.as_reach.result) s.copies at)
