-- What a server's run leaves.
--     HasRun ..       what became of its sessions, of its peers and of its robots, and why it ended
use Rattle.std.specs.Prelude.{◌≡◌, ℕ, Bool, true, List, length, IsTrue, Option, IfSome, is_some}
use Rattle.doc_items.specs.Maps.{Key}
use Rattle.wave_outside.specs.Counts.{Rose}
use Rattle.wave_outside.specs.declared.link.Link as link_of
use Rattle.wave_outside.specs.declared.net.Net as net_of
use Rattle.turn_cells.specs.declared.cells.Passes.{Passes}
use Rattle.shard_marks.specs.declared.mark.Mark.{Mark}
use Rattle.shard_marks.specs.Passes.{marks_of}
use Rattle.shard_marks.specs.Servers.{ServerOf}
use Rattle.robot_host.specs.Hosts.{HostOf}
use Rattle.peer_rounds.specs.Peers.{Name}
use Rattle.peer_rounds.specs.Stands.{AreDialled}
use Rattle.wave_server.specs.Counting.{HasCounted}
use Rattle.wave_server.specs.Meeting.{HasMet}
use Rattle.wave_server.specs.Robots.{WereServed}
use Rattle.wave_server.specs.Running.{HasServed}
use Rattle.wave_server.specs.declared.server.Ended.{Ended}

module _ {N L T : Type 0} (net : net_of.Ghosts N L) (link : link_of.Ghosts L) where
  -- a server that speaks for `own`, with peers of these names; its net before and after, the sessions that ended and how many, what was
  -- seen, whether a shard was seen to have no turn left, the robots after it, and the spawner's count of refused starts, before and after
  pub record HasRun (v : ServerOf) (own : Key) (peers : List Name) (sessions : Option ℕ) (n m : N) (ended : List Ended) (count : ℕ)
      (passes : Option (Passes T Mark)) (is_spent : Bool) (host : HostOf) (starts starts' : ℕ) (status : ℕ) : Type 0 where
    pub served : IfSome passes (λ p. HasServed link v (marks_of p) is_spent (net.back n) (net.back m) ended)
    pub counted : HasCounted sessions status (is_some passes) count (net.accepted n) (net.accepted m)
    pub met : status ≡ 0 → HasMet link (net.back n) (net.back m) (net.line n) (net.line m) own (length peers) ended
    pub dialled : status ≡ 0 → IsTrue net.tells → AreDialled (net.asked m) peers
    pub robots : status ≡ 0 → IfSome passes (λ p. WereServed own (marks_of p) host)
    pub door : status ≡ 7 → Rose (net.door n) (net.door m)
    pub refused : status ≡ 9 → Rose starts starts'
    pub spent : (status ≡ 12 → is_spent ≡ true) × (is_spent ≡ true → status ≡ 12)
