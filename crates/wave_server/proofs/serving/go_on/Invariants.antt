use Rattle.std.proofs.Common.{◌≡◌, ◌≤◌, ◌+◌, vec_len, vec_capacity, true, false, is_some}
use Rattle.std.specs.Arc.{arc_value}
use Rattle.turn_cells.specs.Cells.{Begins}
use Rattle.shard_marks.specs.Passes.{marks_of}
use Rattle.session_hub.specs.Hubs.{AreOfHub, server_of}
use Rattle.robot_host.specs.Hosts.{host_by}
use Rattle.peer_rounds.specs.Peers.{held, names}
use Rattle.peer_rounds.specs.Stands.{AreReady as PeersReady}
use Rattle.wave_server.specs.Counting.{WereAccepted}
use Rattle.wave_server.specs.Robots.{AreReady}
use Rattle.wave_server.specs.Running.{AreOurs, IsGoing}
use Rattle.wave_server.proofs.serving.go_on.Given as goal

pub record IsUp (g : goal.Over) (l : goal.Live-loop g) : Type 0 where
  pub own : AreOfHub (arc_value l.hub) l.passes
  pub later : Begins l.fn.passes l.passes
  pub ready : AreReady (arc_value l.hub).domain (marks_of l.passes) (host_by (λ b. (goal.Robot-dyn g (b.vtable, b.value)).calls b.value) l.robots)
  pub ours : AreOurs (λ r. arc_value (g.P.Spawner.job_of r).hub) (arc_value l.hub) l.jobs.items
  pub out : vec_len l.jobs + held l.peers.list.items ≤ g.N.Net.out l.server.net
  pub room : l.keeps ≡ true → vec_len l.server.ended + vec_len l.jobs ≤ vec_capacity l.server.ended
  pub total : l.keeps ≡ true → vec_len l.server.ended + vec_len l.jobs ≡ l.started
  pub most_is : l.started ≤ l.most
  pub spent : is_some l.server.spent ≡ false
  pub accepted : WereAccepted (g.N.Net.accepted l.fn.server.net) (g.N.Net.accepted l.server.net) l.started
  pub refused : g.P.Spawner.refused l.fn.server.spawner ≤ g.P.Spawner.refused l.server.spawner
  pub door : g.N.Net.door l.fn.server.net ≤ g.N.Net.door l.server.net
  pub dialled : PeersReady g.N.Net.tells (g.N.Net.asked l.server.net) l.peers.list.items
  pub named : names l.peers.list.items ≡ names l.fn.peers.list.items
  pub going : IsGoing g.N.Link.Link (server_of (arc_value l.hub)) (marks_of l.passes) (is_some l.server.spent) l.put (g.N.Net.back l.fn.server.net) (g.N.Net.back l.server.net) (g.N.Net.line l.fn.server.net) (g.N.Net.line l.server.net) l.server.ended.items

abbrev pub invariant-loop : goal.invariant-loop
invariant-loop g l = IsUp g l
