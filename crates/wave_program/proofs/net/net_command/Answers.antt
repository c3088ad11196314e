use Rattle.std.proofs.Common.{◌≡◌, List, Option, Some, map, is_some, vec_len, refl, subst, sym}
use Rattle.command_words.specs.Commands.{CommandOf}
use Rattle.command_words.specs.Shown.{shown}
use Rattle.command_words.specs.declared.command.Command.{Command}
use Rattle.robot_host.specs.Hosts.{host_by}
use Rattle.peer_rounds.specs.Peers.{names_by}
use Rattle.shard_marks.specs.Servers.{server as server_by}
use Rattle.wave_outside.specs.Counts.{Rose}
use Rattle.wave_server.specs.Runs.{HasRun}
use Rattle.wave_program.specs.Edit.{IfEdit, IsClient, HasNetCause, IsEditRun}
use Rattle.wave_program.specs.Net.{IfServe, IsServer, IsHosted}
use Rattle.wave_program.specs.Words.{IsStoring}
use Rattle.wave_program.proofs.Hosting.{none_stored, host_status, not_client, not_source, not_sink}
use Rattle.wave_program.proofs.net.net_command.Goals as goal

pub returns-in-Serve : goal.returns-in-Serve
returns-in-Serve g c =
    let old = c.args.outside.now in
    let after = c.serve_net.new.outside in
    let before = old.server in
    let left = after.server in
    let status = c.serve_net.result in
    let run = c.serve_net.ensures.run in
    let hosted = c.serve_net.ensures.hosted in
    let named = sym c.in-Serve.is in
    let host = host_by (λ b. (goal.Robot-dyn g (b.vtable, b.value)).calls b.value) c.serve_net.new.robots in
    record {
      run = subst (λ (command : Command). IfServe (Some (shown command)) (λ domain listen peers sessions store.
          HasRun g.N.Net g.N.Link.Link (server_by domain (map (λ a. a.0) peers)) domain (names_by domain peers) sessions before.net left.net left.ended.items (vec_len left.ended) left.passes (is_some left.spent) host
          (g.P.Spawner.refused before.spawner) (g.P.Spawner.refused left.spawner) status)) named
          (subst (λ peers. HasRun g.N.Net g.N.Link.Link (server_by c.in-Serve.domain (map (λ a. a.0) peers)) c.in-Serve.domain (names_by c.in-Serve.domain peers) c.in-Serve.sessions before.net left.net left.ended.items (vec_len left.ended)
          left.passes (is_some left.spent) host (g.P.Spawner.refused before.spawner) (g.P.Spawner.refused left.spawner) status) c.as_slice.ensures run);
      hosted = subst (λ (command : Command). IfServe (Some (shown command)) (λ domain listen peers sessions store.
          IsHosted g.F.Folder g.F.Disk.Disk g.W.Sink domain store left.passes old.folder after.folder old.sink after.sink status)) named hosted;
      source = subst (λ (command : Command). IfServe (Some (shown command)) (λ domain listen peers sessions store. after.source ≡ old.source)) named c.serve_net.ensures.source;
      alone = subst (λ (command : Command). (IsStoring (Some (shown command)) → ⊥) → after.folder ≡ old.folder) named (λ never. hosted.alone (none_stored _ never));
      robots_left = subst (λ (command : Command). (IsServer (Some (shown command)) → ⊥) → c.serve_net.new.robots ≡ c.args.robots.now) named (λ never. absurd (never tt));
      edited = subst (λ (command : Command). IfEdit (Some (shown command)) (λ user client connect.
          IsEditRun g.N.Net g.N.Link.Link connect before.net left.net g.S.Source.left g.W.Sink.written user client old.source after.source old.sink after.sink status)) named tt;
      unserved = subst (λ (command : Command). IfEdit (Some (shown command)) (λ user client connect. (left.ended ≡ before.ended) × (left.spent ≡ before.spent) × (left.passes ≡ before.passes))) named tt;
      net_failed = subst (λ (command : Command). status ≡ 7 → HasNetCause (Some (shown command)) (Rose (g.N.Net.door before.net) (g.N.Net.door left.net)) (Rose (g.N.Net.line before.net) (g.N.Net.line left.net))) named run.door;
      closed = λ eleven. not_client status hosted.known eleven;
      source_failed = λ three. not_source status hosted.known three;
      sink_failed = λ four. not_sink status hosted.known four;
      refused = run.refused;
      spent = run.spent;
      store_failed = hosted.store_failed;
      known = host_status status hosted.known;
      damaged = subst (λ (command : Command). status ≡ 6 → IsStoring (Some (shown command))) named hosted.damaged;
    }
