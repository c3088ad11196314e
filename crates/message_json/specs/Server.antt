-- Which messages a server takes.
--     for_server m      the message, where a server takes its kind
use Rattle.std.specs.Prelude.{Option, Some, None}
use Rattle.message_json.specs.declared.message.Message.{Message}
use Rattle.message_json.specs.declared.message.Message.TheVariants.{Hello, OpenWavelet, Submit, CloseWavelet, Welcome, Opened, Snapshot, Unopened, Ack, Refused, Queued, Update, Closed, Bad, Peer, Have, Relay, Applied, Relayed, Dropped}
use Rattle.message_json.specs.declared.message.ForServer.{ForServer}
use Rattle.message_json.specs.declared.message.ForServer.TheVariants as taken

abbrev pub for_server : Message → Option ForServer
for_server (Hello user) = Some (taken.Hello user)
for_server (OpenWavelet name at) = Some (taken.OpenWavelet name at)
for_server (Submit name client number at ops) = Some (taken.Submit name client number at ops)
for_server (CloseWavelet name) = Some (taken.CloseWavelet name)
for_server (Peer domain) = Some (taken.Peer domain)
for_server (Have name at) = Some (taken.Have name at)
for_server (Relay name submission) = Some (taken.Relay name submission)
for_server (Welcome user) = None
for_server (Opened name version) = None
for_server (Snapshot snapshot) = None
for_server (Unopened name reason) = None
for_server (Ack name client number place to) = None
for_server (Refused name client number v) = None
for_server (Queued name client number) = None
for_server (Update name delta) = None
for_server (Closed name reason) = None
for_server (Bad reason) = None
for_server (Applied name delta) = None
for_server (Relayed name id v) = None
for_server (Dropped name) = None
