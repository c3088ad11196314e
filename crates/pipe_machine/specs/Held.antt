-- What a message tells of histories, and that these have it.
--     IsIn d ds          the delta is one of them
--     HasOf ds c n       one of them has this client and number
--     IsHead name ds s   a snapshot is that of a beginning of them
--     IsHeld hs m        what the message tells of a history holds of the one among these
--     SentIsHeld         the law: all that is sent is held by the histories after it
use Rattle.std.specs.Prelude.{◌≡◌, ℕ, List, ◌∷◌, ◌++◌}
use Rattle.doc_items.specs.Maps.{Key}
use Rattle.wavelet_op.specs.Deltas.{DeltaOf}
use Rattle.wavelet_state.specs.Snapshots.{SnapshotOf}
use Rattle.delta_history.specs.Points.{end_of}
use Rattle.message_json.specs.declared.message.Message.{Message}
use Rattle.message_json.specs.declared.message.Message.TheVariants.{Hello, OpenWavelet, Submit, CloseWavelet, Welcome, Opened, Snapshot, Unopened, Ack, Refused, Queued, Update, Closed, Bad, Peer, Have, Relay, Applied, Relayed, Dropped}
use Rattle.std.specs.List.{All}
use Rattle.delta_history.specs.Copying.{AreAscending}
use Rattle.wavelet_shelf.specs.Hosting.{Hosted, names_of, deltas_in}
use Rattle.line_loop.specs.Turns.{Turn}
use Rattle.pipe_machine.specs.Keeping.{Begins}
use Rattle.pipe_machine.specs.Machine.{Pipe, sent, after}

pub record IsIn (d : DeltaOf) (ds : List DeltaOf) : Type 0 where
  pub before : List DeltaOf
  pub behind : List DeltaOf
  pub whole : before ++ d ∷ behind ≡ ds

pub record HasOf (ds : List DeltaOf) (client number : ℕ) : Type 0 where
  pub delta : DeltaOf
  pub is_in : IsIn delta ds
  pub of_client : delta.id.client ≡ client
  pub of_number : delta.id.number ≡ number

pub record IsHead (ds : List DeltaOf) (s : SnapshotOf) : Type 0 where
  pub front : List DeltaOf
  pub behind : List DeltaOf
  pub whole : front ++ behind ≡ ds
  pub is_at : s.at ≡ (end_of s.name front).at
  pub count : s.inserted ≡ (end_of s.name front).count
  pub state : s.state ≡ (end_of s.name front).state

abbrev pub IsHeld : List Hosted → Message → Type 0
IsHeld hs (Hello user) = Unit {0}
IsHeld hs (OpenWavelet name from) = Unit {0}
IsHeld hs (Submit name client number from ops) = Unit {0}
IsHeld hs (CloseWavelet name) = Unit {0}
IsHeld hs (Welcome user) = Unit {0}
IsHeld hs (Opened name version) = Unit {0}
IsHeld hs (Snapshot s) = IsHead (deltas_in hs s.name) s
IsHeld hs (Unopened name reason) = Unit {0}
IsHeld hs (Ack name client number place to) = HasOf (deltas_in hs name) client number
IsHeld hs (Refused name client number v) = Unit {0}
IsHeld hs (Queued name client number) = Unit {0}
IsHeld hs (Update name d) = IsIn d (deltas_in hs name)
IsHeld hs (Closed name reason) = Unit {0}
IsHeld hs (Bad reason) = Unit {0}
IsHeld hs (Peer domain) = Unit {0}
IsHeld hs (Have name from) = Unit {0}
IsHeld hs (Relay name s) = Unit {0}
IsHeld hs (Applied name d) = Unit {0}
IsHeld hs (Relayed name id v) = Unit {0}
IsHeld hs (Dropped name) = Unit {0}

-- whatever turns send is held by the histories after them, and these go on with the deltas that they had
pub record SentIsHeld : Type 0 where
  pub all_held : (p : Pipe) (ts : List Turn) → AreAscending (names_of p.hosted)
      → All (λ s. IsHeld (after p ts).hosted s.message) (sent p ts)
  pub longer : (hs gs : List Hosted) → ((n : Key) → Begins (deltas_in hs n) (deltas_in gs n)) → (m : Message) → IsHeld hs m → IsHeld gs m
  pub goes_on : (p : Pipe) (ts : List Turn) → AreAscending (names_of p.hosted) → (n : Key)
      → Begins (deltas_in p.hosted n) (deltas_in (after p ts).hosted n)
