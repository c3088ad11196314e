-- What is written for a line.
--     line_data session m     a message with the session that it is from, or goes to
--     framed session t        the line with its line feed, where t is the text of the message and the session an id
--     snapshot_text s         the text of the message of a snapshot
use Rattle.std.specs.Prelude.{ℕ, List, ◌++◌, codes}
use Rattle.serde_json.specs.Data.{Data, string, object, no_members, member}
use Rattle.serde_json.specs.Written.{compact_text}
use Rattle.wavelet_state.specs.Snapshots.{SnapshotOf}
use Rattle.message_json.specs.Write.{message_data}
use Rattle.message_json.specs.declared.message.Message.TheVariants.{Snapshot}

abbrev pub line_data : List ℕ → Data → Data
line_data session m = object (member (codes "message") m (member (codes "session") (string session) no_members))

abbrev pub framed : List ℕ → List ℕ → List ℕ
framed session t = codes "{\"message\":" ++ (t ++ (codes ",\"session\":\"" ++ (session ++ codes "\"}\n")))

unfoldable pub snapshot_text : SnapshotOf → List ℕ
snapshot_text s = compact_text (message_data (Snapshot s))
