-- Messages as they are sent.
--     frame_of m       the text of a message
--     frames_of ms     those of a list, in order
use Rattle.std.specs.Prelude.{ℕ, List, map}
use Rattle.serde_json.specs.Written.{compact_text}
use Rattle.message_json.specs.Write.{message_data}
use Rattle.message_json.specs.declared.message.Message.{Message}

unfoldable pub frame_of : Message → List ℕ
frame_of m = compact_text (message_data m)

abbrev pub frames_of : List Message → List (List ℕ)
frames_of ms = map frame_of ms
