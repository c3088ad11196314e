-- What a pipe writes.
--     Sent               a message, and the text of the session that it goes to
--     sent_to n m        the message to the session
--     line_of s          it as a line, with its line feed
--     lines_of ss        the lines, one after the other
use Rattle.std.specs.Prelude.{ℕ, List, [], ◌∷◌, ◌++◌}
use Rattle.serde_json.specs.Written.{compact_text}
use Rattle.message_json.specs.Write.{message_data}
use Rattle.message_json.specs.declared.message.Message.{Message}
use Rattle.wave_messages.specs.Write.{line_data}

pub record Sent : Type 0 where
  pub session : List ℕ
  pub message : Message

abbrev pub sent_to : List ℕ → Message → Sent
sent_to name m = record { session = name; message = m }

abbrev pub line_of : Sent → List ℕ
line_of s = compact_text (line_data s.session (message_data s.message)) ++ 10 ∷ []

abbrev pub lines_of : List Sent → List ℕ
lines_of [] = []
lines_of (s ∷ ss) = line_of s ++ lines_of ss
