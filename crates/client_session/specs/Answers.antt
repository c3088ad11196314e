-- What a line or a message makes the client send and print.
--     acts ms s            these messages are sent, and this is printed
--     quiet, says s        nothing at all; this is printed
--     syncing, leaving     the line waits for what is under way; it ends the run
--     printed a            all that is printed
use Rattle.std.specs.Prelude.{ℕ, true, false, List, [], ◌++◌}
use Rattle.message_json.specs.declared.message.Message.{Message}
use Rattle.client_session.specs.Lines.{said_text}
use Rattle.client_session.specs.declared.acts.Acts.{Acts}
use Rattle.client_session.specs.declared.said.Said.{Said}
use Rattle.client_session.specs.declared.said.Said.TheVariants.{Nothing}

abbrev pub acts : List Message → Said → Acts
acts ms s = record { send = ms; said = s; unsent = Nothing; waits = false; ends = false }

abbrev pub quiet : Acts
quiet = acts [] Nothing

abbrev pub says : Said → Acts
says s = acts [] s

abbrev pub syncing : Acts
syncing = record { send = []; said = Nothing; unsent = Nothing; waits = true; ends = false }

abbrev pub leaving : Acts
leaving = record { send = []; said = Nothing; unsent = Nothing; waits = false; ends = true }

abbrev pub printed : Acts → List ℕ
printed a = said_text a.said ++ said_text a.unsent
