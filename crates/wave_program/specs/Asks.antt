-- What is asked of stored histories.
--     history_in hs n room   the history of a name, with this room; it has no delta where it isn't there
--     histories_of hs        the histories as an index takes them, in byte order of their names
--     IsPlayed hs n          a run of commands over a playback of that history, from version 0 on
--     IsListed hs user       a run of the commands of an inbox, over all histories
use Rattle.std.specs.Prelude.{ℕ, List, Option}
use Rattle.doc_items.specs.Maps.{Key}
use Rattle.delta_history.specs.Histories.{HistoryOf}
use Rattle.inbox_machine.specs.Indexing.{indexed}
use Rattle.inbox_machine.specs.Machine.{start, clerk}
use Rattle.wave_index.specs.Taken.{Histories}
use Rattle.wave_playback.specs.Playing.{at_version}
use Rattle.wave_terminal.specs.Play.{player}
use Rattle.wave_terminal.specs.Runs.{IsObeyed}
use Rattle.wavelet_shelf.specs.Hosting.{Hosted, names_of, deltas_in}

abbrev pub history_in : List Hosted → Key → ℕ → HistoryOf
history_in hs n room = record { name = n; deltas = deltas_in hs n; spare = room }

abbrev pub histories_of : List Hosted → Histories
histories_of hs = indexed (names_of hs) (deltas_in hs)

-- the room is one that the history has, and shows in no answer
abbrev pub IsPlayed : List Hosted → Key → (left0 left1 held0 held1 : Option (List ℕ)) → ℕ → Type 0
IsPlayed hs n left0 left1 held0 held1 status = (room : ℕ)
    × IsObeyed player (at_version (history_in hs n room) 0) left0 left1 held0 held1 status

abbrev pub IsListed : List Hosted → Key → (left0 left1 held0 held1 : Option (List ℕ)) → ℕ → Type 0
IsListed hs user left0 left1 held0 held1 status = IsObeyed clerk (start (histories_of hs) user) left0 left1 held0 held1 status
