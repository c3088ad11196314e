-- The histories that marks give.
--     hosted_as n ds        a hosted history of this name with these deltas
--     history_of h          a hosted history, as one without room for more
--     history_in hs n       the history of the name among hosted ones; the empty one where it isn't there
--     histories_at d k ms   the histories that the marks give, in byte order of their names
--     history_at d k ms n   that of the name
--     is_whole h            nothing of a hosted history is left at its head
--     is_short d            a message may hold the delta
--     is_sound h            a hosted history is whole, and each of its deltas short
--     are_sound hs          so is each
use Rattle.std.specs.Prelude.{ℕ, Bool, ◌&&◌, nat_lt, List, length, map}
use Rattle.std.specs.List.{list_all}
use Rattle.doc_items.specs.Maps.{Key}
use Rattle.op_codec.specs.Spelling.{limit}
use Rattle.wavelet_op.specs.Deltas.{DeltaOf}
use Rattle.wavelet_codec.specs.Spelling.{delta_bytes}
use Rattle.delta_history.specs.Histories.{HistoryOf, head_of}
use Rattle.session_core.specs.Current.{is_none_left}
use Rattle.session_core.specs.Deliveries.{since}
use Rattle.wavelet_shelf.specs.Hosting.{Hosted, deltas_in}
use Rattle.shard_marks.specs.declared.mark.Mark.{Mark}
use Rattle.shard_marks.specs.Marks.{replayed}

abbrev pub hosted_as : Key → List DeltaOf → Hosted
hosted_as n ds = record { name = n; deltas = ds }

abbrev pub history_of : Hosted → HistoryOf
history_of h = record { name = h.name; deltas = h.deltas; spare = 0 }

abbrev pub history_in : List Hosted → Key → HistoryOf
history_in hs n = record { name = n; deltas = deltas_in hs n; spare = 0 }

abbrev pub histories_at : Key → ℕ → List Mark → List HistoryOf
histories_at d k ms = map history_of (replayed d k ms)

abbrev pub history_at : Key → ℕ → List Mark → Key → HistoryOf
history_at d k ms n = history_in (replayed d k ms) n

abbrev pub is_whole : Hosted → Bool
is_whole h = is_none_left (since (head_of (history_of h)).at.version (history_of h))

abbrev pub is_short : DeltaOf → Bool
is_short d = nat_lt (length (delta_bytes d)) limit

abbrev pub is_sound : Hosted → Bool
is_sound h = is_whole h && list_all is_short h.deltas

abbrev pub are_sound : List Hosted → Bool
are_sound hs = list_all is_sound hs
