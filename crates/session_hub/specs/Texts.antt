-- Texts of updates that are kept.
--     update_in f n p      the text of the update with the delta at a place of the wavelet's deltas, which f gives; None where there is
--                          none
--     AreWritten f ws      each text that is kept is that of its wavelet and place
--     IsPlacedIn f n       a delta that a session is sent stands at its place among those of its wavelet
use Rattle.std.specs.Prelude.{◌≡◌, ℕ, List, map, slice_get, Option, Some}
use Rattle.std.specs.Option.{option_map}
use Rattle.doc_items.specs.Maps.{Key}
use Rattle.message_json.specs.declared.message.Message.TheVariants as message
use Rattle.session_core.specs.declared.news.News.{News}
use Rattle.session_core.specs.declared.news.News.TheVariants as news
use Rattle.wavelet_op.specs.Deltas.{DeltaOf}
use Rattle.shard_marks.specs.Frames.{frame_of}
use Rattle.session_hub.specs.declared.texts.Text.{Text}

abbrev pub update_in : (Key → List DeltaOf) → Key → ℕ → Option (List ℕ)
update_in f n p = option_map (λ d. frame_of (message.Update n d)) (slice_get (f n) p)

abbrev pub AreWritten : (Key → List DeltaOf) → List Text → Type 0
AreWritten f ws = map (λ w. update_in f w.name w.place) ws ≡ map (λ w. Some w.bytes.items) ws

abbrev pub IsPlacedIn : (Key → List DeltaOf) → News → Type 0
IsPlacedIn f (news.Update name place delta) = slice_get (f name.now) place ≡ Some delta.now
IsPlacedIn f (news.Applied name place delta) = slice_get (f name.now) place ≡ Some delta.now
IsPlacedIn f (news.Message m) = Unit {0}
