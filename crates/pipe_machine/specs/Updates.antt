-- Updates that are written once.
--     IsUpdate c u     the text is that of the update with the delta at its place, as the copies are
--     IsLast c o       the text that was written last, where there is one, is that of its update
use Rattle.std.specs.Prelude.{◌≡◌, Option, Some, None, slice_get}
use Rattle.serde_json.specs.Written.{compact_text}
use Rattle.wavelet_op.specs.Deltas.{DeltaOf}
use Rattle.message_json.specs.Write.{message_data}
use Rattle.message_json.specs.declared.message.Message.TheVariants as message
use Rattle.session_core.specs.Access.{Shown}
use Rattle.session_core.specs.News.{deltas_of}
use Rattle.pipe_machine.specs.declared.lines.Update.{Update}

abbrev pub IsUpdate : Shown → Update → Type 0
IsUpdate c u = (d : DeltaOf) → slice_get (deltas_of (c.copy u.name.now)) u.place ≡ Some d → u.text.items
    ≡ compact_text (message_data (message.Update u.name.now d))

abbrev pub IsLast : Shown → Option Update → Type 0
IsLast c None = Unit {0}
IsLast c (Some u) = IsUpdate c u
