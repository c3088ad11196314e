-- What an inbox prints, as the bytes of its lines.
--     line_text l          what there is of a wavelet
--     hit_text h           where a word stands
--     lines_text, hits_text     several, in order
--     unknown_text         a line that is no command
use Rattle.std.specs.Prelude.{ℕ, List, ◌++◌, codes, decimal}
use Rattle.std.specs.List.{flat_map}
use Rattle.wave_index.specs.declared.answers.Hit.{Hit}
use Rattle.wave_index.specs.declared.answers.InboxLine.{InboxLine}
use Rattle.wave_screen.specs.Escapes.{escaped}

abbrev pub line_text : InboxLine → List ℕ
line_text l = l.name ++ codes " version " ++ decimal l.version ++ codes " unread " ++ decimal l.unread ++ codes " title " ++ escaped l.title
    ++ codes "\n"

abbrev pub hit_text : Hit → List ℕ
hit_text h = h.name ++ codes " " ++ h.document ++ codes "\n"

abbrev pub lines_text : List InboxLine → List ℕ
lines_text ls = flat_map line_text ls

abbrev pub hits_text : List Hit → List ℕ
hits_text hs = flat_map hit_text hs

abbrev pub unknown_text : List ℕ
unknown_text = codes "! unknown command\n"
