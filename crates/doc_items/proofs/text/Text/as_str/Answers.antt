use Rattle.std.specs.Arc.{arc_value}
use Rattle.std.proofs.Common.{sym, ap, ◌∙◌, string_bytes}
use Rattle.std.specs.Str.{encode_utf8_all}
use Rattle.std.proofs.Math.Utf8.{scalars}
use Rattle.std.proofs.lemmas.Str.{encodes-chars, scalars-chars, IsUtf8-string_bytes}
use Rattle.doc_items.proofs.text.Text.as_str.Goals as goal

pub returns-clause-bytes : goal.returns-clause-bytes
returns-clause-bytes c = c.as_str.ensures.value ∙ ap string_bytes c.deref.ensures ∙ sym (encodes-chars (string_bytes (arc_value c.self.inside.string)) (IsUtf8-string_bytes (arc_value c.self.inside.string))) ∙ ap encode_utf8_all c.self.view_is

pub returns-clause-scalars : goal.returns-clause-scalars
returns-clause-scalars c = ap scalars (sym c.self.view_is) ∙ scalars-chars (string_bytes (arc_value c.self.inside.string)) (IsUtf8-string_bytes (arc_value c.self.inside.string))
