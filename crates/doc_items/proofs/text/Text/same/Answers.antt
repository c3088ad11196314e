use Rattle.std.specs.Arc.{arc_value}
use Rattle.std.proofs.Common.{◌≡◌, sym, ap, ◌∙◌, string_bytes}
use Rattle.std.specs.Str.{chars, encode_utf8_all}
use Rattle.std.specs.Cmp.{both_ways}
use Rattle.std.specs.Cmp.Lexicographic.{bytes_decides}
use Rattle.std.proofs.lemmas.Str.{encodes-chars, IsUtf8-string_bytes}
use Rattle.doc_items.specs.Maps.{same_text}
use Rattle.doc_items.proofs.text.Text.same.Goals as goal

pub returns : goal.returns
returns c =
    let bs = string_bytes (arc_value c.self.inside.string) in
    let ds = string_bytes (arc_value c.other.inside.string) in
    let whole = encodes-chars bs (IsUtf8-string_bytes (arc_value c.self.inside.string)) in
    let other_whole = encodes-chars ds (IsUtf8-string_bytes (arc_value c.other.inside.string)) in
    let texts : same_text bs ds ≡ same_text (chars bs) (chars ds) = both_ways _ _
    (λ e. (bytes_decides (chars bs) (chars ds)).1 (ap chars ((bytes_decides bs ds).0 e)))
    (λ e. (bytes_decides bs ds).1 (sym whole ∙ ap encode_utf8_all ((bytes_decides (chars bs) (chars ds)).0 e) ∙ other_whole)) in
    c.eq.ensures ∙ (λ i. same_text (c.as_str.ensures.value i) (c.as_str-2.ensures.value i)) ∙ (λ i. same_text (string_bytes (c.deref.ensures i)) (string_bytes (c.deref-2.ensures i))) ∙ texts ∙ (λ i. same_text (c.self.view_is i) (c.other.view_is i))
