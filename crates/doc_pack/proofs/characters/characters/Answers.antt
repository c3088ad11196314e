use Rattle.std.proofs.Common.{◌≡◌, ◌+◌, length, string_bytes, sym, ap, ◌∙◌, refl, rules}
use Rattle.std.specs.Str.{chars}
use Rattle.std.proofs.lemmas.List.{length_push}
use Rattle.std.proofs.lemmas.Str.{IsUtf8-string_bytes, chars-nil}
use Rattle.doc_pack.proofs.Rows.{no_character, one_more, text_more}
use Rattle.doc_pack.proofs.characters.characters.Goals as goal

pub loop-item-init : goal.loop-item-init
loop-item-init c =
    let none = ap chars c.new-text.ensures.bytes ∙ chars-nil in
    record { are = no_character c.args.items.now c.args.notes.now _ none; count = ap length none; counted = refl }

pub loop-item-preserved : goal.loop-item-preserved
loop-item-preserved c =
    let text = string_bytes c.loop-item.text in
    let more = text_more text (string_bytes c.push.new.self) c.in-Some.c (IsUtf8-string_bytes c.loop-item.text) (IsUtf8-string_bytes c.push.new.self) c.in_ok-push-in-Some.ensures.bytes in
    record {
      are = one_more c.args.items.now c.args.notes.now (chars text) (chars (string_bytes c.push.new.self)) c.loop-item.item-index _ c.in-Some.c c.loop-item.invariant.are c.loop-item.invariant.count (search rules) c.item-item.is c.in-Some.ensures more;
      count = ap length more ∙ length_push (chars text) c.in-Some.c ∙ ap (λ k. k + 1) c.loop-item.invariant.count;
      counted = ap (λ k. k + 1) c.loop-item.invariant.counted;
    }
