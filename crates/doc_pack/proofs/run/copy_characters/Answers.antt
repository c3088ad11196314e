use Rattle.std.proofs.Common.{◌++◌, ◌∷◌, [], List, sym, ap, ◌∙◌, append_assoc, append-nil}
use Rattle.std.specs.Str.{chars}
use Rattle.std.proofs.lemmas.Str.{IsUtf8-past_char, chars_past_char}
use Rattle.doc_items.specs.declared.item.Item.{Item}
use Rattle.doc_pack.specs.Characters.{character_item, character_items}
use Rattle.doc_pack.proofs.Rows.{text_none}
use Rattle.doc_pack.proofs.run.copy_characters.Goals as goal

pub loop-c-preserved : goal.loop-c-preserved
loop-c-preserved c =
    let held = c.loop-c.invariant in
    let parts = c.in-Some.ensures.steps.0 in
    let step = chars_past_char _ _ c.in-Some.c held.utf8 parts in
    record { utf8 = IsUtf8-past_char _ _ c.in-Some.c held.utf8 parts; same = rw (c.in_ok-push.ensures.items, c.in_ok-notes.ensures, append_assoc) (rw step at held.same) }

pub returns : goal.returns
returns c = sym (append-nil _) ∙ (rw (text_none _ c.in-None.ensures.steps.0.0) at c.loop-c.invariant.same)
