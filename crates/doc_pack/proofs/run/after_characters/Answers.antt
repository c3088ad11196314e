use Rattle.std.proofs.Common.{rules, ◌≡◌, ◌++◌, ◌∷◌, List, sym, ap, ◌∙◌}
use Rattle.std.specs.Str.{chars}
use Rattle.std.proofs.lemmas.Str.{IsUtf8-past_char, chars_past_char}
use Rattle.doc_items.specs.declared.item.Item.{Item}
use Rattle.doc_pack.specs.Characters.{character_item, character_items}
use Rattle.doc_pack.proofs.Rows.{text_none, passed_letter}
use Rattle.doc_pack.proofs.run.after_characters.Goals as goal

pub loop-c-preserved : goal.loop-c-preserved
loop-c-preserved c =
    let held = c.loop-c.invariant in
    let parts = c.in-Some.ensures.steps.0 in
    let step = chars_past_char _ _ c.in-Some.c held.utf8 parts in
    let first : c.loop-c.rest.now ≡ c.in_ok-first.first.now ∷ c.in_ok-first.others.now = search rules in
    let letter : c.in_ok-first.first.now ≡ character_item c.in-Some.c c.args.notes.now = search rules in
    record {
      utf8 = IsUtf8-past_char _ _ c.in-Some.c held.utf8 parts;
      passed = λ other e. held.passed other (passed_letter c.args.notes.now _ _ c.in-Some.c c.loop-c.rest.now c.in_ok-first.others.now other c.in_ok-first.first.now step first letter e);
    }

pub returns : goal.returns
returns c = c.loop-c.invariant.passed _ (ap (λ t. character_items c.args.notes.now t ++ c.loop-c.rest.now) (sym (text_none _ c.in-None.ensures.steps.0.0)))
