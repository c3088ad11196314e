use Rattle.std.proofs.Common.{sym, ◌∙◌}
use Rattle.doc_pack.proofs.Rows.{is_character}
use Rattle.doc_pack.proofs.characters.character.Goals as goal

pub returns-then-same : goal.returns-then-same
returns-then-same c = is_character c.args.item.now c.args.notes.now c.in-Character.c c.in-Character.is (sym c.same.ensures ∙ c.if-same.true)
