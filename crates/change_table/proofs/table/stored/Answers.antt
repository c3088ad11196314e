use Rattle.std.proofs.lemmas.Bool.{and_parts, and_from}
use Rattle.std.proofs.lemmas.Str.{is_utf8-from_IsUtf8}
use Rattle.change_table.proofs.table.stored.Goals as goal

pub returns-clause-texts : goal.returns-clause-texts
returns-clause-texts c = and_from _ _ (is_utf8-from_IsUtf8 c.as_str.result.now c.as_str.utf8) (and_parts _ _ c.of-of_change.ensures.texts).1
