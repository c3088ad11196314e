use Rattle.std.proofs.lemmas.Bool.{and_from}
use Rattle.std.proofs.lemmas.Str.{is_utf8-from_IsUtf8}
use Rattle.change_view.proofs.entry.ChangeRef.of.Goals as goal

pub returns-clause-texts : goal.returns-clause-texts
returns-clause-texts c = and_from _ _ (is_utf8-from_IsUtf8 c.as_str-key.result.now c.as_str-key.utf8) (and_from _ _ c.borrowed-old.ensures.texts c.borrowed-new.ensures.texts)
