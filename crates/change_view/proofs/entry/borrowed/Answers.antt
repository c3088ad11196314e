use Rattle.std.proofs.lemmas.Str.{is_utf8-from_IsUtf8}
use Rattle.change_view.proofs.entry.borrowed.Goals as goal

pub returns-in-Some-clause-texts : goal.returns-in-Some-clause-texts
returns-in-Some-clause-texts c = is_utf8-from_IsUtf8 c.as_str.result.now c.as_str.utf8
