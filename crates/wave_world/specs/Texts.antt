-- Operations whose annotations and attributes are texts: what every message holds.
--     AreTextsIn m          the keys and values of a map are UTF-8
--     IsTextChange a        so are those of an attribute change; an update changes a key
--     IsText a, AreText as  so are those of actions on items
--     IsTextAct a, AreTextActs as     so are those of acts
--     AreTextEntries es     so are those of lists of acts
use Rattle.std.specs.Prelude.{◌≢◌, List, [], ◌∷◌}
use Rattle.doc_items.specs.Maps.{Key, Map}
use Rattle.doc_items.specs.Changes.{none_running}
use Rattle.change_view.specs.Sets.{from_absent}
use Rattle.change_view.specs.Texts.{AreTexts}
use Rattle.doc_op.specs.Actions.{AttributeChange, Unchanged, Update, Replace, Action, Keep, Ins, Del}
use Rattle.doc_op.specs.Normal.{to_absent}
use Rattle.wavelet_op.specs.Acts.{Act, Idle, Adds, Removes, Sets, Mutates}

abbrev pub AreTextsIn : Map Key → Type 0
AreTextsIn m = AreTexts (from_absent m)

abbrev pub IsTextChange : AttributeChange → Type 0
IsTextChange Unchanged = Unit {0}
IsTextChange (Update c) = AreTexts c × (c ≢ none_running)
IsTextChange (Replace old new) = AreTextsIn old × AreTextsIn new

abbrev pub IsText : Action → Type 0
IsText (Keep u a) = AreTexts u × IsTextChange a
IsText (Ins x) = AreTextsIn x.notes
IsText (Del c n) = AreTexts (to_absent n)

abbrev pub AreText : List Action → Type 0
AreText [] = Unit {0}
AreText (a ∷ acts) = IsText a × AreText acts

abbrev pub IsTextAct : Act → Type 0
IsTextAct Idle = Unit {0}
IsTextAct (Adds a) = Unit {0}
IsTextAct (Removes a) = Unit {0}
IsTextAct (Sets a old new) = Unit {0}
IsTextAct (Mutates d acts) = AreText acts

abbrev pub AreTextActs : List Act → Type 0
AreTextActs [] = Unit {0}
AreTextActs (a ∷ acts) = IsTextAct a × AreTextActs acts

abbrev pub AreTextEntries : List (List Act) → Type 0
AreTextEntries [] = Unit {0}
AreTextEntries (acts ∷ rest) = AreTextActs acts × AreTextEntries rest
