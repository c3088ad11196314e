-- Contents in a row beside others, and beside the change of an element's attributes.
--     common cs es           how many contents are equal before the first that isn't
--     all_agree a cs         the attribute change a agrees with each content
use Rattle.std.specs.Prelude.{ℕ, suc, Bool, true, cond, ◌&&◌, List, [], ◌∷◌}
use Rattle.doc_items.specs.declared.item.Content.{Content}
use Rattle.doc_op.specs.Actions.{AttributeChange}
use Rattle.doc_op.specs.Apply.{content_agrees, same_content}

abbrev pub common : List Content → List Content → ℕ
common [] es = 0
common (c ∷ cs) [] = 0
common (c ∷ cs) (e ∷ es) = cond (same_content c e) (suc (common cs es)) 0

abbrev pub all_agree : AttributeChange → List Content → Bool
all_agree a [] = true
all_agree a (c ∷ cs) = content_agrees a c && all_agree a cs
