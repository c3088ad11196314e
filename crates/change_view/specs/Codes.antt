-- The codes of a change and of a change set.
--     key_change_code, change_set_code      the code of the change of a key, and that of a change set
use Rattle.std.specs.Prelude.{refl, Option}
use Rattle.std.specs.Coded.{Coded, code_by, coded×, coded_ℕ, coded_list, coded_option}
use Rattle.std.specs.FinMap.{code}
use Rattle.doc_items.specs.Maps.{Key}
use Rattle.doc_items.specs.Changes.{KeyChange, ChangeSet}

abbrev pub key_change_code : Coded KeyChange
key_change_code = code_by (Option Key × Option Key) (coded× (coded_option (coded_list coded_ℕ)) (coded_option (coded_list coded_ℕ)))
    (λ c. (c.old, c.new)) (λ p. record { old = p.0; new = p.1 }) (λ _. refl)

abbrev pub change_set_code : Coded ChangeSet
change_set_code = code (coded_list coded_ℕ) key_change_code
