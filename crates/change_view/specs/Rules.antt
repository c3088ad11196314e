-- What becomes of one key where two change sets meet at it. Each set may lack the key.
--     one_second            the second's change where it has one, else the first's
--     one_second_turned     the second's turned back where it has one, else the first's
--     one_over              the first's, from the second's new value where it has the key
--     one_under             the first's where the second lacks the key
--     one_then              first then second: from the first's old value to the second's new one
--     one_unlike            the first's where the second hasn't the very same
--     one_starting          the first's, from the second's new value, absent where the second lacks the key
--     fresh v               from absent to the value
--     one_inserted c        a change's new value, as absent before; nothing where it is absent
--     one_deleted c         a change's old value, as absent afterwards
--     combined r            what the rule r makes of the two
--     same_old              where both have the key: equal old values
--     new_is_old            where both have the key: the first's new value is the second's old one
--     old_is_there          where the second has the key: its old value is the first's new one, absent where the first lacks it
--     passing t             what the test t says of the two
use Rattle.std.specs.Prelude.{Bool, true, cond, ◌&&◌, Option, None, Some, option_and_then}
use Rattle.std.specs.Option.{option_map}
use Rattle.doc_items.specs.Maps.{Key, same_value}
use Rattle.doc_items.specs.Changes.{KeyChange, turned}
use Rattle.change_view.specs.declared.rule.Rule.{Rule}
use Rattle.change_view.specs.declared.rule.Rule.TheVariants.{Second, SecondTurned, Over, Under, Then, Unlike, Starting, Inserted, Deleted}
use Rattle.change_view.specs.declared.rule.Test.{Test}
use Rattle.change_view.specs.declared.rule.Test.TheVariants.{SameOld, NewIsOld, OldIsThere}

-- ---- rules

abbrev pub one_second : Option KeyChange → Option KeyChange → Option KeyChange
one_second u None = u
one_second u (Some w) = Some w

abbrev pub one_second_turned : Option KeyChange → Option KeyChange → Option KeyChange
one_second_turned u None = u
one_second_turned u (Some w) = Some (turned w)

abbrev pub one_over : Option KeyChange → Option KeyChange → Option KeyChange
one_over None w = None
one_over (Some u) None = Some u
one_over (Some u) (Some w) = Some (record { old = w.new; new = u.new })

abbrev pub one_under : Option KeyChange → Option KeyChange → Option KeyChange
one_under u None = u
one_under u (Some w) = None

abbrev pub one_then : Option KeyChange → Option KeyChange → Option KeyChange
one_then None w = w
one_then (Some u) None = Some u
one_then (Some u) (Some w) = Some (record { old = u.old; new = w.new })

abbrev pub same_change : KeyChange → KeyChange → Bool
same_change c d = same_value c.old d.old && same_value c.new d.new

abbrev pub one_unlike : Option KeyChange → Option KeyChange → Option KeyChange
one_unlike None w = None
one_unlike (Some u) None = Some u
one_unlike (Some u) (Some w) = cond (same_change u w) None (Some u)

abbrev pub one_starting : Option KeyChange → Option KeyChange → Option KeyChange
one_starting None w = None
one_starting (Some u) None = Some (record { old = None; new = u.new })
one_starting (Some u) (Some w) = Some (record { old = w.new; new = u.new })

abbrev pub fresh : Key → KeyChange
fresh v = record { old = None; new = Some v }

abbrev pub one_inserted : KeyChange → Option KeyChange
one_inserted c = option_map fresh c.new

abbrev pub one_deleted : KeyChange → KeyChange
one_deleted c = record { old = c.old; new = None }

abbrev pub combined : Rule → Option KeyChange → Option KeyChange → Option KeyChange
combined Second u w = one_second u w
combined SecondTurned u w = one_second_turned u w
combined Over u w = one_over u w
combined Under u w = one_under u w
combined Then u w = one_then u w
combined Unlike u w = one_unlike u w
combined Starting u w = one_starting u w
combined Inserted u w = option_and_then one_inserted u
combined Deleted u w = option_map one_deleted u

-- ---- tests

abbrev pub same_old : Option KeyChange → Option KeyChange → Bool
same_old None w = true
same_old (Some u) None = true
same_old (Some u) (Some w) = same_value u.old w.old

abbrev pub new_is_old : Option KeyChange → Option KeyChange → Bool
new_is_old None w = true
new_is_old (Some u) None = true
new_is_old (Some u) (Some w) = same_value u.new w.old

abbrev pub old_is_there : Option KeyChange → Option KeyChange → Bool
old_is_there u None = true
old_is_there None (Some w) = same_value w.old None
old_is_there (Some u) (Some w) = same_value w.old u.new

abbrev pub passing : Test → Option KeyChange → Option KeyChange → Bool
passing SameOld u w = same_old u w
passing NewIsOld u w = new_is_old u w
passing OldIsThere u w = old_is_there u w
