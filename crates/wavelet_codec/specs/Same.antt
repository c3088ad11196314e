-- The test of ≡ on components.
--     same_code a b              on codes
--     same_components cs ds      on lists of components, which their codes tell apart
use Rattle.std.specs.Prelude.{Bool, true, false, ◌&&◌, nat_eq, List}
use Rattle.std.specs.Coded.{Coded, coded_list}
use base.Stored.{Gv, gnil, gnum, gcons}
use Rattle.doc_op.specs.declared.component.Component.{Component}
use Rattle.doc_op.specs.contracts.component.Component as component_row

abbrev pub same_code : Gv → Gv → Bool
same_code gnil gnil = true
same_code gnil (gnum n) = false
same_code gnil (gcons c d) = false
same_code (gnum m) gnil = false
same_code (gnum m) (gnum n) = nat_eq m n
same_code (gnum m) (gcons c d) = false
same_code (gcons a b) gnil = false
same_code (gcons a b) (gnum n) = false
same_code (gcons a b) (gcons c d) = same_code a c && same_code b d

abbrev pub components_code : Coded (List Component)
components_code = coded_list component_row.the_row.coded

unfoldable pub same_components : List Component → List Component → Bool
same_components cs ds = same_code (components_code.code cs) (components_code.code ds)
