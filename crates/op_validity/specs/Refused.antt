-- Why an operation doesn't apply to a document, in the order in which the reasons are looked for.
--     IsRefused e cs items     NotStructured: where the components break the rules of structure; then Mismatch: the index of
--                              the first item that doesn't agree; then WrongLength: all common items agree, and the lengths
--                              differ
use Rattle.std.specs.Prelude.{◌≡◌, ◌≢◌, List, length, None, Some}
use Rattle.doc_items.specs.declared.item.Item.{Item}
use Rattle.doc_op.specs.declared.component.Component.{Component}
use Rattle.doc_op.specs.Actions.{actions}
use Rattle.doc_op.specs.Lengths.{input_len}
use Rattle.doc_op.specs.Structure.{first_break}
use Rattle.doc_op.specs.Apply.{mismatch}
use Rattle.op_validity.specs.declared.fault.CheckFault.{CheckFault}
use Rattle.op_validity.specs.declared.fault.CheckFault.TheVariants.{NotStructured, Mismatch, WrongLength, Memory}

abbrev pub IsRefused : CheckFault → List Component → List Item → Type 0
IsRefused (NotStructured n) cs items = first_break cs ≡ Some n
IsRefused (Mismatch n) cs items = (first_break cs ≡ None) × (mismatch (actions cs) items ≡ Some n)
IsRefused WrongLength cs items = (first_break cs ≡ None) × (mismatch (actions cs) items ≡ None) × (input_len (actions cs) ≢ length items)
IsRefused Memory cs items = Unit {0}
