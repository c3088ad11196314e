-- What the walk over an operation keeps, whatever actions follow.
--     items_of d               the items of a document, in pieces or not
--     expects items r acts     what comes out in the end, where these actions are still to come
--     HasRoom items r acts     the document has the items that these actions take, and the output has room for what undoes them
--     Undone items acts old new     the walk went past these actions
use Rattle.std.specs.Prelude.{◌≡◌, ◌≤◌, ◌+◌, List, ◌++◌, length, drop}
use Rattle.doc_items.specs.Limits.{max_count}
use Rattle.doc_items.specs.declared.item.Item.{Item}
use Rattle.doc_op.specs.Actions.{Action}
use Rattle.doc_op.specs.Lengths.{input_len, output_len}
use Rattle.op_invert.specs.Inverse.{inverse}
use Rattle.op_invert.specs.declared.items.Items.{Items}
use Rattle.op_invert.specs.declared.items.Items.TheVariants.{Plain, Pieces}
use Rattle.op_invert.specs.declared.reversal.Reversal.{Reversal}

abbrev pub items_of : Items → List Item
items_of (Plain items) = items.now
items_of (Pieces rope) = rope.now

abbrev pub expects : List Item → Reversal → List Action → List Action
expects items r acts = r.out ++ inverse acts (drop r.place items)

pub record HasRoom (items : List Item) (r : Reversal) (acts : List Action) : Type 0 where
  pub place : r.place + input_len acts ≤ length items
  pub input : input_len r.out + output_len acts ≤ max_count
  pub output : output_len r.out + input_len acts ≤ max_count

pub record Undone (items : List Item) (acts : List Action) (old new : Reversal) : Type 0 where
  pub is : (more : List Action) → expects items old (acts ++ more) ≡ expects items new more
  pub place : new.place ≡ old.place + input_len acts
  pub input : input_len new.out ≡ input_len old.out + output_len acts
  pub output : output_len new.out ≡ output_len old.out + input_len acts
