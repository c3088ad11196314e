-- The law of composition.
--     CompositionHolds      on every document the composition is defined and applies with a result exactly where the first
--                           operation applies and the second then applies with that result
use Rattle.std.specs.Prelude.{◌≡◌, List, option_and_then}
use Rattle.doc_items.specs.declared.item.Item.{Item}
use Rattle.doc_op.specs.Actions.{Action}
use Rattle.doc_op.specs.Apply.{apply}
use Rattle.op_compose.specs.Compose.{compose, defined}

abbrev pub CompositionHolds : Type 0
CompositionHolds = (f s : List Action) (document : List Item) → option_and_then (apply s) (apply f document)
    ≡ option_and_then (λ c. apply c document) (defined (compose f s))
