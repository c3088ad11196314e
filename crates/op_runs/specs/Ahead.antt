-- Runs as a walk over an operation finds them.
--     ahead_actions u a     the actions of what is ahead
--     IsFitAhead a          the run isn't empty, and where attributes change it is one item, whose update has a key and ascends
--     IsLast a acts         there are no actions, where nothing is ahead
use Rattle.std.specs.Prelude.{◌≡◌, ◌<◌, List, [], length, map}
use Rattle.doc_items.specs.Changes.{ChangeSet}
use Rattle.doc_op.specs.Actions.{Action, insertion, deletion}
use Rattle.doc_op.specs.Runs.{contents}
use Rattle.op_runs.specs.Kept.{kept_actions, IsFitKept}
use Rattle.op_runs.specs.declared.ahead.Ahead.{Ahead}
use Rattle.op_runs.specs.declared.ahead.Ahead.TheVariants.{Nothing, Inserts, Deletes, Keeps}

abbrev pub ahead_actions : ChangeSet → Ahead → List Action
ahead_actions u Nothing = []
ahead_actions u (Inserts run) = map (insertion u) (contents run)
ahead_actions u (Deletes run) = map (deletion u) (contents run)
ahead_actions u (Keeps k) = kept_actions u k

abbrev pub IsFitAhead : Ahead → Type 0
IsFitAhead Nothing = Unit {0}
IsFitAhead (Inserts run) = 0 < length (contents run)
IsFitAhead (Deletes run) = 0 < length (contents run)
IsFitAhead (Keeps k) = IsFitKept k

abbrev pub IsLast : Ahead → List Action → Type 0
IsLast Nothing acts = acts ≡ []
IsLast (Inserts run) acts = Unit {0}
IsLast (Deletes run) acts = Unit {0}
IsLast (Keeps k) acts = Unit {0}
