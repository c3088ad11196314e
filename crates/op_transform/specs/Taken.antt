-- Runs that take items.
--     taken_actions u t     the actions of a run that takes items, where u runs
--     taken_len t           how many they are
--     IsFitTaken t          the run isn't empty, and where attributes change it is one item, whose update has a key and ascends
use Rattle.std.specs.Prelude.{ℕ, ◌<◌, List, length, map}
use Rattle.doc_items.specs.Changes.{ChangeSet}
use Rattle.doc_op.specs.Actions.{Action, deletion}
use Rattle.doc_op.specs.Runs.{contents}
use Rattle.op_runs.specs.Kept.{kept_actions, IsFitKept}
use Rattle.op_transform.specs.declared.taken.Taken.{Taken}
use Rattle.op_transform.specs.declared.taken.Taken.TheVariants.{Kept as KeptRun, Deleted as DeletedRun}

abbrev pub taken_actions : ChangeSet → Taken → List Action
taken_actions u (KeptRun k) = kept_actions u k
taken_actions u (DeletedRun run) = map (deletion u) (contents run)

abbrev pub taken_len : Taken → ℕ
taken_len (KeptRun k) = k.count
taken_len (DeletedRun run) = length (contents run)

abbrev pub IsFitTaken : Taken → Type 0
IsFitTaken (KeptRun k) = IsFitKept k
IsFitTaken (DeletedRun run) = 0 < length (contents run)
