-- Items that stay, as a walk over an operation finds them.
--     kept_change part      their attribute change
--     kept_actions u k      their actions, where u runs
--     IsFitPartOf n part    where attributes change it is one item, and an update has a key and its keys ascend
--     IsFitKept k           the run is fit in this way, and isn't empty
use Rattle.std.specs.Prelude.{◌≡◌, ℕ, ◌<◌, List, replicate, Option, None, Some}
use Rattle.doc_items.specs.Changes.{ChangeSet}
use Rattle.doc_op.specs.Actions.{AttributeChange, Unchanged, Action, Keep}
use Rattle.doc_op.specs.Runs.{part_change, IsFitPart}
use Rattle.doc_op.specs.declared.run.AttributePart.{AttributePart}
use Rattle.op_runs.specs.declared.kept.Kept.{Kept}

abbrev pub kept_change : Option AttributePart → AttributeChange
kept_change None = Unchanged
kept_change (Some part) = part_change part

abbrev pub kept_actions : ChangeSet → Kept → List Action
kept_actions u k = replicate k.count (Keep u (kept_change k.part))

abbrev pub IsFitPartOf : ℕ → Option AttributePart → Type 0
IsFitPartOf n None = Unit {0}
IsFitPartOf n (Some part) = (n ≡ 1) × IsFitPart part

abbrev pub IsFitKept : Kept → Type 0
IsFitKept k = (0 < k.count) × IsFitPartOf k.count k.part
