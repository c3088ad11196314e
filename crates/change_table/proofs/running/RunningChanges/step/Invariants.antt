use Rattle.std.proofs.Common.{◌≡◌, take}
use Rattle.doc_items.specs.Changes.{without, with_changes}
use Rattle.change_table.proofs.running.RunningChanges.step.Given as goal

abbrev pub invariant-loop-key : goal.invariant-loop-key
invariant-loop-key l = l.self ≡ without l.fn.self (take l.key-index l.key-items)

abbrev pub invariant-loop-change : goal.invariant-loop-change
invariant-loop-change l = l.self ≡ with_changes l.initial.self (take l.change-index l.change-items)
