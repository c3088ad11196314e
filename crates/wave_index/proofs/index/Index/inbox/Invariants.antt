use Rattle.std.proofs.Common.{◌≡◌, ◌++◌}
use Rattle.wave_index.specs.Inboxes.{lines_of}
use Rattle.wave_index.specs.Marks.{mark_in}
use Rattle.wave_index.proofs.index.Index.inbox.Given as goal

abbrev pub invariant-loop-name : goal.invariant-loop-name
invariant-loop-name l = l.lines.items ++ lines_of l.name-iterator l.user (mark_in l.marks) ≡ lines_of l.initial.name-iterator l.user (mark_in l.marks)
