-- The machine as its definition sees it.
--     inbox_of m      the histories of its index, its user, and what is read
use Rattle.wave_index.specs.Marks.{mark_in}
use Rattle.inbox_machine.specs.Machine.{Inbox}
use Rattle.inbox_machine.specs.declared.machine.InboxMachine.{InboxMachine}

abbrev pub inbox_of : InboxMachine → Inbox
inbox_of m = record { histories = m.index; user = m.user; marks = mark_in m.marks }
