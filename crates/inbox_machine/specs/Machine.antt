-- The machine of an inbox: each line is a command, and what it prints comes before the next.
--     Inbox              the histories, the user, and the versions up to which wavelets are read
--     start hs user      nothing is read yet
--     with_mark p n v    a wavelet is read up to a version
--     told p t           all stays, and this is printed
--     answered p c       what a command does, and what it prints; None is a line that is none
--     clerk              the machine of inboxes, which looks at all of a line
use Rattle.std.specs.Prelude.{ℕ, true, false, cond, List, [], Option, Some, None}
use Rattle.doc_items.specs.Maps.{Key, same_text}
use Rattle.wave_index.specs.Inboxes.{inbox, search}
use Rattle.wave_index.specs.Taken.{Histories}
use Rattle.wave_terminal.specs.Machines.{Told, Machine}
use Rattle.inbox_machine.specs.declared.command.Command.{Command}
use Rattle.inbox_machine.specs.declared.command.Command.TheVariants.{Show, Search, Read, Quit}
use Rattle.inbox_machine.specs.Commands.{command_of}
use Rattle.inbox_machine.specs.Printed.{lines_text, hits_text, unknown_text}

pub record Inbox : Type 0 where
  pub histories : Histories
  pub user : Key
  pub marks : Key → ℕ

abbrev pub start : Histories → Key → Inbox
start hs user = record { histories = hs; user = user; marks = λ n. 0 }

abbrev pub with_mark : Inbox → Key → ℕ → Inbox
with_mark p n v = record { histories = p.histories; user = p.user; marks = λ q. cond (same_text n q) v (p.marks q) }

abbrev pub told : Inbox → List ℕ → Told Inbox
told p t = record { state = p; text = t; quit = false }

abbrev pub answered : Inbox → Option Command → Told Inbox
answered p None = told p unknown_text
answered p (Some Show) = told p (lines_text (inbox p.histories p.user p.marks))
answered p (Some (Search w)) = told p (hits_text (search p.histories p.user w))
answered p (Some (Read n v)) = told (with_mark p n v) []
answered p (Some Quit) = record { state = p; text = []; quit = true }

abbrev pub clerk : Machine Inbox
clerk = record { told = λ p line. answered p (command_of line); keeps = λ n. true }
