-- A command that was read, as a command: `shown`.
use Rattle.std.specs.Option.{option_map}
use Rattle.command_words.specs.Commands.{CommandOf, Pipe, Load, Play, Inbox, Serve, Edit}
use Rattle.command_words.specs.declared.command.Command.{Command}
use Rattle.command_words.specs.declared.command.Command.TheVariants as read

abbrev pub shown : Command → CommandOf
shown (read.Pipe store) = Pipe (option_map (λ s. s.now) store)
shown (read.Load count) = Load count
shown (read.Play store wavelet) = Play store.now wavelet
shown (read.Inbox store user) = Inbox store.now user
shown (read.Serve domain listen peers sessions store echo) = Serve domain listen.now peers sessions (option_map (λ s. s.now) store) echo
shown (read.Edit user client connect) = Edit user client connect.now
