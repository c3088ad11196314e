-- What a line says.
--     lone_of t            the command of a text without a space
--     worded_of w t        the command of a first word with a text after it
--     command_of line      the command of a line; None where it is none, as where the line isn't UTF-8
use Rattle.std.specs.Prelude.{ℕ, Bool, cond, List, Option, None, Some, codes}
use Rattle.std.specs.Option.{option_map}
use Rattle.std.specs.Str.{is_utf8}
use Rattle.doc_items.specs.Maps.{Key, same_text}
use Rattle.wave_base.specs.Grammar.{is_wavelet_name, before, behind}
use Rattle.client_commands.specs.Words.{space, has_space, checked}
use Rattle.client_commands.specs.Edits.{edit_of}
use Rattle.client_commands.specs.declared.command.Command.{Command}
use Rattle.client_commands.specs.declared.command.Command.TheVariants as command

abbrev pub lone_of : Key → Option Command
lone_of t = cond (same_text t (codes "undo")) (Some command.Undo)
    (cond (same_text t (codes "show")) (Some command.Show) (cond (same_text t (codes "sync")) (Some command.Sync)
    (cond (same_text t (codes "drop")) (Some command.Drop) (cond (same_text t (codes "quit")) (Some command.Quit) None))))

abbrev pub create_of : Key → Option Command
create_of t = option_map command.Create (checked (is_wavelet_name t) t)

abbrev pub open_of : Key → Option Command
open_of t = option_map command.Open (checked (is_wavelet_name t) t)

abbrev pub worded_of : Key → Key → Option Command
worded_of w t = cond (same_text w (codes "create")) (create_of t)
    (cond (same_text w (codes "open")) (open_of t) (option_map command.Edit (edit_of w t)))

abbrev pub text_of : Key → Option Command
text_of t = cond (has_space t) (worded_of (before space t) (behind space t)) (lone_of t)

abbrev pub command_of : List ℕ → Option Command
command_of line = cond (is_utf8 line) (text_of line) None
