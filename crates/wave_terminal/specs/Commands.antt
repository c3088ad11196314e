-- The commands of a playback, one a line.
--     is_word line word   a line is this word
--     command_of line     the command of a line, None where it is none
--     max_kept            how many bytes of a line are looked at: no command has so many
use Rattle.std.specs.Prelude.{ℕ, ◌==◌, Bool, cond, List, take, drop, Option, Some, None, codes}
use Rattle.std.specs.Option.{option_map}
use Rattle.std.specs.Cmp.Lexicographic.{pointwise}
use Rattle.wave_screen.specs.Numerals.{number}
use Rattle.wave_terminal.specs.declared.command.Command.{Command}
use Rattle.wave_terminal.specs.declared.command.Command.TheVariants.{Next, Back, Goto, Show, Quit}

abbrev pub is_word : List ℕ → List ℕ → Bool
is_word line word = pointwise ◌==◌ line word

abbrev pub goto_of : List ℕ → Option Command
goto_of line = cond (is_word (take 5 line) (codes "goto ")) (option_map Goto (number (drop 5 line))) None

abbrev pub command_of : List ℕ → Option Command
command_of line = cond (is_word line (codes "next")) (Some Next)
    (cond (is_word line (codes "back")) (Some Back)
    (cond (is_word line (codes "show")) (Some Show) (cond (is_word line (codes "quit")) (Some Quit) (goto_of line))))

abbrev pub max_kept : ℕ
max_kept = 64
