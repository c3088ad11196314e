-- The commands of an inbox, one a line. Between the words of a line stands one space.
--     has_space t          there is a space
--     search_of t          a search for a word, which is any text without a space
--     read_of t            a wavelet is read up to a version
--     worded_of w t        the command of a first word with a text after it
--     only_of t            the command of a text without a space
--     text_of t            the command of a text
--     command_of line      the command of a line; None where it is none, as where the line isn't UTF-8
use Rattle.std.specs.Prelude.{ℕ, ◌==◌, Bool, true, false, cond, List, Option, Some, None, codes}
use Rattle.std.specs.List.{list_any}
use Rattle.std.specs.Option.{option_map}
use Rattle.std.specs.Str.{is_utf8}
use Rattle.doc_items.specs.Maps.{same_text}
use Rattle.wave_base.specs.Grammar.{is_wavelet_name, before, behind}
use Rattle.wave_screen.specs.Numerals.{number}
use Rattle.inbox_machine.specs.declared.command.Command.{Command}
use Rattle.inbox_machine.specs.declared.command.Command.TheVariants.{Show, Search, Read, Quit}

-- ---- words

abbrev pub space : ℕ
space = 32

abbrev pub has_space : List ℕ → Bool
has_space t = list_any (λ b. b == space) t

abbrev pub search_of : List ℕ → Option Command
search_of t = cond (has_space t) None (Some (Search t))

abbrev pub read_named : Bool → List ℕ → List ℕ → Option Command
read_named false name version = None
read_named true name version = option_map (Read name) (number version)

abbrev pub read_of : List ℕ → Option Command
read_of t = cond (has_space t) (read_named (is_wavelet_name (before space t)) (before space t) (behind space t)) None

abbrev pub worded_of : List ℕ → List ℕ → Option Command
worded_of first rest = cond (same_text first (codes "search")) (search_of rest) (cond (same_text first (codes "read")) (read_of rest) None)

abbrev pub only_of : List ℕ → Option Command
only_of t = cond (same_text t (codes "list")) (Some Show) (cond (same_text t (codes "quit")) (Some Quit) None)

abbrev pub text_of : List ℕ → Option Command
text_of t = cond (has_space t) (worded_of (before space t) (behind space t)) (only_of t)

abbrev pub command_of : List ℕ → Option Command
command_of line = cond (is_utf8 line) (text_of line) None
