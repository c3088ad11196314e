-- The commands of a playback: what each does, and what it prints.
--     shown_text p        the screen of the version that is shown
--     told p t            the playback stays, and prints this
--     moved t r           it goes where a call led it; where that answered false, it stays and prints this
--     obeyed p c          a command; None is a line that is none
--     player              the machine of playbacks
use Rattle.std.specs.Prelude.{ℕ, nat_le, Bool, true, false, cond, List, [], Option, Some, None, codes}
use Rattle.wavelet_op.specs.States.{State}
use Rattle.wave_playback.specs.Playing.{PlaybackOf, shown_at, forward, back, sought}
use Rattle.wave_terminal.specs.Commands.{command_of, max_kept}
use Rattle.wave_terminal.specs.Machines.{Told, Machine}
use Rattle.wave_screen.specs.Screen.{screen_text}
use Rattle.wave_terminal.specs.declared.command.Command.{Command}
use Rattle.wave_terminal.specs.declared.command.Command.TheVariants.{Next, Back, Goto, Show, Quit}

abbrev pub screen_at : List ℕ → ℕ → Option State → List ℕ
screen_at name v None = []
screen_at name v (Some s) = screen_text name v false s

abbrev pub shown_text : PlaybackOf → List ℕ
shown_text p = screen_at p.history.name p.version (shown_at p.history p.version)

abbrev pub told : PlaybackOf → List ℕ → Told PlaybackOf
told p t = record { state = p; text = t; quit = false }

abbrev pub moved : List ℕ → Bool × PlaybackOf → Told PlaybackOf
moved t r = record { state = r.1; text = cond r.0 [] t; quit = false }

abbrev pub obeyed : PlaybackOf → Option Command → Told PlaybackOf
obeyed p None = told p (codes "! unknown command\n")
obeyed p (Some Next) = moved (codes "! at the end\n") (forward p)
obeyed p (Some Back) = moved (codes "! at the start\n") (back p)
obeyed p (Some (Goto v)) = moved (codes "! no such version\n") (sought p v)
obeyed p (Some Show) = told p (shown_text p)
obeyed p (Some Quit) = record { state = p; text = []; quit = true }

abbrev pub player : Machine PlaybackOf
player = record { told = λ p line. obeyed p (command_of line); keeps = λ n. nat_le n max_kept }
