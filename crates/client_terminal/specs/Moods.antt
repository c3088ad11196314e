-- How a run goes on.
--     mood_run d       as a mood says
--     ends_closed d    the server closed the link
--     after_run a      as a line asks
--     went_on b        it looks at the link, or the server closed it
--     is_closed l      a look found that the server closed the link
use Rattle.std.specs.Prelude.{Bool, true, false}
use Rattle.client_terminal.specs.Runs.{RunOf, Reading, Left, Closed, in_phase, looked, synced}
use Rattle.client_terminal.specs.declared.mood.After.{After}
use Rattle.client_terminal.specs.declared.mood.After.TheVariants.{Leaves, Waits, Looks}
use Rattle.client_terminal.specs.declared.mood.Looked.{Looked}
use Rattle.client_terminal.specs.declared.mood.Looked.TheVariants as gave
use Rattle.client_terminal.specs.declared.mood.Mood.{Mood}
use Rattle.client_terminal.specs.declared.mood.Mood.TheVariants as mood

abbrev pub mood_run : Mood → RunOf → RunOf
mood_run mood.Reading r = in_phase Reading r
mood_run mood.Left r = in_phase Left r
mood_run mood.Closed r = in_phase Closed r

abbrev pub ends_closed : Mood → Bool
ends_closed mood.Reading = false
ends_closed mood.Left = false
ends_closed mood.Closed = true

abbrev pub after_run : After → RunOf → RunOf
after_run Leaves r = in_phase Left r
after_run Waits r = synced 0 0 r
after_run Looks r = looked 0 r

abbrev pub went_on : Bool → RunOf → RunOf
went_on true r = looked 0 r
went_on false r = in_phase Closed r

abbrev pub is_closed : Looked → Bool
is_closed gave.Message = false
is_closed gave.Nothing = false
is_closed gave.Closed = true
