-- What robots answer.
--     Answered                 what a robot was shown, and its answer
--     stays r                  after this answer it takes part still
--     HasStayed as here        of answers in turn only the last one may be to leave; whether the robot is there after them
--     id_at a at               the id of a robot's submission at a version: client key 1, and the version as number
--     edit_by r i at answer    the edit of an answer, if it is one
--     edit_of r a x answer     the same, made at the end of the delta that it answers
--     edits_of r a xs          the edits of answers in turn
--     call_of name x           the call of `react` that was answered
--     with_calls o more        calls with more of them, where they are told
use Rattle.std.specs.Prelude.{◌≡◌, ℕ, Bool, true, false, List, [], ◌∷◌, ◌++◌, Option}
use Rattle.std.specs.Option.{option_map}
use Rattle.doc_items.specs.Maps.{Key}
use Rattle.wave_base.specs.Versions.{IdOf, VersionAt}
use Rattle.robot_host.specs.declared.edit.RobotEdit.{RobotEdit}
use Rattle.robot_host.specs.declared.reaction.Reaction.{Reaction}
use Rattle.robot_host.specs.declared.reaction.Reaction.TheVariants.{Quiet, Edit, Leave}
use Rattle.robot_host.specs.Calls.{Call}
use Rattle.robot_host.specs.Views.{Seen}

pub record Answered : Type 0 where
  pub seen : Seen
  pub answer : Reaction

abbrev pub stays : Reaction → Bool
stays Quiet = true
stays (Edit ops) = true
stays Leave = false

abbrev pub AfterAnswer : Bool → List Answered → Bool → Type 0 → Type 0
AfterAnswer true more here rest = rest
AfterAnswer false more here rest = (more ≡ []) × (here ≡ false)

abbrev pub HasStayed : List Answered → Bool → Type 0
HasStayed [] here = here ≡ true
HasStayed (x ∷ xs) here = AfterAnswer (stays x.answer) xs here (HasStayed xs here)

abbrev pub id_at : Key → VersionAt → IdOf
id_at a at = record { author = a; client = 1; number = at.version }

abbrev pub edit_by : ℕ → IdOf → VersionAt → Reaction → List RobotEdit
edit_by r i at Quiet = []
edit_by r i at (Edit ops) = record { robot = r; submission = record { id = i; at = at; ops = ops } } ∷ []
edit_by r i at Leave = []

abbrev pub edit_of : ℕ → Key → Seen → Reaction → List RobotEdit
edit_of r a x answer = edit_by r (id_at a x.after.at) x.after.at answer

abbrev pub edits_of : ℕ → Key → List Answered → List RobotEdit
edits_of r a [] = []
edits_of r a (x ∷ xs) = edit_of r a x.seen x.answer ++ edits_of r a xs

abbrev pub call_of : Key → Answered → Call
call_of name x = record { name = name; delta = x.seen.delta; state = x.seen.after.state; answer = x.answer }

abbrev pub with_calls : Option (List Call) → List Call → Option (List Call)
with_calls calls more = option_map (λ l. l ++ more) calls
