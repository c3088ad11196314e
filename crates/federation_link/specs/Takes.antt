-- What is made of a message from another domain.
--     max_peer             the most bytes of a message between domains
--     heard b              what bytes are read as
--     GivesOf m cs, Gives h cs       the calls that a message asks for, and bytes: one, or none
--     KeepsOf e m cs, Keeps e h cs   the calls where the message wasn't taken for this reason
--     HasGiven ..          of the calls that were added this holds
--     same_as n i w        the submission has this name and id
--     without n i ws       what waits on after an answer
--     settled h ws         what waits on after a message
use Rattle.std.specs.Prelude.{◌≡◌, ℕ, Bool, ◌&&◌, if◌then◌else◌, IsTrue, List, [], ◌∷◌, ◌++◌, Result, Ok, Err}
use Rattle.doc_items.specs.Maps.{Key, same_text}
use Rattle.wave_base.specs.Versions.{IdOf, same_id}
use Rattle.message_json.specs.declared.message.Message.{Message}
use Rattle.message_json.specs.declared.message.Message.TheVariants as message
use Rattle.wave_messages.specs.Read.{read_of}
use Rattle.wave_messages.specs.declared.fault.Kind.{Kind}
use Rattle.session_core.specs.declared.session.Waiting.{Waiting}
use Rattle.peer_turns.specs.Calls.{told}
use Rattle.peer_turns.specs.declared.absorbed.Absorbed.{Absorbed}
use Rattle.peer_turns.specs.declared.call.TurnCall.{TurnCall}
use Rattle.peer_turns.specs.declared.call.TurnCall.TheVariants.{TakeApplied, TakeAnswer, TakeDropped}
use Rattle.peer_turns.specs.declared.fault.TurnFault.{TurnFault}
use Rattle.peer_turns.specs.declared.fault.TurnFault.TheVariants.{Memory}

abbrev pub max_peer : ℕ
max_peer = 16777216

abbrev pub Heard : Type 0
Heard = Result Message Kind

abbrev pub heard : List ℕ → Heard
heard bytes = read_of bytes max_peer

abbrev pub GivesOf : Message → List TurnCall → Type 0
GivesOf (message.Applied name delta) cs = (a : Absorbed) × (cs ≡ TakeApplied name delta (Ok a) ∷ [])
GivesOf (message.Relayed name id verdict) cs = (b : Bool) × (cs ≡ TakeAnswer name id verdict (Ok b) ∷ [])
GivesOf (message.Dropped name) cs = cs ≡ TakeDropped name (Ok (tt {0})) ∷ []
GivesOf m cs = cs ≡ []

abbrev pub Gives : Heard → List TurnCall → Type 0
Gives (Ok m) cs = GivesOf m cs
Gives (Err k) cs = cs ≡ []

abbrev pub KeepsOf : TurnFault → Message → List TurnCall → Type 0
KeepsOf e (message.Applied name delta) cs = cs ≡ told (TakeApplied name delta) (Err e)
KeepsOf e (message.Relayed name id verdict) cs = cs ≡ told (TakeAnswer name id verdict) (Err e)
KeepsOf e (message.Dropped name) cs = cs ≡ told (TakeDropped name) (Err e)
KeepsOf e m cs = (e ≡ Memory) × (cs ≡ [])

abbrev pub Keeps : TurnFault → Heard → List TurnCall → Type 0
Keeps e (Ok m) cs = KeepsOf e m cs
Keeps e (Err k) cs = (e ≡ Memory) × (cs ≡ [])

-- the calls that were added are such
abbrev pub HasGiven : Bool → (List TurnCall → Type 0) → List TurnCall → List TurnCall → Type 0
HasGiven told Are cs ds = (new : List TurnCall) × (IsTrue told → ds ≡ cs ++ new) × Are new

abbrev pub same_as : Key → IdOf → Waiting → Bool
same_as name id w = same_text w.name name && same_id w.id id

abbrev pub without : Key → IdOf → List Waiting → List Waiting
without name id [] = []
without name id (w ∷ ws) = if same_as name id w then without name id ws else w ∷ without name id ws

abbrev pub settled_by : Message → List Waiting → List Waiting
settled_by (message.Relayed name id verdict) ws = without name id ws
settled_by m ws = ws

abbrev pub settled : Heard → List Waiting → List Waiting
settled (Ok m) ws = settled_by m ws
settled (Err k) ws = ws
