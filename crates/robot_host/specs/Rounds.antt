-- Rounds of turns: turns over several histories, one after the other, until one gives edits.
--     IsTurn g h g' es           a turn over a history that answered Ok, and gave these edits
--     IsTurnCut g h g'           one that ended for want of memory, after which its edits are kept
--     IsRound g hs g' o es       turns over the histories in order, until one gave edits, which are these; `o` is its wavelet, and None
--                                where no turn gave any
--     IsRoundCut g hs g'         turns over the histories in order, until want of memory
--     calls_for name o           the calls for a wavelet, where calls are told
--     IsUntouched g g' name      of the wavelet nothing changed, but that the edits of robots that are gone are kept no more
use Rattle.std.specs.Prelude.{◌≡◌, ◌≢◌, ◌⊎◌, ℕ, true, List, [], ◌∷◌, length, filter, slice_get, Option, Some, None}
use Rattle.std.specs.Option.{option_map}
use Rattle.doc_items.specs.Maps.{Key, same_text}
use Rattle.delta_history.specs.Histories.{HistoryOf}
use Rattle.robot_host.specs.declared.edit.RobotEdit.{RobotEdit}
use Rattle.robot_host.specs.Calls.{Call}
use Rattle.robot_host.specs.Hosts.{HostOf, kept, MayTurn, HasTurned, AreOthersKept, IsSettled}
use Rattle.robot_host.specs.Robots.{RobotOf}
use Rattle.robot_host.specs.Turns.{is_there, is_of_there}

pub record IsTurn (g : HostOf) (h : HistoryOf) (g' : HostOf) (es : List RobotEdit) : Type 0 where
  pub turned : HasTurned g h g' es
  pub settled : IsSettled g' h
  pub may : MayTurn g' h
  pub others : AreOthersKept g g' h.name

pub record IsTurnCut (g : HostOf) (h : HistoryOf) (g' : HostOf) : Type 0 where
  pub turned : HasTurned g h g' (kept g' h.name)
  pub may : MayTurn g' h
  pub others : AreOthersKept g g' h.name

-- ---- rounds

pub record EndsRound (g : HostOf) (h : HistoryOf) (g' : HostOf) (o : Option Key) (es : List RobotEdit) : Type 0 where
  pub turn : IsTurn g h g' es
  pub name : o ≡ Some h.name
  pub some : es ≢ []

abbrev pub IsRound : HostOf → List HistoryOf → HostOf → Option Key → List RobotEdit → Type 0
IsRound g [] g' o es = (g' ≡ g) × (o ≡ None) × (es ≡ [])
IsRound g (h ∷ hs) g' o es = EndsRound g h g' o es ⊎ ((m : HostOf) × IsTurn g h m [] × IsRound m hs g' o es)

abbrev pub IsRoundCut : HostOf → List HistoryOf → HostOf → Type 0
IsRoundCut g [] g' = g' ≡ g
IsRoundCut g (h ∷ hs) g' = (g' ≡ g) ⊎ (IsTurnCut g h g' ⊎ ((m : HostOf) × IsTurn g h m [] × IsRoundCut m hs g'))

-- ---- other wavelets

abbrev pub calls_for : Key → Option (List Call) → Option (List Call)
calls_for name calls = option_map (λ l. filter (λ c. same_text c.name name) l) calls

pub record IsUntouched (g g' : HostOf) (name : Key) : Type 0 where
  pub length : length g'.robots ≡ length g.robots
  pub there : (r : ℕ) → is_there g'.robots r ≡ true → is_there g.robots r ≡ true
  pub numbers : (r : ℕ) → g'.number name r ≡ g.number name r
  pub edits : kept g' name ≡ filter (is_of_there g'.robots) (kept g name)
  pub calls : (r : ℕ) (s t : RobotOf) → slice_get g.robots r ≡ Some s → slice_get g'.robots r ≡ Some t
      → calls_for name t.calls ≡ calls_for name s.calls
