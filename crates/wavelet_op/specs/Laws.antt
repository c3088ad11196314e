-- The laws of acts on a wavelet.
--     IsSquare l e t u        two acts that apply at one state, which t and u are after the earlier and after the later one: their
--                             transform is defined, each result applies to what the other act leaves, both ways round lead to
--                             one end, and neither inserts more than its act
--     ActSquare               this holds of any two acts
--     IsGrid, DeltaSquare     the same of two lists of acts, whose lengths are kept; it holds of any two
--     IsCompact, CompactHolds what is valid at a state is compacted, leads to the same end, and inserts no more
--     BoundedIsExact, BoundedCompactIsExact     with the bound on counts there is no other result than without it
--     IsWhole s, StatesHold   every document is balanced and none that is kept is empty; lists that are valid keep that
--     PassAppends             acts pass through lists in a row as through the first and then through the others
use Rattle.std.specs.Prelude.{◌≡◌, ◌≤◌, List, ◌++◌, length, Some, Ok, option_and_then}
use Rattle.std.specs.FinMap.{get}
use Rattle.doc_items.specs.Balance.{Balanced}
use Rattle.doc_items.specs.Maps.{Key}
use Rattle.wavelet_op.specs.Acts.{Act, inserted_act, inserted}
use Rattle.wavelet_op.specs.States.{State, document_of, kept, apply_act, run}
use Rattle.wavelet_op.specs.Transform.{act_transform}
use Rattle.wavelet_op.specs.Grids.{Lists, grid, bounded_grid, pass}
use Rattle.wavelet_op.specs.Compacts.{compact, bounded_compact}

pub record IsSquare (later earlier : Act) (t u : State) : Type 0 where
  pub later' : Act
  pub earlier' : Act
  pub end : State
  pub defined : act_transform later earlier ≡ Some (later', earlier')
  pub later_goes : apply_act t later' ≡ Some end
  pub earlier_goes : apply_act u earlier' ≡ Some end
  pub later_small : inserted_act later' ≤ inserted_act later
  pub earlier_small : inserted_act earlier' ≤ inserted_act earlier

abbrev pub ActSquare : Type 0
ActSquare = (s t u : State) (later earlier : Act) → apply_act s earlier ≡ Some t → apply_act s later ≡ Some u → IsSquare later earlier t u

pub record IsGrid (later earlier : List Act) (t u : State) : Type 0 where
  pub later' : List Act
  pub earlier' : List Act
  pub end : State
  pub defined : grid later earlier ≡ Some (later', earlier')
  pub later_goes : run t later' ≡ Some end
  pub earlier_goes : run u earlier' ≡ Some end
  pub later_small : inserted later' ≤ inserted later
  pub earlier_small : inserted earlier' ≤ inserted earlier
  pub later_long : length later' ≡ length later
  pub earlier_long : length earlier' ≡ length earlier

abbrev pub DeltaSquare : Type 0
DeltaSquare = (s t u : State) (later earlier : List Act) → run s earlier ≡ Some t → run s later ≡ Some u → IsGrid later earlier t u

pub record IsWhole (s : State) : Type 0 where
  pub balanced : (d : Key) → Balanced (document_of s d)
  pub some_items : (d : Key) → get s.documents d ≡ kept (document_of s d)

abbrev pub StatesHold : Type 0
StatesHold = (s t : State) (acts : List Act) → IsWhole s → run s acts ≡ Some t → IsWhole t

pub record IsCompact (acts : List Act) (s t : State) : Type 0 where
  pub fewer : List Act
  pub defined : compact acts ≡ Some fewer
  pub goes : run s fewer ≡ Some t
  pub small : inserted fewer ≤ inserted acts

abbrev pub CompactHolds : Type 0
CompactHolds = (s t : State) (acts : List Act) → run s acts ≡ Some t → IsCompact acts s t

abbrev pub BoundedIsExact : Type 0
BoundedIsExact = (later earlier : List Act) (p : Lists) → bounded_grid later earlier ≡ Ok p → grid later earlier ≡ Some p

abbrev pub BoundedCompactIsExact : Type 0
BoundedCompactIsExact = (acts fewer : List Act) → bounded_compact acts ≡ Ok fewer → compact acts ≡ Some fewer

abbrev pub PassAppends : Type 0
PassAppends = (acts : List Act) (first more : List (List Act)) → pass acts (first ++ more)
    ≡ option_and_then (λ passed. pass passed more) (pass acts first)
