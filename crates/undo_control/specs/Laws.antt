-- The laws of chains.
--     EditKeeps, ChangeKeeps, UndoKeeps     each step keeps the entries valid in turn
--     AreShort c edits          the inverse of each edit has at most 1,000 acts
--     UndosTakeBack             at most 100 edits that are short, and as many undos, lead to the state before them
--     ChangeIsTaken, CrowdIsRefused     a valid change is taken exactly where no transform is over too many items
--     ChangeHasRoom             none is where documents, entries and change have few enough items together
--     IsLight m c               no entry inserts more than m items
--     max_back                  how many a client's entries insert at most: five times as many as a history
--     EditIsLight, ChangeIsLight      an edit of at most two acts on small documents keeps that, and so does a change
use Rattle.std.specs.Prelude.{◌≡◌, ◌⊎◌, ℕ, ◌+◌, ◌-◌, ◌≤◌, List, [], ◌∷◌, length, take, None, Some}
use Rattle.std.specs.List.{All}
use Rattle.doc_items.specs.Limits.{max_count}
use Rattle.wavelet_op.specs.Acts.{Act, inserted}
use Rattle.wavelet_op.specs.Laws.{IsWhole}
use Rattle.wavelet_op.specs.States.{State, run}
use Rattle.wavelet_state.specs.Inverses.{inverse_acts}
use Rattle.follower_rules.specs.Followers.{inserted_all}
use Rattle.follower_rules.specs.Laws.{IsSmall}
use Rattle.undo_control.specs.Chains.{max_entries, ChainOf, edited, changed, undone, IsInTurn, IsCrowded, edited_all, undone_times}

abbrev pub EditKeeps : Type 0
EditKeeps = (c d : ChainOf) (acts : List Act) → IsWhole c.state → IsInTurn c → edited c acts ≡ Some d → IsInTurn d

abbrev pub ChangeKeeps : Type 0
ChangeKeeps = (c d : ChainOf) (acts : List Act) → IsInTurn c → changed c acts ≡ Some d → IsInTurn d

abbrev pub UndoKeeps : Type 0
UndoKeeps = (c d : ChainOf) → IsInTurn c → undone c ≡ Some d → IsInTurn d

-- ---- a change made by others

abbrev pub ChangeIsTaken : Type 0
ChangeIsTaken = (c : ChainOf) (acts : List Act) (t : State) → IsInTurn c → run c.state acts ≡ Some t
    → ((d : ChainOf) × (changed c acts ≡ Some d)) ⊎ IsCrowded c.entries acts

abbrev pub CrowdIsRefused : Type 0
CrowdIsRefused = (c : ChainOf) (acts : List Act) → IsCrowded c.entries acts → changed c acts ≡ None

abbrev pub ChangeHasRoom : Type 0
ChangeHasRoom = (n : ℕ) (c : ChainOf) (acts : List Act) (t : State) → IsSmall n c.state → n + (inserted_all c.entries + inserted acts)
    ≤ max_count → IsInTurn c → run c.state acts ≡ Some t
    → (d : ChainOf) × (changed c acts ≡ Some d)

-- ---- how many items entries insert

abbrev pub IsLight : ℕ → ChainOf → Type 0
IsLight m c = All (λ e. inserted e ≤ m) c.entries

abbrev pub max_back : ℕ
max_back = 5497558138880

abbrev pub EditIsLight : Type 0
EditIsLight = (n m : ℕ) (c d : ChainOf) (acts : List Act) → IsSmall n c.state → length acts ≤ 2 → n + (n + inserted acts) ≤ m → IsLight m c
    → edited c acts ≡ Some d → IsLight m d

abbrev pub ChangeIsLight : Type 0
ChangeIsLight = (m : ℕ) (c d : ChainOf) (acts : List Act) → IsInTurn c → IsLight m c → changed c acts ≡ Some d → IsLight m d

-- ---- edits and undos

abbrev pub AreShort : ChainOf → List (List Act) → Type 0
AreShort c [] = Unit {0}
AreShort c (acts ∷ more) = (length (inverse_acts c.state acts) ≤ 1000) × ((d : ChainOf) → edited c acts ≡ Some d → AreShort d more)

abbrev pub UndosTakeBack : Type 0
UndosTakeBack = (c d : ChainOf) (edits : List (List Act)) → IsWhole c.state → length c.entries ≤ max_entries → length edits ≤ max_entries
    → AreShort c edits → edited_all c edits ≡ Some d
    → undone_times (length edits) d ≡ Some (record { state = c.state; entries = take (max_entries - length edits) c.entries })
