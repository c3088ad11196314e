-- What takes acts back at a state.
--     readded a r               an address that was taken away comes back, with its role
--     inverse_act s a           what takes back an act that applies at the state
--     inverse_acts s as         what takes back acts that apply in turn: the inverses in reverse order, each at the state before its act
--     back_at r m a             what takes an act back at a draft of these parts
--     acts_back o               the acts of what takes back, where that is kept
--     led acts o                these acts in front of those of o; None where o is None
--     TakesBack                 the law: acts that apply in turn, and then what takes them back, lead to the state before them
use Rattle.std.specs.Prelude.{◌≡◌, List, [], ◌∷◌, ◌++◌, Option, None, Some}
use Rattle.std.specs.Option.{option_map, option_map_or}
use Rattle.doc_items.specs.Maps.{Key, Map}
use Rattle.doc_items.specs.declared.item.Item.{Item}
use Rattle.op_invert.specs.Inverse.{inverse}
use Rattle.wavelet_op.specs.Acts.{Act, Idle, Adds, Removes, Sets, Mutates, meanings}
use Rattle.wavelet_op.specs.Laws.{IsWhole}
use Rattle.wavelet_op.specs.States.{State, role_of, document_of, apply_act, run}
use Rattle.wavelet_op.specs.declared.op.WaveletOp.{WaveletOp}
use Rattle.wavelet_op.specs.declared.role.Role.{Role}
use Rattle.wavelet_op.specs.declared.role.Role.TheVariants.{Full, ReadOnly}
use Rattle.wavelet_state.specs.Drafts.{seen}

abbrev pub readded : Key → Option Role → List Act
readded a None = Adds a ∷ []
readded a (Some Full) = Adds a ∷ []
readded a (Some ReadOnly) = Adds a ∷ Sets a Full ReadOnly ∷ []

abbrev pub inverse_act : State → Act → List Act
inverse_act s Idle = Idle ∷ []
inverse_act s (Adds a) = Removes a ∷ []
inverse_act s (Removes a) = readded a (role_of s a)
inverse_act s (Sets a old new) = Sets a new old ∷ []
inverse_act s (Mutates d acts) = Mutates d (inverse acts (document_of s d)) ∷ []

abbrev pub inverse_acts : State → List Act → List Act
inverse_acts s [] = []
inverse_acts s (a ∷ more) = option_map_or (λ t. inverse_acts t more ++ inverse_act s a) (apply_act s a) []

-- ---- as it is gathered

-- what takes an act back at a draft of these parts
abbrev pub back_at : Map Role → Map (List Item) → Act → List Act
back_at roles documents a = inverse_act (seen roles documents) a

abbrev pub acts_back : Option (List WaveletOp) → Option (List Act)
acts_back o = option_map meanings o

abbrev pub led : List Act → Option (List Act) → Option (List Act)
led acts o = option_map (λ more. acts ++ more) o

-- ---- the law

abbrev pub TakesBack : Type 0
TakesBack = (s t : State) (acts : List Act) → IsWhole s → run s acts ≡ Some t → run t (inverse_acts s acts) ≡ Some s
