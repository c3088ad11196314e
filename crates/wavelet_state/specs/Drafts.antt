-- What operations make of the two parts of a state, while documents may be there that are empty.
--     seen roles documents       the state: the documents that aren't empty
--     whole roles documents      the state of these documents, of which none is empty
--     act_at r m a               the state that an act leads to from a draft of these parts, where it applies
--     parts, parts_code          the two parts, and the code of a state
--     IsRefused s as f           the fault f tells the first of the acts that doesn't apply
--     IsRefusedFrom k s as f     the same, with the acts counted from k
--     IsOutcome s as i t         the acts apply to s and give t, where i is None; else i is the first that doesn't, and t is s
use Rattle.std.specs.Prelude.{◌≡◌, ℕ, ◌+◌, List, Option, None, Some, refl}
use Rattle.std.specs.Coded.{Coded, code_by, coded_list, coded_ℕ, coded×}
use Rattle.std.specs.FinMap.{code}
use Rattle.doc_items.specs.Maps.{Map}
use Rattle.doc_items.specs.declared.item.Item.{Item}
use Rattle.wavelet_op.specs.Acts.{Act}
use Rattle.wavelet_op.specs.States.{State, apply_act, run, first_invalid}
use Rattle.wavelet_op.specs.declared.fault.WaveletFault.{WaveletFault}
use Rattle.wavelet_op.specs.declared.fault.WaveletFault.TheVariants.{OpInvalid, CountTooLarge, Conflict, DontFit, Memory}
use Rattle.wavelet_op.specs.declared.role.Role.{Role}
use Rattle.wavelet_state.specs.Parts.{trimmed}

abbrev pub seen : Map Role → Map (List Item) → State
seen roles documents = record { roles = roles; documents = trimmed documents }

abbrev pub whole : Map Role → Map (List Item) → State
whole roles documents = record { roles = roles; documents = documents }

abbrev pub act_at : Map Role → Map (List Item) → Act → Option State
act_at roles documents a = apply_act (seen roles documents) a

abbrev pub IsRefusedFrom : ℕ → State → List Act → WaveletFault → Type 0
IsRefusedFrom k s acts (OpInvalid j) = (j ≡ k + first_invalid s acts) × (run s acts ≡ None)
IsRefusedFrom k s acts CountTooLarge = ⊥
IsRefusedFrom k s acts (Conflict j) = ⊥
IsRefusedFrom k s acts (DontFit place) = ⊥
IsRefusedFrom k s acts Memory = Unit {0}

abbrev pub IsRefused : State → List Act → WaveletFault → Type 0
IsRefused s acts f = IsRefusedFrom 0 s acts f

abbrev pub IsOutcome : State → List Act → Option ℕ → State → Type 0
IsOutcome s acts None t = run s acts ≡ Some t
IsOutcome s acts (Some k) t = (run s acts ≡ None) × (k ≡ first_invalid s acts) × (t ≡ s)

abbrev pub parts : State → Map Role × Map (List Item)
parts s = (s.roles, s.documents)

abbrev pub parts_code : Coded Role → Coded Item → Coded State
parts_code role item = code_by (Map Role × Map (List Item))
    (coded× (code (coded_list coded_ℕ) role) (code (coded_list coded_ℕ) (coded_list item))) parts (λ p. whole p.0 p.1) (λ _. refl)
