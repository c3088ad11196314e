-- The two parts of a state: roles of addresses, and items of documents. An act is on one of them.
--     changed m a r          the map with this at a key, where there is something to be there
--     on_roles m a           the roles afterwards, where the act applies to them
--     document m d           the items of a document; one that isn't there is empty
--     is_empty_there o       a document is there and has no items
--     IsTrimAt m q, IsTrim m    a document, each document that is there isn't empty
--     trimmed m              the documents that aren't empty
--     AreBalanced m          each document is balanced
--     IsEdit cs d m n        n is m with what the components make of a document, which is there also where it is empty
--     put_back, IsBack       what takes an edit back
--     step_fault f k         the fault of a document as that of the operation of an index
--     IsStepFault k o f      the act of an index doesn't apply
--     item_count m           the number of items in all documents
--     on_documents m a       the documents afterwards, where the act applies to them
use Rattle.std.specs.Prelude.{◌≡◌, ℕ, ◌+◌, ◌≤◌, length, IfSome, Bool, true, false, List, [], ◌∷◌, Option, None, Some, unwrap_or}
use Rattle.std.specs.FinMap.{get, entries}
use Rattle.std.specs.Option.{option_map}
use Rattle.doc_items.specs.Maps.{Key, Map, set_key, merge}
use Rattle.doc_items.specs.Balance.{Balanced}
use Rattle.doc_items.specs.Limits.{max_count}
use Rattle.doc_items.specs.declared.item.Item.{Item}
use Rattle.doc_op.specs.Apply.{valid}
use Rattle.doc_op.specs.declared.component.Component.{Component}
use Rattle.doc_rope.specs.Replacements.{replaced}
use Rattle.doc_rope.specs.declared.replacement.Replacement.{Replacement}
use Rattle.op_validity.specs.declared.fault.CheckFault.{CheckFault}
use Rattle.op_validity.specs.declared.fault.CheckFault.TheVariants.{NotStructured, Mismatch, WrongLength, Memory as OutOfMemory}
use Rattle.wavelet_op.specs.declared.fault.WaveletFault.{WaveletFault}
use Rattle.wavelet_op.specs.declared.fault.WaveletFault.TheVariants.{OpInvalid, CountTooLarge, Conflict, DontFit, Memory}
use Rattle.wavelet_op.specs.Acts.{Act, Idle, Adds, Removes, Sets, Mutates}
use Rattle.wavelet_op.specs.States.{added, removed, role_set, kept, mutate}
use Rattle.wavelet_op.specs.declared.role.Role.{Role}

abbrev pub changed : Map Role → Key → Option (Option Role) → Option (Map Role)
changed m a r = option_map (λ v. set_key m a v) r

abbrev pub on_roles : Map Role → Act → Option (Map Role)
on_roles m Idle = Some m
on_roles m (Adds a) = changed m a (added (get m a))
on_roles m (Removes a) = changed m a (removed (get m a))
on_roles m (Sets a old new) = changed m a (role_set old new (get m a))
on_roles m (Mutates d acts) = Some m

abbrev pub document : Map (List Item) → Key → List Item
document m d = unwrap_or (get m d) []

abbrev pub is_empty_there : Option (List Item) → Bool
is_empty_there None = false
is_empty_there (Some []) = true
is_empty_there (Some (i ∷ items)) = false

abbrev pub IsTrimAt : Map (List Item) → Key → Type 0
IsTrimAt m q = get m q ≡ kept (document m q)

abbrev pub IsTrim : Map (List Item) → Type 0
IsTrim m = (q : Key) → IsTrimAt m q

unfoldable pub trimmed : Map (List Item) → Map (List Item)
trimmed m = merge (λ o _. kept (unwrap_or o [])) m m

abbrev pub AreBalanced : Map (List Item) → Type 0
AreBalanced m = (q : Key) → Balanced (document m q)

pub record IsEdit (cs : List Component) (d : Key) (m n : Map (List Item)) : Type 0 where
  pub value : valid cs (document m d) ≡ Some (document n d)
  pub is : n ≡ set_key m d (Some (document n d))

-- what puts a document back: it wasn't there, or a stretch of it was replaced
abbrev pub put_back : Option Replacement → List Item → Option (List Item)
put_back None items = None
put_back (Some r) items = Some (replaced r items)

pub record IsBack (back : Option Replacement) (d : Key) (m n : Map (List Item)) : Type 0 where
  pub is : put_back back (document n d) ≡ get m d
  pub inside : IfSome back (λ r. r.from + r.count ≤ length (document n d))
  pub balanced : Balanced (document m d)
  pub bound : length (document m d) ≤ max_count

abbrev pub on_documents : Map (List Item) → Act → Option (Map (List Item))
on_documents m Idle = Some m
on_documents m (Adds a) = Some m
on_documents m (Removes a) = Some m
on_documents m (Sets a old new) = Some m
on_documents m (Mutates d acts) = option_map (λ items. set_key m d (kept items)) (mutate acts (document m d))

abbrev pub step_fault : CheckFault → ℕ → WaveletFault
step_fault (NotStructured place) k = OpInvalid k
step_fault (Mismatch place) k = OpInvalid k
step_fault WrongLength k = OpInvalid k
step_fault OutOfMemory k = Memory

abbrev pub IsStepFault : {X : Type 0} → ℕ → Option X → WaveletFault → Type 0
IsStepFault k o (OpInvalid j) = (j ≡ k) × (o ≡ None)
IsStepFault k o CountTooLarge = ⊥
IsStepFault k o (Conflict j) = ⊥
IsStepFault k o (DontFit place) = ⊥
IsStepFault k o Memory = Unit {0}

-- ---- counts

abbrev pub count_all : List (Key × List Item) → ℕ
count_all [] = 0
count_all (e ∷ es) = length e.1 + count_all es

abbrev pub item_count : Map (List Item) → ℕ
item_count m = count_all (entries m)
