-- What a builder refuses, in this order.
--     component_len     the count, the characters or the keys of a component
--     bad_end u p ks    the first key of ks, after p, that doesn't ascend or that doesn't run under u
--     bad_change e p cs     the first key of cs, after p, that doesn't ascend or that is among the ends e
--     bad_key u c       the first bad key of a boundary's ends and then of its changes, or of an update
--     refusal cs c      why a builder with the components cs refuses c, if it does
--     takes cs c        a builder with the components cs takes c
--     IsBuilt cs        a builder takes each component in turn
use Rattle.std.specs.Prelude.{◌≡◌, ℕ, ◌+◌, ◌==◌, ◌&&◌, ◌||◌, nat_lt, List, [], ◌∷◌, ◌++◌, length, Bool, not, if◌then◌else◌, Option, None, Some, is_none}
use Rattle.std.specs.Str.{encode_utf8_all}
use Rattle.std.specs.FinMap.{contains_key}
use Rattle.doc_items.specs.Limits.{max_count}
use Rattle.doc_items.specs.Changes.{ChangeSet, ascends, is_named}
use Rattle.doc_items.specs.declared.change.Change.{Change}
use Rattle.doc_op.specs.declared.component.Component.{Component}
use Rattle.doc_op.specs.declared.component.Component.TheVariants.{Retain, Characters, ElementStart, ElementEnd, DeleteCharacters, DeleteElementStart, DeleteElementEnd, ReplaceAttributes, UpdateAttributes, AnnotationBoundary}
use Rattle.doc_op.specs.declared.fault.OpFault.{OpFault}
use Rattle.doc_op.specs.declared.fault.OpFault.TheVariants.{ZeroCount, BadBoundary, CountTooLarge}
use Rattle.doc_op.specs.Actions.{running, actions}
use Rattle.doc_op.specs.Lengths.{input_len, output_len}

-- a component that needn't have one counts as one
abbrev pub component_len : Component → ℕ
component_len (Retain n) = n
component_len (Characters text) = length text
component_len (ElementStart kind attributes) = 1
component_len ElementEnd = 1
component_len (DeleteCharacters text) = length text
component_len (DeleteElementStart kind attributes) = 1
component_len DeleteElementEnd = 1
component_len (ReplaceAttributes old new) = 1
component_len (UpdateAttributes changes) = length changes
component_len (AnnotationBoundary b) = length b.end + length b.change

-- ---- keys

abbrev pub runs : ChangeSet → List ℕ → Bool
runs u k = contains_key u (encode_utf8_all k)

abbrev pub bad_end : ChangeSet → Option (List ℕ) → List (List ℕ) → Option (List ℕ)
bad_end u p [] = None
bad_end u p (k ∷ ks) = if ascends p k && runs u k then bad_end u (Some k) ks else Some k

abbrev pub bad_change : List (List ℕ) → Option (List ℕ) → List Change → Option (List ℕ)
bad_change ends p [] = None
bad_change ends p (c ∷ cs) = if ascends p c.key && not (is_named ends c.key) then bad_change ends (Some c.key) cs else Some c.key

-- the first, or else the second
abbrev pub first_of : {X : Type 0} → Option X → Option X → Option X
first_of None y = y
first_of (Some x) y = Some x

abbrev pub bad_key : ChangeSet → Component → Option (List ℕ)
bad_key u (Retain n) = None
bad_key u (Characters text) = None
bad_key u (ElementStart kind attributes) = None
bad_key u ElementEnd = None
bad_key u (DeleteCharacters text) = None
bad_key u (DeleteElementStart kind attributes) = None
bad_key u DeleteElementEnd = None
bad_key u (ReplaceAttributes old new) = None
bad_key u (UpdateAttributes changes) = bad_change [] None changes
bad_key u (AnnotationBoundary b) = first_of (bad_end u None b.end) (bad_change b.end None b.change)

-- ---- all refusals

abbrev pub zero_fault : ℕ → Option OpFault
zero_fault n = if n == 0 then Some ZeroCount else None

abbrev pub key_fault : Option (List ℕ) → Option OpFault
key_fault None = None
key_fault (Some k) = Some (BadBoundary k)

abbrev pub count_fault : List Component → Option OpFault
count_fault cs = if nat_lt max_count (input_len (actions cs)) || nat_lt max_count
    (output_len (actions cs)) then Some CountTooLarge else None

abbrev pub refusal : List Component → Component → Option OpFault
refusal cs c = first_of (zero_fault (component_len c)) (first_of (key_fault (bad_key (running cs) c)) (count_fault (cs ++ c ∷ [])))

abbrev pub takes : List Component → Component → Bool
takes cs c = is_none (refusal cs c)

abbrev pub BuiltFrom : List Component → List Component → Type 0
BuiltFrom done [] = Unit {0}
BuiltFrom done (c ∷ cs) = (refusal done c ≡ None) × BuiltFrom (done ++ c ∷ []) cs

abbrev pub IsBuilt : List Component → Type 0
IsBuilt cs = BuiltFrom [] cs
