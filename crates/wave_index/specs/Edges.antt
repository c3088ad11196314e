-- What stays of a document at its front and at its back.
--     untouched                nothing is put in or taken away yet
--     longer n e               so many items more stay
--     cut e                    an item is put in or taken away
--     step_over e c            what a component leaves
--     edges_from e cs          what components leave
--     edges_of cs              what the components of an operation leave
--     smaller a b              the smaller of two numbers
--     both e f                 what one operation and then another leave
--     is_on d o                the operation is on a document
--     edges_after e d o        what an operation more leaves of a document
--     edges_over e d os        what operations in turn leave after that
--     edges_in d os            what operations in turn leave, from the first one on
--     is_mutated d os          one of the operations is on a document
--     is_first d os i          the operation at a place is the first one on a document
--     IsApart e ls ms          two documents are the same there, or as wholes
use Rattle.std.specs.Prelude.{◌≡◌, ℕ, Bool, false, cond, ◌+◌, ◌&&◌, not, nat_le, List, [], ◌∷◌, take, Option, Some, None, unwrap_or}
use Rattle.std.specs.List.{list_any}
use Rattle.doc_items.specs.Maps.{Key, same_text}
use Rattle.doc_op.specs.declared.component.Component.{Component}
use Rattle.doc_op.specs.declared.component.Component.TheVariants.{Retain, Characters, ElementStart, ElementEnd, DeleteCharacters, DeleteElementStart, DeleteElementEnd, ReplaceAttributes, UpdateAttributes, AnnotationBoundary}
use Rattle.document_words.specs.Stretches.{IsSplit}
use Rattle.wavelet_op.specs.declared.op.WaveletOp.{WaveletOp}
use Rattle.wavelet_op.specs.declared.op.WaveletOp.TheVariants.{NoOp, Add, Remove, Mutate, SetRole}
use Rattle.wave_index.specs.declared.edges.Edges.{Edges}

abbrev pub untouched : Edges
untouched = record { front = None; back = 0 }

abbrev pub smaller : ℕ → ℕ → ℕ
smaller a b = cond (nat_le a b) a b

abbrev pub longer : ℕ → Edges → Edges
longer n e = record { front = e.front; back = smaller (e.back + n) 18446744073709551615 }

abbrev pub cut : Edges → Edges
cut e = record { front = Some (unwrap_or e.front e.back); back = 0 }

abbrev pub step_over : Edges → Component → Edges
step_over e (Retain n) = longer n e
step_over e (Characters text) = cut e
step_over e (ElementStart kind attributes) = cut e
step_over e ElementEnd = cut e
step_over e (DeleteCharacters text) = cut e
step_over e (DeleteElementStart kind attributes) = cut e
step_over e DeleteElementEnd = cut e
step_over e (ReplaceAttributes old new) = longer 1 e
step_over e (UpdateAttributes changes) = longer 1 e
step_over e (AnnotationBoundary b) = e

abbrev pub edges_from : Edges → List Component → Edges
edges_from e [] = e
edges_from e (c ∷ cs) = edges_from (step_over e c) cs

abbrev pub edges_of : List Component → Edges
edges_of cs = edges_from untouched cs

abbrev pub joined : ℕ → ℕ → Option ℕ → ℕ → Edges
joined p s None t = record { front = Some p; back = s }
joined p s (Some q) t = record { front = Some (smaller p q); back = smaller s t }

abbrev pub joined_with : Option ℕ → ℕ → Edges → Edges
joined_with None s f = f
joined_with (Some p) s f = joined p s f.front f.back

abbrev pub both : Edges → Edges → Edges
both e f = joined_with e.front e.back f

-- ---- of the operations of a delta

abbrev pub is_on : Key → WaveletOp → Bool
is_on d NoOp = false
is_on d (Add address) = false
is_on d (Remove address) = false
is_on d (Mutate document op) = same_text document d
is_on d (SetRole address old new) = false

abbrev pub edges_after : Edges → Key → WaveletOp → Edges
edges_after e d NoOp = e
edges_after e d (Add address) = e
edges_after e d (Remove address) = e
edges_after e d (Mutate document op) = cond (same_text document d) (both e (edges_of op)) e
edges_after e d (SetRole address old new) = e

abbrev pub edges_over : Edges → Key → List WaveletOp → Edges
edges_over e d [] = e
edges_over e d (o ∷ os) = edges_over (edges_after e d o) d os

abbrev pub edges_in : Key → List WaveletOp → Edges
edges_in d os = edges_over untouched d os

abbrev pub is_mutated : Key → List WaveletOp → Bool
is_mutated d os = list_any (is_on d) os

abbrev pub is_first : Key → List WaveletOp → ℕ → Bool
is_first d os i = is_mutated d (take (i + 1) os) && not (is_mutated d (take i os))

-- ---- what is the same

abbrev pub IsApartAt : Option ℕ → ℕ → List (Option ℕ) → List (Option ℕ) → Type 0
IsApartAt None s ls ms = ls ≡ ms
IsApartAt (Some p) s ls ms = IsSplit p s ls ms

abbrev pub IsApart : Edges → List (Option ℕ) → List (Option ℕ) → Type 0
IsApart e ls ms = IsApartAt e.front e.back ls ms
