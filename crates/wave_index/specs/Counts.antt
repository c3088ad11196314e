-- How often words stand in the documents of wavelets, as it is kept.
--     counted s w d            how often a word stands in a document; never in the manifest
--     counts_in m w n d        how often a word stands in a document at the head of the history of the name n
--     touched_words e ls       the words of letters that lie between edges, or reach into what does
--     touched s os w d         how often a word stands in what operations touch of a document
--     moved way x n            a number less or more by another
--     CountsAs o f             where words are kept, they are kept as f says
--     IsOf f n s               of one wavelet f says how often words stand at a state
use Rattle.std.specs.Prelude.{◌≡◌, ℕ, ◌+◌, ◌-◌, cond, List, [], Option, IfSome}
use Rattle.std.specs.FinMap.{get}
use Rattle.std.specs.Option.{option_map_or}
use Rattle.doc_items.specs.Maps.{Key, same_text}
use Rattle.document_words.specs.Places.{count_in}
use Rattle.document_words.specs.Stretches.{stretch}
use Rattle.document_words.specs.Words.{letters, words, document_words, occurrences}
use Rattle.document_words.specs.declared.places.WordPlaces.{WordPlaces}
use Rattle.wavelet_op.specs.States.{State, document_of}
use Rattle.wavelet_op.specs.declared.op.WaveletOp.{WaveletOp}
use Rattle.wave_index.specs.Blips.{manifest}
use Rattle.wave_index.specs.Edges.{edges_in}
use Rattle.wave_index.specs.Taken.{Histories, point_of}
use Rattle.wave_index.specs.declared.edges.Edges.{Edges}
use Rattle.wave_index.specs.declared.kept.Way.{Way}
use Rattle.wave_index.specs.declared.kept.Way.TheVariants.{Out, In}

abbrev pub counted : State → Key → Key → ℕ
counted s w d = cond (same_text d manifest) 0 (occurrences w (document_words (document_of s d)))

abbrev pub counts_in : Histories → Key → Key → Key → ℕ
counts_in m w n d = option_map_or (λ t. counted (point_of t).state w d) (get m n) 0

abbrev pub touched_words : Edges → List (Option ℕ) → List Key
touched_words e ls = option_map_or (λ p. words (stretch p e.back ls)) e.front []

abbrev pub touched : State → List WaveletOp → Key → Key → ℕ
touched s os w d = cond (same_text d manifest) 0 (occurrences w (touched_words (edges_in d os) (letters (document_of s d))))

abbrev pub moved : Way → ℕ → ℕ → ℕ
moved Out x n = x - n
moved In x n = x + n

abbrev pub CountsAs : Option WordPlaces → (Key → Key → Key → ℕ) → Type 0
CountsAs o f = IfSome o (λ p. (w n d : Key) → count_in p w n d ≡ f w n d)

abbrev pub IsOf : (Key → Key → Key → ℕ) → Key → State → Type 0
IsOf f n s = (w d : Key) → f w n d ≡ counted s w d
