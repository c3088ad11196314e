-- How often words stand in documents, as it is kept.
--     count_of c d           how often in a document
--     count_at c n d         how often in a document of a wavelet
--     count_in p w n d       how often a word in a document of a wavelet
--     held c                 the documents in which it stands, in the order in which they are kept
--     held_at c n            so of a wavelet
--     holders p w n          so of a word
--     wavelets_of p w        the wavelets that are kept for a word
--     AreInOrder ds          names in byte order, none twice
--     is_among d ds          a name is one of them
use Rattle.std.specs.Prelude.{ℕ, Bool, nat_lt, List, [], unwrap_or}
use Rattle.std.specs.BTreeMap as tree
use Rattle.std.specs.Cmp.Lexicographic.{slice_cmp}
use Rattle.std.specs.List.{filter, list_any}
use Rattle.std.specs.List.Sorted.{IsStrictlySortedBy}
use Rattle.std.specs.Map.{keys_of}
use Rattle.std.specs.Option.{option_map_or}
use Rattle.std.specs.Ordering.{nat_cmp, eq_by_cmp}
use Rattle.doc_items.specs.Maps.{Key}
use Rattle.document_words.specs.declared.counts.DocumentCounts.{DocumentCounts}
use Rattle.document_words.specs.declared.places.WordPlaces.{WordPlaces}
use Rattle.document_words.specs.declared.wavelets.WaveletCounts.{WaveletCounts}

abbrev pub count_of : DocumentCounts → Key → ℕ
count_of c d = unwrap_or (tree.get (slice_cmp nat_cmp) c.counts d) 0

abbrev pub count_at : WaveletCounts → Key → Key → ℕ
count_at c n d = option_map_or (λ e. count_of e d) (tree.get (slice_cmp nat_cmp) c.wavelets n) 0

abbrev pub count_in : WordPlaces → Key → Key → Key → ℕ
count_in p w n d = option_map_or (λ c. count_at c n d) (tree.get (slice_cmp nat_cmp) p.words w) 0

abbrev pub held : DocumentCounts → List Key
held c = keys_of (filter (λ e. nat_lt 0 e.1) c.counts.entries)

abbrev pub held_at : WaveletCounts → Key → List Key
held_at c n = option_map_or held (tree.get (slice_cmp nat_cmp) c.wavelets n) []

abbrev pub holders : WordPlaces → Key → Key → List Key
holders p w n = option_map_or (λ c. held_at c n) (tree.get (slice_cmp nat_cmp) p.words w) []

abbrev pub wavelets_of : WordPlaces → Key → List Key
wavelets_of p w = option_map_or (λ c. keys_of c.wavelets.entries) (tree.get (slice_cmp nat_cmp) p.words w) []

abbrev pub AreInOrder : List Key → Type 0
AreInOrder ds = IsStrictlySortedBy (slice_cmp nat_cmp) ds

abbrev pub is_among : Key → List Key → Bool
is_among d ds = list_any (eq_by_cmp (slice_cmp nat_cmp) d) ds
