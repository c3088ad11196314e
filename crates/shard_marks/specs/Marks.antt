-- The history of a shard, as a list of marks.
--     Mark                  as it is declared; the first mark of a list is `Began`, with the domain and the number of the shard
--     is_of d k n           the wavelet of the name is hosted by the domain, and is of the shard
--     is_copied d k n       it is of the shard, and another domain hosts it
--     is_founded d k ms     the list begins with the mark of that domain and shard
--     is_own_mark d k m     the mark is of a wavelet of the shard
--     after_mark .. hs m    the hosted histories after one mark more: an applied delta stands after those of its wavelet
--     replayed d k ms       the hosted histories that the marks give
--     with_mark .. cs m     the copies after one mark more
--     copied d k ms         the copies that the marks give
--     shown_at d k ms       what sessions see of them: the copies at the moment of the last mark
--     loaded hs             a mark for each delta of histories, in their order
--     founded d k ms        the first mark, and these after it
--     fault_count ms        the number of marks that tell of a fault
--     most_faults           where counts of faults stay
use Rattle.std.specs.Prelude.{ℕ, ◌+◌, ◌-◌, ◌^◌, Bool, false, not, ◌&&◌, nat_eq, cond, List, [], ◌∷◌, ◌++◌, map}
use Rattle.std.specs.FinMap.{empty}
use Rattle.doc_items.specs.Maps.{Key, same_text}
use Rattle.wave_base.specs.Grammar.{host_of}
use Rattle.replica_store.specs.Worlds.{Worlds, with_taken, with_queued, with_settled, with_dropped}
use Rattle.session_core.specs.Access.{Shown}
use Rattle.wavelet_shelf.specs.FileNames.{shard_of}
use Rattle.wavelet_shelf.specs.Hosting.{Hosted, grown_in}
use Rattle.wavelet_shelf.specs.Parts.{is_in}
use Rattle.shard_copies.specs.Shown.{shown_among}
use Rattle.shard_marks.specs.declared.mark.Mark.{Mark}
use Rattle.shard_marks.specs.declared.mark.Mark.TheVariants.{Began, Applied, Fault, Queued, Answered, Dropped}

abbrev pub is_of : Key → ℕ → Key → Bool
is_of d k n = same_text (host_of n) d && nat_eq (shard_of n) k

abbrev pub is_copied : Key → ℕ → Key → Bool
is_copied d k n = not (same_text (host_of n) d) && nat_eq (shard_of n) k

-- ---- how a list of marks begins

abbrev pub is_founding : Key → ℕ → Mark → Bool
is_founding d k (Began e j) = same_text d e && nat_eq k j
is_founding d k (Applied n x) = false
is_founding d k (Fault n i) = false
is_founding d k (Queued n s) = false
is_founding d k (Answered n i v) = false
is_founding d k (Dropped n) = false

abbrev pub is_founded : Key → ℕ → List Mark → Bool
is_founded d k [] = false
is_founded d k (m ∷ ms) = is_founding d k m

abbrev pub founded : Key → ℕ → List Mark → List Mark
founded d k ms = Began d k ∷ ms

abbrev pub is_own_mark : Key → ℕ → Mark → Bool
is_own_mark d k (Began e j) = is_founding d k (Began e j)
is_own_mark d k (Applied n x) = is_in k n
is_own_mark d k (Fault n i) = is_of d k n
is_own_mark d k (Queued n s) = is_copied d k n
is_own_mark d k (Answered n i v) = is_copied d k n
is_own_mark d k (Dropped n) = is_copied d k n

-- ---- what marks give

-- a mark of another wavelet counts for nothing; a shard has none
abbrev pub after_mark : Key → ℕ → List Hosted → Mark → List Hosted
after_mark d k hs (Began e j) = hs
after_mark d k hs (Applied n x) = cond (is_of d k n) (grown_in hs n x) hs
after_mark d k hs (Fault n i) = hs
after_mark d k hs (Queued n s) = hs
after_mark d k hs (Answered n i v) = hs
after_mark d k hs (Dropped n) = hs

abbrev pub replayed_on : Key → ℕ → List Hosted → List Mark → List Hosted
replayed_on d k hs [] = hs
replayed_on d k hs (m ∷ ms) = replayed_on d k (after_mark d k hs m) ms

abbrev pub replayed : Key → ℕ → List Mark → List Hosted
replayed d k ms = replayed_on d k [] ms

-- so it is with the copies: a delta of a wavelet that the domain hosts is of none
abbrev pub with_mark : Key → ℕ → Worlds → Mark → Worlds
with_mark d k cs (Began e j) = cs
with_mark d k cs (Applied n x) = cond (is_copied d k n) (with_taken cs n x) cs
with_mark d k cs (Fault n i) = cs
with_mark d k cs (Queued n s) = cond (is_copied d k n) (with_queued cs n s) cs
with_mark d k cs (Answered n i v) = cond (is_copied d k n) (with_settled cs n i v) cs
with_mark d k cs (Dropped n) = cond (is_copied d k n) (with_dropped cs n) cs

abbrev pub copied_on : Key → ℕ → Worlds → List Mark → Worlds
copied_on d k cs [] = cs
copied_on d k cs (m ∷ ms) = copied_on d k (with_mark d k cs m) ms

abbrev pub copied : Key → ℕ → List Mark → Worlds
copied d k ms = copied_on d k empty ms

abbrev pub shown_at : Key → ℕ → List Mark → Shown
shown_at d k ms = shown_among d (replayed d k ms) (copied d k ms)

-- ---- marks of what was loaded

abbrev pub loaded_one : Hosted → List Mark
loaded_one h = map (λ x. Applied h.name x) h.deltas

abbrev pub loaded : List Hosted → List Mark
loaded [] = []
loaded (h ∷ hs) = loaded_one h ++ loaded hs

-- ---- faults

abbrev pub fault_of : Mark → ℕ
fault_of (Began e j) = 0
fault_of (Applied n x) = 0
fault_of (Fault n i) = 1
fault_of (Queued n s) = 0
fault_of (Answered n i v) = 0
fault_of (Dropped n) = 0

abbrev pub fault_count : List Mark → ℕ
fault_count [] = 0
fault_count (m ∷ ms) = fault_of m + fault_count ms

abbrev pub most_faults : ℕ
most_faults = 2 ^ 64 - 1
