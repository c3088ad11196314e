-- What a user has read.
--     mark_in marks n      the version up to which the wavelet of this name is read; 0 where none is noted
use Rattle.std.specs.Prelude.{ℕ, unwrap_or}
use Rattle.std.specs.BTreeMap as tree
use Rattle.std.specs.Cmp.Lexicographic.{slice_cmp}
use Rattle.std.specs.Ordering.{nat_cmp}
use Rattle.doc_items.specs.Maps.{Key}
use Rattle.wave_index.specs.declared.marks.Marks.{Marks}

abbrev pub mark_in : Marks → Key → ℕ
mark_in m n = unwrap_or (tree.get (slice_cmp nat_cmp) m.versions n) 0
