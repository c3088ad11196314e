-- Copies of wavelets, as sessions see them.
--     AreAscending names        names in byte order, none of them twice
--     kept_in copy i            what a copy keeps for an id, where there is a copy
--     IsKeptOutcome copy i v    where the copy has a delta of the id, its acknowledgement is the verdict that is known
use Rattle.std.specs.Prelude.{◌≡◌, List, [], ◌∷◌, Option, Some, None}
use Rattle.std.specs.Cmp.Lexicographic.{slice_cmp}
use Rattle.std.specs.Ordering.{nat_cmp}
use Rattle.std.specs.declared.cmp.Ordering.TheVariants.{Less}
use Rattle.doc_items.specs.Maps.{Key}
use Rattle.wave_base.specs.Versions.{IdOf}
use Rattle.wavelet_op.specs.declared.verdict.Verdict.{Verdict}
use Rattle.wavelet_op.specs.declared.verdict.Verdict.TheVariants.{Ack}
use Rattle.delta_history.specs.declared.kept.Kept.{Kept}
use Rattle.delta_history.specs.Histories.{HistoryOf}
use Rattle.delta_history.specs.Points.{start}
use Rattle.delta_history.specs.Verdicts.{kept}

abbrev pub AscendFrom : Key → List Key → Type 0
AscendFrom n [] = Unit {0}
AscendFrom n (m ∷ names) = (slice_cmp nat_cmp n m ≡ Less) × AscendFrom m names

abbrev pub AreAscending : List Key → Type 0
AreAscending [] = Unit {0}
AreAscending (n ∷ names) = AscendFrom n names

abbrev pub kept_in : Option HistoryOf → IdOf → Option Kept
kept_in None i = None
kept_in (Some h) i = kept i (start h.name) h.deltas

abbrev pub IsKeptOutcome : Option HistoryOf → IdOf → Option Verdict → Type 0
IsKeptOutcome copy i v = (k : Kept) → kept_in copy i ≡ Some k → v ≡ Some (Ack k.at k.to)
