-- What sessions see of hosted histories, and of copies as they are in the world.
--     deltas_among d hs cs n      the deltas of the name: the hosted ones, where the domain hosts it, else those of the copy
--     copy_among d hs cs n        its history, where it has a delta
--     drop_among d cs n           whether its host gives it no more; a hosted one is never dropped
--     outcome_among d hs cs n i   the outcome that is known for the id
--     shown_among d hs cs         all of it
use Rattle.std.specs.Prelude.{Bool, false, cond, List, Option}
use Rattle.doc_items.specs.Maps.{Key}
use Rattle.wave_base.specs.Versions.{IdOf}
use Rattle.wavelet_op.specs.Deltas.{DeltaOf}
use Rattle.wavelet_op.specs.declared.verdict.Verdict.{Verdict}
use Rattle.delta_history.specs.Histories.{HistoryOf}
use Rattle.session_core.specs.Access.{Shown, shown}
use Rattle.wavelet_shelf.specs.Hosting.{Hosted, names_of, deltas_in, copy_of}
use Rattle.hosted_copies.specs.Domains.{is_hosted_by}
use Rattle.hosted_copies.specs.Shown.{outcome_in}
use Rattle.replica_store.specs.Worlds.{Worlds, world_at, outcome_at}

abbrev pub deltas_among : Key → List Hosted → Worlds → Key → List DeltaOf
deltas_among d hs cs n = cond (is_hosted_by d n) (deltas_in hs n) (world_at cs n).replica.deltas

abbrev pub copy_among : Key → List Hosted → Worlds → Key → Option HistoryOf
copy_among d hs cs n = copy_of n (deltas_among d hs cs n)

abbrev pub drop_among : Key → Worlds → Key → Bool
drop_among d cs n = cond (is_hosted_by d n) false (world_at cs n).replica.dropped

abbrev pub outcome_among : Key → List Hosted → Worlds → Key → IdOf → Option Verdict
outcome_among d hs cs n i = cond (is_hosted_by d n) (outcome_in hs n i) (outcome_at cs n i)

abbrev pub shown_among : Key → List Hosted → Worlds → Shown
shown_among d hs cs = shown (copy_among d hs cs) (names_of hs) (drop_among d cs) (outcome_among d hs cs)
