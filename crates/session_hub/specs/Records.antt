-- What a shard keeps.
--     mark_of r           the mark that a record stands for
--     marks_in d k rs     the history of a shard of that domain and number, which keeps these records
--     hosted_code         the code of a hosted history, by that of a delta
--     world_code          the code of a copy in the world, by those of a delta, a submission and a verdict that was noted
use Rattle.std.specs.Prelude.{ℕ, Bool, List, map, refl}
use Rattle.std.specs.Coded.{Coded, code_by, coded_list, coded_ℕ, coded_bool, coded×}
use Rattle.doc_items.specs.Maps.{Key}
use Rattle.wavelet_op.specs.Deltas.{DeltaOf}
use Rattle.wavelet_op.specs.declared.delta.Submission.{Submission}
use Rattle.replica_store.specs.Worlds.{WorldOf}
use Rattle.replica_store.specs.declared.outcomes.Noted.{Noted}
use Rattle.wavelet_shelf.specs.Hosting.{Hosted}
use Rattle.shard_marks.specs.declared.mark.Mark.{Mark}
use Rattle.shard_marks.specs.declared.mark.Mark.TheVariants as mark
use Rattle.session_hub.specs.declared.record.Record.{Record}
use Rattle.session_hub.specs.declared.record.Record.TheVariants.{Loaded, Applied, Fault, Queued, Answered, Dropped}
use Rattle.shard_marks.specs.Marks.{founded}

abbrev pub mark_of : Record → Mark
mark_of (Loaded name delta) = mark.Applied name.value delta.value
mark_of (Applied name delta) = mark.Applied name delta.value
mark_of (Fault name id) = mark.Fault name.value id.value
mark_of (Queued name submission) = mark.Queued name.value submission.value
mark_of (Answered name id verdict) = mark.Answered name.value id.value verdict.value
mark_of (Dropped name) = mark.Dropped name.value

abbrev pub marks_in : Key → ℕ → List Record → List Mark
marks_in d k rs = founded d k (map mark_of rs)

abbrev pub hosted_code : Coded DeltaOf → Coded Hosted
hosted_code delta = code_by (List ℕ × List DeltaOf) (coded× (coded_list coded_ℕ) (coded_list delta)) (λ h. (h.name, h.deltas))
    (λ p. record { name = p.0; deltas = p.1 }) (λ _. refl)

abbrev pub world_code : Coded DeltaOf → Coded Submission → Coded Noted → Coded WorldOf
world_code delta submission noted = code_by (List DeltaOf × (List Submission × (Bool × List Noted)))
    (coded× (coded_list delta) (coded× (coded_list submission) (coded× coded_bool (coded_list noted))))
    (λ w. (w.replica.deltas, (w.replica.waiting, (w.replica.dropped, w.noted))))
    (λ p. record { replica = record { deltas = p.0; waiting = p.1.0; dropped = p.1.1.0 }; noted = p.1.1.1 }) (λ _. refl)
