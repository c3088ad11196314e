use Rattle.std.proofs.Common.{◌≡◌, drop, None}
use Rattle.serde_json.specs.View.{items_view}
use Rattle.snapshot_json.specs.Read.{document_of, opened, states_from}
use Rattle.snapshot_json.proofs.reading.documents_in.Given as goal

abbrev pub invariant-loop-value : goal.invariant-loop-value
invariant-loop-value l = states_from document_of opened l.fn.state None (items_view l.list) ≡ states_from document_of opened l.state l.last (items_view (drop l.value-index l.list))
