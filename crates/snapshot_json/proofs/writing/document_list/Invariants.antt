use Rattle.std.proofs.Common.{◌≡◌, ◌++◌, map, drop, IsSome}
use Rattle.std.specs.FinMap.{keys}
use Rattle.std.specs.List.{All}
use Rattle.serde_json.specs.View.{view}
use Rattle.wavelet_op.specs.States.{document_of, kept}
use Rattle.snapshot_json.specs.Back.{IsDocumentBack}
use Rattle.snapshot_json.specs.Write.{document_data}
use Rattle.snapshot_json.proofs.writing.document_list.Given as goal

abbrev pub invariant-loop-name : goal.invariant-loop-name
invariant-loop-name l = record {
  listed : map view l.list.items ++ map (document_data l.state) (map (λ k. k.now) (drop l.name-index l.name-items)) ≡ map (document_data l.state) (keys l.state.documents);
  back : All (IsDocumentBack l.state) (map (λ k. k.now) (drop l.name-index l.name-items)) → All (IsDocumentBack l.state) (keys l.state.documents);
  there : All (λ k. IsSome (kept (document_of l.state k))) (map (λ k. k.now) (drop l.name-index l.name-items));
}
