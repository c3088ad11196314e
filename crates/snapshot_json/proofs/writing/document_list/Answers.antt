use Rattle.std.proofs.Common.{IsSome}
use Rattle.std.specs.FinMap.{keys}
use Rattle.wavelet_op.specs.States.{document_of, kept}
use Rattle.snapshot_json.proofs.Listings.{next_listed, next_back, first_there, rest_there}
use Rattle.snapshot_json.specs.Back.{IsDocumentBack}
use Rattle.snapshot_json.specs.Write.{document_data}
use Rattle.snapshot_json.proofs.writing.document_list.Goals as goal

pub document_value-requires : goal.document_value-requires
document_value-requires c = first_there (λ k. k.now) (λ k. IsSome (kept (document_of c.args.state.now k))) c.as_slice-name-items.result.now c.loop-name.name-index c.name-item.result c.loop-name.invariant.there c.loop-name-test.true c.name-item.is

pub loop-name-preserved : goal.loop-name-preserved
loop-name-preserved c = record {
  listed = next_listed (λ k. k.now) (document_data c.args.state.now) (keys c.args.state.now.documents) c.loop-name.list.items c.push.new.self.items c.in_ok-document_value.field-0 c.as_slice-name-items.result.now c.loop-name.name-index c.name-item.result c.loop-name.invariant.listed c.loop-name-test.true c.name-item.is c.in_ok-document_value.ensures.value c.in_ok-push.ensures.items;
  back = next_back (λ k. k.now) (IsDocumentBack c.args.state.now) (keys c.args.state.now.documents) c.as_slice-name-items.result.now c.loop-name.name-index c.name-item.result c.loop-name.invariant.back c.loop-name-test.true c.name-item.is c.in_ok-document_value.ensures.back;
  there = rest_there (λ k. k.now) (λ k. IsSome (kept (document_of c.args.state.now k))) c.as_slice-name-items.result.now c.loop-name.name-index c.name-item.result c.loop-name.invariant.there c.loop-name-test.true c.name-item.is;
}
