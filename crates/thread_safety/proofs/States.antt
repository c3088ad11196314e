-- Operations on a wavelet, and its documents.
--     op_send, ops_send, documents_send, and each with `sync`
use denote.Param.Send.{IsSend, IsSync, sendable}
use denote.Param.SendFields.{declared_send, declared_sync, variants_send, variants_sync}
use Rattle.std.proofs.Crossing.{crosses}
use Rattle.std.proofs.MapsCrossing as maps
use Rattle.thread_safety.proofs.Ropes.{rope_send, rope_sync}
use Rattle.thread_safety.proofs.Operations.{address_send, address_sync, document_name_send, document_name_sync, doc_op_send, doc_op_sync}
use Rattle.wavelet_op.specs.contracts.op.WaveletOp as op
use Rattle.wavelet_op.specs.contracts.ops.Ops as ops
use Rattle.wavelet_op.specs.contracts.ops.Ops.TheInside as ops_inside
use Rattle.wavelet_state.specs.contracts.documents.Documents as documents
use Rattle.wavelet_state.specs.contracts.documents.Documents.TheInside as documents_inside

pub op_send : IsSend op.the_row
op_send = variants_send op.enum (search (sendable, crosses, doc_op_send, address_send, document_name_send) depth 40 fits 20000)

pub op_sync : IsSync op.the_row
op_sync = variants_sync op.enum (search (sendable, crosses, doc_op_sync, address_sync, document_name_sync) depth 40 fits 20000)

ops_inside_send : IsSend ops_inside.the_row
ops_inside_send = declared_send ops_inside.the_type (search (sendable, crosses, op_send) depth 40)

ops_inside_sync : IsSync ops_inside.the_row
ops_inside_sync = declared_sync ops_inside.the_type (search (sendable, crosses, op_sync) depth 40)

pub ops_send : IsSend ops.the_row
ops_send = search (sendable, ops_inside_send) depth 10

pub ops_sync : IsSync ops.the_row
ops_sync = search (sendable, ops_inside_sync) depth 10

documents_inside_send : IsSend documents_inside.the_row
documents_inside_send = declared_send documents_inside.the_type
    (search (sendable, crosses, maps.crosses, rope_send, document_name_send) depth 40)

documents_inside_sync : IsSync documents_inside.the_row
documents_inside_sync = declared_sync documents_inside.the_type
    (search (sendable, crosses, maps.crosses, rope_sync, document_name_sync) depth 40)

pub documents_send : IsSend documents.the_row
documents_send = search (sendable, documents_inside_send) depth 10

pub documents_sync : IsSync documents.the_row
documents_sync = search (sendable, documents_inside_sync) depth 10
