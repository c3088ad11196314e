-- Names, and an operation on a document.
--     name_send, address_send, document_name_send, component_send, doc_op_send, and each with `sync`
use denote.Param.Send.{IsSend, IsSync, sendable}
use denote.Param.SendFields.{declared_send, declared_sync, variants_send, variants_sync}
use Rattle.std.proofs.Crossing.{crosses}
use Rattle.std.proofs.MapsCrossing as maps
use Rattle.doc_op.specs.contracts.component.Component as component
use Rattle.doc_op.specs.contracts.op.DocOp as doc_op
use Rattle.doc_op.specs.contracts.op.DocOp.TheInside as doc_op_inside
use Rattle.wave_base.specs.contracts.wavelet_name.WaveletName as name
use Rattle.wave_base.specs.contracts.address.Address as address
use Rattle.wave_base.specs.contracts.document_name.DocumentName as document_name

pub name_send : IsSend name.the_row
name_send = search (sendable, crosses, maps.crosses) depth 40

pub name_sync : IsSync name.the_row
name_sync = search (sendable, crosses, maps.crosses) depth 40

pub address_send : IsSend address.the_row
address_send = search (sendable, crosses, maps.crosses) depth 40

pub address_sync : IsSync address.the_row
address_sync = search (sendable, crosses, maps.crosses) depth 40

pub document_name_send : IsSend document_name.the_row
document_name_send = search (sendable, crosses, maps.crosses) depth 40

pub document_name_sync : IsSync document_name.the_row
document_name_sync = search (sendable, crosses, maps.crosses) depth 40

pub component_send : IsSend component.the_row
component_send = variants_send component.enum (search (sendable, crosses, maps.crosses) depth 40 fits 20000)

pub component_sync : IsSync component.the_row
component_sync = variants_sync component.enum (search (sendable, crosses, maps.crosses) depth 40 fits 20000)

doc_op_inside_send : IsSend doc_op_inside.the_row
doc_op_inside_send = declared_send doc_op_inside.the_type (search (sendable, crosses, component_send) depth 40)

doc_op_inside_sync : IsSync doc_op_inside.the_row
doc_op_inside_sync = declared_sync doc_op_inside.the_type (search (sendable, crosses, component_sync) depth 40)

pub doc_op_send : IsSend doc_op.the_row
doc_op_send = search (sendable, doc_op_inside_send) depth 10

pub doc_op_sync : IsSync doc_op.the_row
doc_op_sync = search (sendable, doc_op_inside_sync) depth 10
