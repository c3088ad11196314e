-- A state that is kept, and the states that are kept of a history.
--     packed_send, cache_send, and each with `sync`
use denote.Param.Send.{IsSend, IsSync, sendable}
use denote.Param.SendFields.{declared_send, declared_sync, variants_send, variants_sync}
use Rattle.std.proofs.Crossing.{crosses}
use Rattle.std.proofs.MapsCrossing as maps
use Rattle.thread_safety.proofs.Operations.{document_name_send, document_name_sync}
use Rattle.thread_safety.proofs.Histories.{roles_send, roles_sync}
use Rattle.doc_pack.specs.contracts.run.Run as run
use Rattle.doc_pack.specs.contracts.piece.PackedPiece as piece
use Rattle.doc_pack.specs.contracts.piece.PackedPiece.TheInside as piece_inside
use Rattle.doc_pack.specs.contracts.packed.PackedDocument as document
use Rattle.doc_pack.specs.contracts.packed.PackedDocument.TheInside as document_inside
use Rattle.wavelet_state.specs.contracts.packed.PackedDocuments as documents
use Rattle.wavelet_state.specs.contracts.packed.PackedDocuments.TheInside as documents_inside
use Rattle.wavelet_state.specs.contracts.packed.PackedState as packed
use Rattle.wavelet_state.specs.contracts.packed.PackedState.TheInside as packed_inside
use Rattle.state_cache.specs.contracts.cache.StateCache as cache
use Rattle.state_cache.specs.contracts.cache.StateCache.TheInside as cache_inside

run_send : IsSend run.the_row
run_send = variants_send run.enum (search (sendable, crosses, maps.crosses) depth 40 fits 20000)

run_sync : IsSync run.the_row
run_sync = variants_sync run.enum (search (sendable, crosses, maps.crosses) depth 40 fits 20000)

piece_inside_send : IsSend piece_inside.the_row
piece_inside_send = declared_send piece_inside.the_type (search (sendable, crosses, run_send) depth 40)

piece_inside_sync : IsSync piece_inside.the_row
piece_inside_sync = declared_sync piece_inside.the_type (search (sendable, crosses, run_sync) depth 40)

piece_send : IsSend piece.the_row
piece_send = search (sendable, piece_inside_send) depth 10

piece_sync : IsSync piece.the_row
piece_sync = search (sendable, piece_inside_sync) depth 10

document_inside_send : IsSend document_inside.the_row
document_inside_send = declared_send document_inside.the_type (search (sendable, crosses, piece_send, piece_sync) depth 40)

document_inside_sync : IsSync document_inside.the_row
document_inside_sync = declared_sync document_inside.the_type (search (sendable, crosses, piece_send, piece_sync) depth 40)

document_send : IsSend document.the_row
document_send = search (sendable, document_inside_send) depth 10

document_sync : IsSync document.the_row
document_sync = search (sendable, document_inside_sync) depth 10

documents_inside_send : IsSend documents_inside.the_row
documents_inside_send = declared_send documents_inside.the_type
    (search (sendable, crosses, maps.crosses, document_send, document_name_send) depth 40)

documents_inside_sync : IsSync documents_inside.the_row
documents_inside_sync = declared_sync documents_inside.the_type
    (search (sendable, crosses, maps.crosses, document_sync, document_name_sync) depth 40)

documents_send : IsSend documents.the_row
documents_send = search (sendable, documents_inside_send) depth 10

documents_sync : IsSync documents.the_row
documents_sync = search (sendable, documents_inside_sync) depth 10

packed_inside_send : IsSend packed_inside.the_row
packed_inside_send = declared_send packed_inside.the_type (search (sendable, roles_send, documents_send) depth 40)

packed_inside_sync : IsSync packed_inside.the_row
packed_inside_sync = declared_sync packed_inside.the_type (search (sendable, roles_sync, documents_sync) depth 40)

pub packed_send : IsSend packed.the_row
packed_send = search (sendable, packed_inside_send) depth 10

pub packed_sync : IsSync packed.the_row
packed_sync = search (sendable, packed_inside_sync) depth 10

cache_inside_send : IsSend cache_inside.the_row
cache_inside_send = declared_send cache_inside.the_type (search (sendable, crosses, packed_send) depth 40)

cache_inside_sync : IsSync cache_inside.the_row
cache_inside_sync = declared_sync cache_inside.the_type (search (sendable, crosses, packed_sync) depth 40)

pub cache_send : IsSend cache.the_row
cache_send = search (sendable, cache_inside_send) depth 10

pub cache_sync : IsSync cache.the_row
cache_sync = search (sendable, cache_inside_sync) depth 10
