-- Deltas, a wavelet's state, and its history.
--     delta_id_send, hashed_send, delta_send, roles_send, draft_send, state_send, ids_send, log_send, twin_send, history_send,
--     and each with `sync`
use denote.Param.Send.{IsSend, IsSync, sendable}
use denote.Param.SendFields.{declared_send, declared_sync, variants_send, variants_sync}
use Rattle.std.proofs.Crossing.{crosses}
use Rattle.std.proofs.MapsCrossing as maps
use Rattle.thread_safety.proofs.Operations.{name_send, name_sync, address_send, address_sync}
use Rattle.thread_safety.proofs.States.{documents_send, documents_sync, ops_send, ops_sync}
use Rattle.wavelet_op.specs.contracts.delta.AppliedDelta as delta
use Rattle.wavelet_state.specs.contracts.state.WaveletState as state
use Rattle.wavelet_state.specs.contracts.state.WaveletState.TheInside as state_inside
use Rattle.wavelet_state.specs.contracts.draft.Draft as draft
use Rattle.wavelet_state.specs.contracts.roles.Roles as roles
use Rattle.wavelet_state.specs.contracts.roles.Roles.TheInside as roles_inside
use Rattle.wave_base.specs.contracts.delta_id.DeltaId as delta_id
use Rattle.wave_base.specs.contracts.hashed_version.HashedVersion as hashed
use Rattle.delta_history.specs.contracts.history.History as history
use Rattle.delta_history.specs.contracts.history.History.TheInside as history_inside
use Rattle.delta_history.specs.contracts.log.Log as log
use Rattle.delta_history.specs.contracts.log.Log.TheInside as log_inside
use Rattle.delta_history.specs.contracts.twin.Twin as twin
use Rattle.delta_history.specs.contracts.ids.Ids as ids

pub delta_id_send : IsSend delta_id.the_row
delta_id_send = search (sendable, crosses, address_send) depth 40

pub delta_id_sync : IsSync delta_id.the_row
delta_id_sync = search (sendable, crosses, address_sync) depth 40

pub hashed_send : IsSend hashed.the_row
hashed_send = search (sendable, crosses) depth 40

pub hashed_sync : IsSync hashed.the_row
hashed_sync = search (sendable, crosses) depth 40

pub delta_send : IsSend delta.the_row
delta_send = search (sendable, crosses, delta_id_send, hashed_send, ops_send) depth 40

pub delta_sync : IsSync delta.the_row
delta_sync = search (sendable, crosses, delta_id_sync, hashed_sync, ops_sync) depth 40

roles_inside_send : IsSend roles_inside.the_row
roles_inside_send = declared_send roles_inside.the_type (search (sendable, crosses, maps.crosses, address_send) depth 40)

roles_inside_sync : IsSync roles_inside.the_row
roles_inside_sync = declared_sync roles_inside.the_type (search (sendable, crosses, maps.crosses, address_sync) depth 40)

pub roles_send : IsSend roles.the_row
roles_send = search (sendable, roles_inside_send) depth 10

pub roles_sync : IsSync roles.the_row
roles_sync = search (sendable, roles_inside_sync) depth 10

pub draft_send : IsSend draft.the_row
draft_send = search (sendable, roles_send, documents_send) depth 40

pub draft_sync : IsSync draft.the_row
draft_sync = search (sendable, roles_sync, documents_sync) depth 40

state_inside_send : IsSend state_inside.the_row
state_inside_send = declared_send state_inside.the_type (search (sendable, draft_send) depth 40)

state_inside_sync : IsSync state_inside.the_row
state_inside_sync = declared_sync state_inside.the_type (search (sendable, draft_sync) depth 40)

pub state_send : IsSend state.the_row
state_send = search (sendable, state_inside_send) depth 10

pub state_sync : IsSync state.the_row
state_sync = search (sendable, state_inside_sync) depth 10

pub ids_send : IsSend ids.the_row
ids_send = search (sendable, crosses, maps.crosses, address_send) depth 40

pub ids_sync : IsSync ids.the_row
ids_sync = search (sendable, crosses, maps.crosses, address_sync) depth 40

log_inside_send : IsSend log_inside.the_row
log_inside_send = declared_send log_inside.the_type
    (search (sendable, crosses, ids_send, hashed_send, delta_send, name_send) depth 40)

log_inside_sync : IsSync log_inside.the_row
log_inside_sync = declared_sync log_inside.the_type
    (search (sendable, crosses, ids_sync, hashed_sync, delta_sync, name_sync) depth 40)

pub log_send : IsSend log.the_row
log_send = search (sendable, log_inside_send) depth 10

pub log_sync : IsSync log.the_row
log_sync = search (sendable, log_inside_sync) depth 10

pub twin_send : IsSend twin.the_row
twin_send = variants_send twin.enum (search (sendable, crosses, state_send) depth 40)

pub twin_sync : IsSync twin.the_row
twin_sync = variants_sync twin.enum (search (sendable, crosses, state_sync) depth 40)

history_inside_send : IsSend history_inside.the_row
history_inside_send = declared_send history_inside.the_type (search (sendable, twin_send, log_send, state_send) depth 40)

history_inside_sync : IsSync history_inside.the_row
history_inside_sync = declared_sync history_inside.the_type (search (sendable, twin_sync, log_sync, state_sync) depth 40)

pub history_send : IsSend history.the_row
history_send = search (sendable, history_inside_send) depth 10

pub history_sync : IsSync history.the_row
history_sync = search (sendable, history_inside_sync) depth 10
