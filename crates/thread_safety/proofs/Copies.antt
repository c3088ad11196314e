-- Copies of other domains' wavelets.
--     replicas_send, replicas_sync
use denote.Param.Send.{IsSend, IsSync, sendable}
use denote.Param.SendFields.{declared_send, declared_sync}
use Rattle.std.proofs.Crossing.{crosses}
use Rattle.std.proofs.MapsCrossing as maps
use Rattle.thread_safety.proofs.Operations.{name_send, name_sync}
use Rattle.thread_safety.proofs.States.{ops_send, ops_sync}
use Rattle.thread_safety.proofs.Histories.{delta_id_send, delta_id_sync, hashed_send, hashed_sync, history_send, history_sync}
use Rattle.wavelet_op.specs.contracts.delta.Submission as submission
use Rattle.replica_store.specs.contracts.outcomes.Noted as noted
use Rattle.replica_store.specs.contracts.replica.Replica as replica
use Rattle.replica_store.specs.contracts.replica.Replica.TheInside as replica_inside
use Rattle.replica_store.specs.contracts.replicas.Replicas as replicas
use Rattle.replica_store.specs.contracts.replicas.Replicas.TheInside as replicas_inside

submission_send : IsSend submission.the_row
submission_send = search (sendable, crosses, delta_id_send, hashed_send, ops_send) depth 40

submission_sync : IsSync submission.the_row
submission_sync = search (sendable, crosses, delta_id_sync, hashed_sync, ops_sync) depth 40

noted_send : IsSend noted.the_row
noted_send = search (sendable, crosses, delta_id_send) depth 40

noted_sync : IsSync noted.the_row
noted_sync = search (sendable, crosses, delta_id_sync) depth 40

replica_inside_send : IsSend replica_inside.the_row
replica_inside_send = declared_send replica_inside.the_type
    (search (sendable, crosses, history_send, submission_send, noted_send, delta_id_send) depth 40)

replica_inside_sync : IsSync replica_inside.the_row
replica_inside_sync = declared_sync replica_inside.the_type
    (search (sendable, crosses, history_sync, submission_sync, noted_sync, delta_id_sync) depth 40)

replica_send : IsSend replica.the_row
replica_send = search (sendable, replica_inside_send) depth 10

replica_sync : IsSync replica.the_row
replica_sync = search (sendable, replica_inside_sync) depth 10

replicas_inside_send : IsSend replicas_inside.the_row
replicas_inside_send = declared_send replicas_inside.the_type (search (sendable, crosses, maps.crosses, name_send, replica_send) depth 40)

replicas_inside_sync : IsSync replicas_inside.the_row
replicas_inside_sync = declared_sync replicas_inside.the_type (search (sendable, crosses, maps.crosses, name_sync, replica_sync) depth 40)

pub replicas_send : IsSend replicas.the_row
replicas_send = search (sendable, replicas_inside_send) depth 10

pub replicas_sync : IsSync replicas.the_row
replicas_sync = search (sendable, replicas_inside_sync) depth 10
