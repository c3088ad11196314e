-- A wavelet with its journal, over any disk that may go to another thread.
--     trail_send, cached_send, stage_send, journal_send, container_send, and each with `sync`
use denote.RattleType.{RattleType}
use denote.Param.Send.{IsSend, IsSync, sendable}
use denote.Param.SendFields.{declared_send, declared_sync, variants_send, variants_sync, as_row_send, as_row_sync}
use denote.Builtin.{u8}
use denote.Hole.{as_row}
use Rattle.std.proofs.Crossing.{crosses}
use Rattle.std.specs.contracts.vec.Vec as Vec
use Rattle.std.specs.contracts.alloc.Global as Heap
use Rattle.std.specs.contracts.impls.GlobalAllocator.TheImpl.{ghosts}
use Rattle.thread_safety.proofs.States.{ops_send, ops_sync}
use Rattle.thread_safety.proofs.Histories.{history_send, history_sync, state_send, state_sync}
use Rattle.thread_safety.proofs.Packed.{cache_send, cache_sync}
use Rattle.wavelet_container.specs.contracts.trail.Trail as trail
use Rattle.wavelet_container.specs.contracts.cached.CachedHistory as cached
use Rattle.wavelet_container.specs.contracts.cached.CachedHistory.TheInside as cached_inside
use Rattle.wavelet_container.specs.contracts.container.Container as container
use Rattle.delta_journal.specs.contracts.journal.Journal as journal
use Rattle.delta_journal.specs.contracts.stage.Stage as stage
use Rattle.disk_model.specs.declared.disk.Disk.{Ghosts}

pub trail_send : IsSend trail.the_row
trail_send = search (sendable, crosses, state_send, ops_send) depth 40

pub trail_sync : IsSync trail.the_row
trail_sync = search (sendable, crosses, state_sync, ops_sync) depth 40

cached_inside_send : IsSend cached_inside.the_row
cached_inside_send = declared_send cached_inside.the_type
    (search (sendable, crosses, history_send, cache_send, trail_send) depth 40)

cached_inside_sync : IsSync cached_inside.the_row
cached_inside_sync = declared_sync cached_inside.the_type
    (search (sendable, crosses, history_sync, cache_sync, trail_sync) depth 40)

pub cached_send : IsSend cached.the_row
cached_send = search (sendable, cached_inside_send) depth 10

pub cached_sync : IsSync cached.the_row
cached_sync = search (sendable, cached_inside_sync) depth 10

pub stage_send : IsSend stage.the_row
stage_send = variants_send stage.enum (search (sendable, crosses) depth 40)

pub stage_sync : IsSync stage.the_row
stage_sync = variants_sync stage.enum (search (sendable, crosses) depth 40)

bytes_send : IsSend (Vec.the_row u8 Heap.the_row ghosts)
bytes_send = search (sendable, crosses) depth 20

bytes_sync : IsSync (Vec.the_row u8 Heap.the_row ghosts)
bytes_sync = search (sendable, crosses) depth 20

bytes_field_send : IsSend (as_row (Vec.the_field u8 Heap.the_row ghosts))
bytes_field_send = as_row_send (Vec.the_field u8 Heap.the_row ghosts) bytes_send

bytes_field_sync : IsSync (as_row (Vec.the_field u8 Heap.the_row ghosts))
bytes_field_sync = as_row_sync (Vec.the_field u8 Heap.the_row ghosts) bytes_sync

module _ (K : RattleType) (g : Ghosts K.Denot) where
  pub journal_send : IsSend K → IsSend (journal.the_row K g)
  journal_send s = declared_send (journal.the_type K g)
      (search (sendable, as_row_send, crosses, bytes_field_send, stage_send, s) depth 40)

  pub journal_sync : IsSync K → IsSync (journal.the_row K g)
  journal_sync s = declared_sync (journal.the_type K g)
      (search (sendable, as_row_sync, crosses, bytes_field_sync, stage_sync, s) depth 40)

  pub container_send : IsSend K → IsSend (container.the_row K g)
  container_send s = declared_send (container.the_type K g)
      (search (sendable, as_row_send, crosses, cached_send, journal_send, s) depth 40)

  pub container_sync : IsSync K → IsSync (container.the_row K g)
  container_sync s = declared_sync (container.the_type K g)
      (search (sendable, as_row_sync, crosses, cached_sync, journal_sync, s) depth 40)
