-- A shard, the hub, and a session's job and end.
--     job_send, end_send
use denote.RattleType.{RattleType}
use denote.Param.Send.{IsSend, IsSync, sendable}
use denote.Param.SendFields.{declared_send, declared_sync, variants_send, variants_sync, as_row_send, as_row_sync}
use Rattle.std.proofs.Crossing.{crosses}
use Rattle.std.specs.contracts.vec.Vec as Vec
use Rattle.std.specs.contracts.alloc.Global as Heap
use Rattle.std.specs.contracts.impls.GlobalAllocator.TheImpl.{ghosts}
use Rattle.wave_outside.specs.declared.link.Link as link
use Rattle.wave_outside.specs.declared.clock.Clock as clock
use Rattle.disk_model.specs.declared.disk.Disk as disk
use Rattle.wave_outside.specs.declared.folder.Folder as folder
use Rattle.wave_base.specs.contracts.domain.Domain as domain
use Rattle.session_hub.specs.contracts.record.Record as record_row
use Rattle.session_hub.specs.contracts.shard.Shard as shard
use Rattle.session_hub.specs.contracts.texts.Text as text_row
use Rattle.session_hub.specs.contracts.hub.Hub as hub
use Rattle.session_link.specs.contracts.job.LinkJob as job
use Rattle.session_link.specs.contracts.job.LinkEnd as link_end
use Rattle.session_steps.specs.contracts.end.EndCause as cause
use Rattle.thread_safety.proofs.Shelves.{shelf_send, shelf_sync}
use Rattle.thread_safety.proofs.Copies.{replicas_send, replicas_sync}
use Rattle.thread_safety.proofs.Cells.{cells_send, cells_sync, passes_send}

pub domain_send : IsSend domain.the_row
domain_send = search (sendable, crosses) depth 40

pub domain_sync : IsSync domain.the_row
domain_sync = search (sendable, crosses) depth 40

domains_send : IsSend (Vec.the_row domain.the_row Heap.the_row ghosts)
domains_send = search (sendable, crosses, domain_send) depth 20

domains_sync : IsSync (Vec.the_row domain.the_row Heap.the_row ghosts)
domains_sync = search (sendable, crosses, domain_sync) depth 20

pub record_send : IsSend record_row.the_row
record_send = variants_send record_row.enum (search (sendable, crosses) depth 40)

pub record_sync : IsSync record_row.the_row
record_sync = variants_sync record_row.enum (search (sendable, crosses) depth 40)

cause_send : IsSend cause.the_row
cause_send = variants_send cause.enum (search sendable depth 20)

records_send : IsSend (Vec.the_row record_row.the_row Heap.the_row ghosts)
records_send = search (sendable, crosses, record_send) depth 20

records_sync : IsSync (Vec.the_row record_row.the_row Heap.the_row ghosts)
records_sync = search (sendable, crosses, record_sync) depth 20

text_send : IsSend text_row.the_row
text_send = search (sendable, crosses) depth 40

text_sync : IsSync text_row.the_row
text_sync = search (sendable, crosses) depth 40

texts_send : IsSend (Vec.the_row text_row.the_row Heap.the_row ghosts)
texts_send = search (sendable, crosses, text_send) depth 20

texts_sync : IsSync (Vec.the_row text_row.the_row Heap.the_row ghosts)
texts_sync = search (sendable, crosses, text_sync) depth 20

module _ (F K : RattleType) (f : folder.Ghosts F.Denot K.Denot) (g : disk.Ghosts K.Denot) where
  shard_send : IsSend F → IsSend K → IsSend (shard.the_row F K f g)
  shard_send s k = declared_send (shard.the_type F K f g) (
    domain_send,
    (
      search (sendable, as_row_send),
      (
        shelf_send F K f g s k,
        (
          replicas_send,
          (
            as_row_send (Vec.the_field record_row.the_row Heap.the_row ghosts) records_send,
            (as_row_send (Vec.the_field text_row.the_row Heap.the_row ghosts) texts_send, tt),
          ),
        ),
      ),
    ),
  )

  shard_sync : IsSync F → IsSync K → IsSync (shard.the_row F K f g)
  shard_sync s k = declared_sync (shard.the_type F K f g) (
    domain_sync,
    (
      search (sendable, as_row_sync),
      (
        shelf_sync F K f g s k,
        (
          replicas_sync,
          (
            as_row_sync (Vec.the_field record_row.the_row Heap.the_row ghosts) records_sync,
            (as_row_sync (Vec.the_field text_row.the_row Heap.the_row ghosts) texts_sync, tt),
          ),
        ),
      ),
    ),
  )

  hub_send : IsSend F → IsSend K → IsSend (hub.the_row F K f g)
  hub_send s k = let h = shard_send s k in declared_send (hub.the_type F K f g) (
    domain_send,
    (as_row_send (Vec.the_field domain.the_row Heap.the_row ghosts) domains_send, (search (cells_send, h), tt)),
  )

  hub_sync : IsSend F → IsSend K → IsSync F → IsSync K → IsSync (hub.the_row F K f g)
  hub_sync s k y z = let h = shard_send s k in
      let v = shard_sync y z in
      declared_sync (hub.the_type F K f g) (
        domain_sync,
        (as_row_sync (Vec.the_field domain.the_row Heap.the_row ghosts) domains_sync, (search (cells_sync, h, v), tt)),
      )

module _ (L F C G K : RattleType) (l : link.Ghosts L.Denot) (f : folder.Ghosts F.Denot K.Denot) (g : disk.Ghosts K.Denot) (c : clock.Ghosts C.Denot) where
  pub job_send : IsSend L → IsSend F → IsSync F → IsSend K → IsSync K → IsSend C → IsSend G → IsSend (job.the_row L F C G K l f g c)
  job_send l' s y k z c' g' = let h = hub_send F K f g s k in
      let v = hub_sync F K f g s k y z in
      let p = shard_send F K f g s k in
      declared_send (job.the_type L F C G K l f g c) (
        search (as_row_send, crosses, h, v),
        (
          search (passes_send, p),
          (
            search (as_row_send, l'),
            (
              search (as_row_send, c'),
              (
                search (as_row_send, g'),
                (search (sendable, as_row_send), tt),
              ),
            ),
          ),
        ),
      )

module _ (L F K : RattleType) (f : folder.Ghosts F.Denot K.Denot) (g : disk.Ghosts K.Denot) where
  pub end_send : IsSend L → IsSend F → IsSend K → IsSend (link_end.the_row L F K f g)
  end_send l s k = let p = shard_send F K f g s k in
      declared_send (link_end.the_type L F K f g) (
        search (as_row_send, l),
        (
          search (passes_send, p),
          (search (sendable, cause_send), tt),
        ),
      )
