-- The table of `indexmap`, from its fields.
--     table_send, columns_send, index_send, index_field_send, and each with `sync`
use denote.RattleType.{RattleType}
use denote.Hole.{as_row}
use denote.Param.Send.{IsSend, IsSync, sendable}
use denote.Param.SendFields.{declared_send, declared_sync, as_row_send, as_row_sync}
use Rattle.std.specs.declared.cmp.PartialEq as eq
use Rattle.std.specs.declared.hash.Hash as hash
use Rattle.std.specs.declared.hash.Hasher as hasher
use Rattle.std.specs.declared.hash.BuildHasher as builder
use Rattle.std.proofs.Crossing.{crosses}
use Rattle.std.specs.contracts.alloc.Global as Heap
use Rattle.std.specs.contracts.impls.GlobalAllocator.TheImpl.{ghosts}
use Rattle.indexmap.specs.contracts.map.IndexMap as index
use Rattle.indexmap.specs.contracts.map.IndexMap.TheInside as index_inside
use Rattle.indexmap.specs.contracts.columns.Columns as columns
use Rattle.indexmap.specs.contracts.columns.Columns.TheInside as columns_inside
use Rattle.indexmap.specs.contracts.index_table.IndexTable as table
use Rattle.indexmap.specs.contracts.index_table.IndexTable.TheInside as table_inside

table_inside_send : IsSend (table_inside.the_row Heap.the_row ghosts)
table_inside_send = declared_send (table_inside.the_type Heap.the_row ghosts) (search (sendable, as_row_send, crosses) depth 40)

table_inside_sync : IsSync (table_inside.the_row Heap.the_row ghosts)
table_inside_sync = declared_sync (table_inside.the_type Heap.the_row ghosts) (search (sendable, as_row_sync, crosses) depth 40)

pub table_send : IsSend (table.the_row Heap.the_row ghosts)
table_send = search (sendable, table_inside_send) depth 10

pub table_sync : IsSync (table.the_row Heap.the_row ghosts)
table_sync = search (sendable, table_inside_sync) depth 10

module _ (K V : RattleType) where
  columns_inside_send : IsSend K → IsSend V → IsSend (columns_inside.the_row K V Heap.the_row ghosts)
  columns_inside_send k v = declared_send (columns_inside.the_type K V Heap.the_row ghosts)
      (search (sendable, crosses, k, v) depth 40)

  columns_inside_sync : IsSync K → IsSync V → IsSync (columns_inside.the_row K V Heap.the_row ghosts)
  columns_inside_sync k v = declared_sync (columns_inside.the_type K V Heap.the_row ghosts)
      (search (sendable, crosses, k, v) depth 40)

  pub columns_send : IsSend K → IsSend V → IsSend (columns.the_row K V Heap.the_row ghosts)
  columns_send k v = let inside = columns_inside_send k v in search (sendable, inside) depth 10

  pub columns_sync : IsSync K → IsSync V → IsSync (columns.the_row K V Heap.the_row ghosts)
  columns_sync k v = let inside = columns_inside_sync k v in search (sendable, inside) depth 10

module _ (K V S T : RattleType) (e : eq.Ghosts K.Denot) (h : hash.Ghosts K.Denot) (b : builder.Ghosts S.Denot T.Denot) (w : hasher.Ghosts T.Denot) where
  index_inside_send : IsSend K → IsSend V → IsSend S → IsSend (index_inside.the_row K V S Heap.the_row T e h b w ghosts)
  index_inside_send k v s = let both = columns_send K V k v in
      declared_send (index_inside.the_type K V S Heap.the_row T e h b w ghosts)
      (search (sendable, crosses, both, table_send, s) depth 40)

  index_inside_sync : IsSync K → IsSync V → IsSync S → IsSync (index_inside.the_row K V S Heap.the_row T e h b w ghosts)
  index_inside_sync k v s = let both = columns_sync K V k v in
      declared_sync (index_inside.the_type K V S Heap.the_row T e h b w ghosts)
      (search (sendable, crosses, both, table_sync, s) depth 40)

  pub index_send : IsSend K → IsSend V → IsSend S → IsSend (index.the_row K V S Heap.the_row T e h b w ghosts)
  index_send k v s = let inside = index_inside_send k v s in search (sendable, inside) depth 10

  pub index_sync : IsSync K → IsSync V → IsSync S → IsSync (index.the_row K V S Heap.the_row T e h b w ghosts)
  index_sync k v s = let inside = index_inside_sync k v s in search (sendable, inside) depth 10

  pub index_field_send : IsSend K → IsSend V → IsSend S → IsSend (as_row (index.the_field K V S Heap.the_row T e h b w ghosts))
  index_field_send k v s = as_row_send (index.the_field K V S Heap.the_row T e h b w ghosts) (index_send k v s)

  pub index_field_sync : IsSync K → IsSync V → IsSync S → IsSync (as_row (index.the_field K V S Heap.the_row T e h b w ghosts))
  index_field_sync k v s = as_row_sync (index.the_field K V S Heap.the_row T e h b w ghosts) (index_sync k v s)
