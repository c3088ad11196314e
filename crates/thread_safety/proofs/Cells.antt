-- Cells that take turns, and passes. A cell is shared where its value may go to another thread.
--     cell_send, cell_sync, cells_send, cells_sync, pass_send, passes_send
use denote.RattleType.{RattleType}
use denote.Param.Send.{IsSend, IsSync, sendable}
use denote.Param.SendFields.{declared_send, declared_sync, variants_send, as_row_send, as_row_sync}
use denote.Builtin.{u64}
use Rattle.std.proofs.Crossing.{crosses, frees, send, sync}
use Rattle.std.specs.contracts.option.Option as option
use Rattle.turn_lock.specs.contracts.view.View as view
use Rattle.std.specs.contracts.alloc.Global as Heap
use Rattle.std.specs.contracts.impls.GlobalAllocator.TheImpl.{ghosts}
use Rattle.atomic_table.specs.declared.shared.TableRule as rule
use Rattle.atomic_table.specs.contracts.owned.Table as table
use Rattle.atomic_table.proofs.shared.Shared.TheSendSync as table_crosses
use Rattle.atomic_table.proofs.shared.Seat.TheSendSync as seat_crosses
use Rattle.atomic_table.proofs.send_lease.SendLease.TheSendSync as lease
use Rattle.turn_lock.specs.declared.Logged as logged
use Rattle.turn_lock.specs.contracts.cell.TurnCell as cell
use Rattle.turn_lock.specs.contracts.cell.Pass as pass
use Rattle.turn_lock.specs.contracts.bell.Bell as bell
use Rattle.turn_cells.specs.contracts.cells.Cells as cells
use Rattle.turn_cells.specs.contracts.cells.Passes as passes

pub bell_send : IsSend bell.the_row
bell_send = search (sendable, crosses) depth 40

pub bell_sync : IsSync bell.the_row
bell_sync = search (sendable, crosses) depth 40

option_send : (T : RattleType) → IsSend T → IsSend (option.the_row T)
option_send T t = variants_send (option.enum T) (search (sendable, as_row_send, t) depth 20)

module _ (S V K P : RattleType) (g : rule.Ghosts P.Denot S.Denot V.Denot K.Denot) where
  table_send : IsSend S → IsSend (table.the_row S V K P Heap.the_row g ghosts)
  table_send s = declared_send (table.the_type S V K P Heap.the_row g ghosts) (
    table_crosses.the_send S V K P g s,
    (
      search (sendable, as_row_send),
      (
        search (sendable, as_row_send),
        (
          lease.the_send u64 Heap.the_row ghosts send (search (sendable, frees) depth 20),
          (
            lease.the_send S Heap.the_row ghosts send (search (sendable, frees) depth 20),
            (search (sendable, as_row_send, send), tt),
          ),
        ),
      ),
    ),
  )

  table_sync : IsSend S → IsSync (table.the_row S V K P Heap.the_row g ghosts)
  table_sync s = declared_sync (table.the_type S V K P Heap.the_row g ghosts) (
    table_crosses.the_sync S V K P g s,
    (
      search (sendable, as_row_sync),
      (
        search (sendable, as_row_sync),
        (
          lease.the_sync u64 Heap.the_row ghosts send (search (sendable, frees) depth 20),
          (
            lease.the_sync S Heap.the_row ghosts send (search (sendable, frees) depth 20),
            (search (sendable, as_row_sync, sync), tt),
          ),
        ),
      ),
    ),
  )

module _ (T E : RattleType) where
  pub pass_send : IsSend T → IsSend (pass.the_row T E)
  pass_send t = declared_send (pass.the_type T E)
      (seat_crosses.the_send (option.the_row T) (view.the_row E) (option_send T t), tt)

  pub passes_send : IsSend T → IsSend (passes.the_row T E)
  passes_send t = let p = pass_send t in declared_send (passes.the_type T E) (search (sendable, as_row_send, crosses, p) depth 40)

module _ (T E : RattleType) (g : logged.Ghosts T.Denot E.Denot) where
  pub cell_send : IsSend T → IsSend (cell.the_row T E g)
  cell_send t = let o = option_send T t in
      declared_send (cell.the_type T E g) (
        search (table_send, o),
        (search (sendable, as_row_send, crosses, bell_send) depth 40, tt),
      )

  pub cell_sync : IsSend T → IsSync (cell.the_row T E g)
  cell_sync t = let o = option_send T t in
      declared_sync (cell.the_type T E g) (
        search (table_sync, o),
        (search (sendable, as_row_sync, crosses, bell_sync) depth 40, tt),
      )

  pub cells_send : IsSend T → IsSend (cells.the_row T E g)
  cells_send t = let c = cell_send t in
      declared_send (cells.the_type T E g) (search (sendable, as_row_send, crosses, c, t) depth 40)

  pub cells_sync : IsSend T → IsSync T → IsSync (cells.the_row T E g)
  cells_sync t y = let c = cell_sync t in
      declared_sync (cells.the_type T E g) (search (sendable, as_row_sync, crosses, c, y) depth 40)
