-- A session with the handle that it waits by may be given to another thread.
--     disk_send, folder_send, thread_send
use denote.RattleType.{RattleType}
use denote.Param.Send.{IsSend, IsSync, sendable}
use denote.Param.SendFields.{declared_send, as_row_send}
use Rattle.std.specs.contracts.rt.LibcRuntime as runtime
use Rattle.std.specs.contracts.fs.dir.Names as names
use Rattle.std.proofs.Crossing.{crosses, send}
use Rattle.std.proofs.MapsCrossing as maps
use Rattle.thread_safety.proofs.Jobs.{job_send}
use Rattle.ws_link.specs.contracts.link.SocketLink as socket
use Rattle.wave_threads.specs.contracts.gate.RingingGate as gate
use Rattle.wave_files.specs.contracts.disk.FileDisk as disk
use Rattle.wave_files.specs.contracts.folder.FileFolder as folder
use Rattle.wave_files.specs.contracts.clock.SystemClock as clock
use Rattle.wave.specs.contracts.spawner.SessionThread as session

pub disk_send : IsSend disk.the_row
disk_send = search (sendable, crosses) depth 60

disk_sync : IsSync disk.the_row
disk_sync = search (sendable, crosses) depth 60

pub folder_send : IsSend (folder.the_row runtime.the_row names.the_row)
folder_send = search (sendable, crosses, maps.crosses) depth 60

folder_sync : IsSync (folder.the_row runtime.the_row names.the_row)
folder_sync = search (sendable, crosses, maps.crosses) depth 60

clock_send : IsSend (clock.the_row runtime.the_row)
clock_send = search (sendable, crosses) depth 60

pub thread_send : IsSend (socket.the_row runtime.the_row) → IsSend gate.the_row → (R : RattleType) → IsSend R → IsSend (session.the_row R)
thread_send link bells R r = declared_send (session.the_type R) (
  search (as_row_send, r),
  (
    search (sendable, as_row_send, send) depth 20,
    (
      job_send (socket.the_row runtime.the_row) (folder.the_row runtime.the_row names.the_row) (clock.the_row runtime.the_row) gate.the_row disk.the_row _ _ _ _
          link folder_send folder_sync disk_send disk_sync clock_send bells,
      tt,
    ),
  ),
)
