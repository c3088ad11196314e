-- A session with the handle that it waits by may go to another thread, where its parts may.
--     thread_send
use denote.RattleType.{RattleType}
use denote.Param.Send.{IsSend, IsSync, sendable}
use denote.Param.SendFields.{declared_send, as_row_send}
use Rattle.std.proofs.Crossing.{send}
use Rattle.disk_model.specs.contracts.memory.MemoryDisk as disk
use Rattle.wave_outside.specs.contracts.memory_folder.MemoryFolder as folder
use Rattle.thread_safety.proofs.Jobs.{job_send}
use Rattle.test_serve.specs.contracts.gate.StagedGate as gate
use Rattle.test_serve.specs.contracts.link.StagedLink as link
use Rattle.test_serve.specs.contracts.stage.StagedClock as clock
use Rattle.test_serve.specs.contracts.spawner.StagedThread as session

module _ (l : IsSend link.the_row) (f : IsSend folder.the_row) (g : IsSync folder.the_row) (d : IsSend disk.the_row) (k : IsSync disk.the_row)
    (c : IsSend clock.the_row) (b : IsSend gate.the_row) where
  pub thread_send : (R : RattleType) → IsSend R → IsSend (session.the_row R)
  thread_send R r = declared_send (session.the_type R) (
    search (as_row_send, r),
    (
      search (sendable, as_row_send, send) depth 20,
      (job_send link.the_row folder.the_row clock.the_row gate.the_row disk.the_row _ _ _ _ l f g d k c b, tt),
    ),
  )
