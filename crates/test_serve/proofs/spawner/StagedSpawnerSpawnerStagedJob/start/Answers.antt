use denote.Exit.{no}
use denote.Param.{copied}
use denote.Param.Send.{IsSend, sendable, param_send, arg_send}
use Rattle.thread_safety.proofs.Jobs.{end_send}
use Rattle.test_serve.proofs.Threads.{thread_send}
use Rattle.test_serve.proofs.spawner.StagedSpawnerSpawnerStagedJob.start.Goals as goal

pub start-requires-send-W : goal.start-requires-send-W
start-requires-send-W g c κs within = let handle : IsSend (copied 0 g.row.R) = search (sendable, c.requires) depth 10 in
    let p = c.parts_are_sent.ensures in
    param_send 0 _ (arg_send _ no _ (thread_send p.link p.folder p.shared_folder p.disk p.shared_disk p.clock p.gate (copied 0 g.row.R) handle))

pub start-requires-send-W-End : goal.start-requires-send-W-End
start-requires-send-W-End g c κs within = let p = c.parts_are_sent.ensures in
    param_send 2 _ (arg_send _ no _ (end_send _ _ _ _ _ p.link p.folder p.disk))
