use denote.Exit.{no}
use denote.Param.{copied}
use denote.Param.Send.{IsSend, sendable, param_send, arg_send}
use Rattle.thread_safety.proofs.Jobs.{end_send}
use Rattle.wave.proofs.Sent.{disk_send, folder_send, thread_send}
use Rattle.wave.proofs.spawner.SessionSpawnerSpawnerRealJob.start.Goals as goal

pub start-requires-send-W : goal.start-requires-send-W
start-requires-send-W g c κs within = let handle : IsSend (copied 0 g.row.R) = search (sendable, c.requires) depth 10 in
    param_send 0 _ (arg_send _ no _ (thread_send c.links_are_sent.ensures.link c.links_are_sent.ensures.gate (copied 0 g.row.R) handle))

pub start-requires-send-W-End : goal.start-requires-send-W-End
start-requires-send-W-End g c κs within = param_send 2 _ (arg_send _ no _ (end_send _ _ _ _ _ c.links_are_sent.ensures.link folder_send disk_send))
