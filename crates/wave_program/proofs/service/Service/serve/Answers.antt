use Rattle.wavelet_shelf.proofs.Still.{used_there}
use Rattle.wave_program.proofs.Asking.{serving_commands}
use Rattle.wave_program.proofs.Piping.{some_rose}
use Rattle.wave_program.proofs.service.Service.serve.Goals as goal

pub returns-in-Lines-clause-folder : goal.returns-in-Lines-clause-folder
returns-in-Lines-clause-folder g c = (used_there g.F.Folder _ _ _ c.serve_over.ensures.over.moved.used).0 c.requires

pub returns-in-Lines-clause-store_failed : goal.returns-in-Lines-clause-store_failed
returns-in-Lines-clause-store_failed g c = λ five. some_rose _ _ _ _ c.requires (used_there g.F.Folder _ _ _ c.serve_over.ensures.over.moved.used) (c.serve_over.ensures.store_failed five)

pub returns-in-Play-clause-known : goal.returns-in-Play-clause-known
returns-in-Play-clause-known g c = serving_commands c.play_over-status.result c.play_over-status.ensures.known

pub returns-in-Inbox-clause-known : goal.returns-in-Inbox-clause-known
returns-in-Inbox-clause-known g c = serving_commands c.inbox_over-status.result c.inbox_over-status.ensures.known
