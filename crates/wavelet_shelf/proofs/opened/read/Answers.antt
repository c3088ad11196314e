use Rattle.wavelet_shelf.proofs.Opening.{opened_of, unopened_of}
use Rattle.wavelet_shelf.proofs.opened.read.Goals as goal

pub returns-in-Ok-load-clause-ok : goal.returns-in-Ok-load-clause-ok
returns-in-Ok-load-clause-ok g c m own header = opened_of m (g.K.Disk.view c.args.disk) c.args.name c.in-Ok.key c.in-Ok-load.container c.in-Ok.ensures c.in-Ok-load.ensures.name c.in-Ok-load.ensures.exact c.in-Ok-load.ensures.held c.in-Ok-load.ensures.whole c.in-Ok-load.ensures.synced c.in-Ok-load.ensures.read own header

pub returns-in-Err-clause-err : goal.returns-in-Err-clause-err
returns-in-Err-clause-err g c m own header = unopened_of m (g.K.Disk.view c.args.disk) c.args.name c.in-Err.refused c.in-Err.ensures.damaged c.in-Err.ensures.handed_back c.in-Err.ensures.failed own header
