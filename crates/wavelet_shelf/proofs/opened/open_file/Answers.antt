use Rattle.std.proofs.lemmas.Result.{IfOk-weaker, IfErr-weaker}
use Rattle.wavelet_shelf.proofs.Opening.{opened_before, unopened_before}
use Rattle.wavelet_shelf.proofs.opened.open_file.Goals as goal

pub returns-in-Ok-Some-clause-ok : goal.returns-in-Ok-Some-clause-ok
returns-in-Ok-Some-clause-ok g c = IfOk-weaker c.open_as.result _ _ (λ o opened. opened_before c.args.file.now (g.K.Disk.view c.args.disk) (g.K.Disk.view c.stored_name.new.disk) c.stored_name.ensures.read o opened) c.open_as.ensures.ok

pub returns-in-Ok-Some-clause-err : goal.returns-in-Ok-Some-clause-err
returns-in-Ok-Some-clause-err g c = IfErr-weaker c.open_as.result _ _ (λ r unopened. unopened_before c.args.file.now (g.K.Disk.view c.args.disk) (g.K.Disk.view c.stored_name.new.disk) c.stored_name.ensures.read r unopened) c.open_as.ensures.err
