use Rattle.std.proofs.lemmas.Result.{IfOk-weaker}
use Rattle.host_restart.proofs.Hosts.{loaded}
use Rattle.host_restart.proofs.Restarts.{image_means}
use Rattle.host_restart.proofs.come_back.Goals as goal

pub returns : goal.returns
returns g c told events left o a t image =
    let m = image_means c.args.name events left o (g.K.Disk.view c.args.disk).seen a t image in
    let held = IfOk-weaker c.load.result _ _ (λ x h. h told) c.load.ensures.held in
    loaded c.load.result _ c.args.name events m.history m.reached m.once c.load.ensures.name held c.load.ensures.whole (c.load.ensures.again told m.history m.stands)
