use Rattle.host_restart.proofs.Hosts.{started}
use Rattle.host_restart.proofs.begin.Goals as goal

pub returns : goal.returns
returns g c = started c.start.result _ c.args.name c.start.ensures.name c.start.ensures.empty c.start.ensures.held c.start.ensures.whole
