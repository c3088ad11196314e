use Rattle.host_restart.proofs.Hosts.{taken, images_are}
use Rattle.host_restart.proofs.take.Goals as goal

pub returns-clause-host : goal.returns-clause-host
returns-clause-host g c name events is m =
    taken name events c.args.submission.now c.args.time c.args.host.now c.submit.new.self c.submit.result is m c.submit.ensures.grown c.submit.ensures.same c.submit.ensures.stored c.submit.ensures.done c.submit.ensures.left_over

pub returns-clause-images : goal.returns-clause-images
returns-clause-images g c name events is = images_are name events c.args.submission.now c.args.time c.args.host.now c.submit.new.self is c.submit.ensures.any_moment
