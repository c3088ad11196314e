use Rattle.std.proofs.Common.{refl}
use Rattle.wavelet_shelf.proofs.Shelving.{after_answer, fit_set}
use Rattle.wavelet_shelf.proofs.shelf.Shelf.answer.Goals as goal

pub invariant_of-self : goal.invariant_of-self
invariant_of-self g c =
    let a = c.args.self.now in
    let x = c.submit.ensures in
    record { fit = fit_set g.F.Folder.room a.folder a.containers.map.entries c.submit.new.self.map.entries c.args.name.now x.old x.new x.was x.is x.taken.plain a.fit }

pub returns-then-has : goal.returns-then-has
returns-then-has g c = after_answer c.args.self.now _ c.args.name.now c.args.submission.now c.args.time _ c.args.self.now.containers.in_order c.args.self.now.fit refl c.submit.ensures
