use Rattle.wavelet_shelf.proofs.Shelving.{apart_after}
use Rattle.wavelet_shelf.proofs.shelf.Shelf.submit.Goals as goal

pub returns-clause-apart : goal.returns-clause-apart
returns-clause-apart g c apart alone = apart_after c.args.self.now c.answer.new.self c.args.name.now c.args.submission.now c.args.time c.answer.ensures.others apart alone
