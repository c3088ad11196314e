use Rattle.wavelet_shelf.proofs.Still.{used_there}
use Rattle.wave_program.proofs.Piping.{not_store}
use Rattle.wave_program.proofs.pipe.serve.Goals as goal

pub returns-clause-known : goal.returns-clause-known
returns-clause-known g c = not_store _ _ _ _ _ c.requires.plain (used_there g.F.Folder _ _ _ c.serve_over-shelf.ensures.over.moved.used) c.serve_over-shelf.ensures.store_failed c.serve_over-shelf.ensures.known
