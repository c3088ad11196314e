use Rattle.std.proofs.lemmas.Result.{on_ok_weaker}
use Rattle.wavelet_shelf.proofs.Parting.{added_to}
use Rattle.wavelet_shelf.proofs.divide.add_to.Goals as goal

pub returns-clause-added : goal.returns-clause-added
returns-clause-added g c =
    let shelves = c.args.shelves.now in
    on_ok_weaker c.add.result
    (λ put. added_to c.args.name c.args.filed shelves c.shard-place.result c.index-shelves-place.result c.add.new.self c.requires.sixteen c.shard-place.ensures c.index-shelves-place.is put c.add.ensures.folder)
    c.add.ensures.put
