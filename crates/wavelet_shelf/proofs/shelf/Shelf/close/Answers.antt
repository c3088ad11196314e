use Rattle.std.proofs.Common.{IfSome, sym, subst}
use Rattle.wavelet_shelf.specs.Folders.{IsStill}
use Rattle.wavelet_shelf.proofs.Returning.{apart_in, back_of, stored_of, others_of}
use Rattle.wavelet_shelf.proofs.shelf.Shelf.close.Goals as goal

pub returns-clause-back : goal.returns-clause-back
returns-clause-back g c told apart n =
    let s = c.args.self.containers in
    back_of g.F.Folder c.put_all.new.folder s.map.entries n (c.put_all.ensures.back.back told (apart_in g.F.Folder s.map.entries s.in_order.0 apart))

pub returns-clause-stored : goal.returns-clause-stored
returns-clause-stored g c kept settled apart n =
    let s = c.args.self.containers in
    stored_of g.F.Folder c.put_all.new.folder s.map.entries n s.in_order settled (c.put_all.ensures.back.back kept.told (apart_in g.F.Folder s.map.entries s.in_order.0 apart))

pub returns-clause-others : goal.returns-clause-others
returns-clause-others g c told = others_of g.F.Folder c.args.self c.in_ok-folder.folder c.put_all.new.folder c.in_ok-folder.was (λ m apart. c.put_all.ensures.back.others told m apart)

pub returns-clause-still : goal.returns-clause-still
returns-clause-still g c = subst (λ o. IfSome o (λ f. IsStill g.F.Folder f c.put_all.new.folder)) (sym c.in_ok-folder.was) c.put_all.ensures.back.still
