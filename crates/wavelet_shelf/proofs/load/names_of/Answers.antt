use Rattle.std.proofs.Common.{IsSome, map, string_bytes, sym, subst, ◌∙◌}
use Rattle.wavelet_shelf.proofs.Among.{among_of_get, all_among, each_among}
use Rattle.wavelet_shelf.proofs.Still.{still_used}
use Rattle.wavelet_shelf.proofs.load.names_of.Goals as goal

pub returns-in-Ok-clause-there : goal.returns-in-Ok-clause-there
returns-in-Ok-clause-there g c told =
    let tells = c.names.ensures.told told in
    all_among (λ n. IsSome (g.F.Folder.files c.names.new.self n)) (map string_bytes c.in_order.result.items)
    (λ m among. subst (λ o. IsSome o) (sym (c.names.ensures.files tells m)) (each_among (λ n. IsSome (g.F.Folder.files c.args.folder.now n)) (map string_bytes c.in-Ok.names.items) (c.in-Ok.ensures.names tells).each m (sym (c.in_order.ensures.same m) ∙ among)))

pub returns-in-Ok-clause-all : goal.returns-in-Ok-clause-all
returns-in-Ok-clause-all g c told m there =
    let place = (c.in-Ok.ensures.names (c.names.ensures.told told)).all m there in
    c.in_order.ensures.same m ∙ among_of_get (map string_bytes c.in-Ok.names.items) place.0 m place.1

pub returns-in-Ok-clause-still : goal.returns-in-Ok-clause-still
returns-in-Ok-clause-still g c = still_used g.F.Folder c.args.folder.now c.names.new.self c.names.ensures.log

pub returns-in-Err-clause-still : goal.returns-in-Err-clause-still
returns-in-Err-clause-still g c = still_used g.F.Folder c.args.folder.now c.names.new.self c.names.ensures.log
