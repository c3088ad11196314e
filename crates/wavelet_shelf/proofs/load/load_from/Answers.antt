use Rattle.std.proofs.Common.{◌≡◌, true, map, string_bytes, sym, subst}
use Rattle.wavelet_shelf.specs.Folders.{is_among}
use Rattle.wavelet_shelf.proofs.Reading.{loaded_ok, loaded_err}
use Rattle.wavelet_shelf.proofs.Still.{still_on}
use Rattle.wavelet_shelf.proofs.load.load_from.Goals as goal

pub returns-in-Ok-load_all-clause-loaded : goal.returns-in-Ok-load_all-clause-loaded
returns-in-Ok-load_all-clause-loaded g c =
    loaded_ok g.F.Folder g.F.Disk.Disk c.args.folder.now c.names_of.new.folder c.names_of.ensures.files c.names_of.ensures.later c.load_all.new.folder c.load_all.new.containers.map.entries _
    (λ told m there. subst (λ l. is_among (map string_bytes l) m ≡ true) (sym c.as_slice.ensures.value) (c.in-Ok.ensures.all told m there))
    c.in-Ok-load_all.ensures.step

pub returns-in-Ok-clause-loaded : goal.returns-in-Ok-clause-loaded
returns-in-Ok-clause-loaded g c =
    loaded_err g.F.Folder g.F.Disk.Disk c.args.folder.now c.names_of.new.folder c.names_of.ensures.files c.names_of.ensures.later c.load_all.new.folder c.put_all.new.folder c.load_all.new.containers.map.entries c.put_all.new.containers.map.entries _ c.in-Err-load_all.fault
    (λ told m there. subst (λ l. is_among (map string_bytes l) m ≡ true) (sym c.as_slice.ensures.value) (c.in-Ok.ensures.all told m there))
    c.load_all.new.containers.in_order.0
    c.in-Err-load_all.ensures.step c.put_all.ensures.back c.put_all.ensures.empty

pub returns-in-Ok-load_all-clause-still : goal.returns-in-Ok-load_all-clause-still
returns-in-Ok-load_all-clause-still g c = still_on g.F.Folder c.args.folder.now c.names_of.new.folder c.load_all.new.folder c.names_of.ensures.still c.load_all.ensures.still

pub returns-in-Ok-clause-still : goal.returns-in-Ok-clause-still
returns-in-Ok-clause-still g c =
    let first = still_on g.F.Folder c.args.folder.now c.names_of.new.folder c.load_all.new.folder c.names_of.ensures.still c.load_all.ensures.still in
    still_on g.F.Folder c.args.folder.now c.load_all.new.folder c.put_all.new.folder first c.put_all.ensures.back.still
