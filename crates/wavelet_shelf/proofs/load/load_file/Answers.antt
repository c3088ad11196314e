use Rattle.std.proofs.Common.{◌≡◌, Some, Err, refl, sym, ap, subst, ◌∙◌}
use Rattle.wavelet_container.specs.declared.fault.LoadFault.TheVariants.{Damaged}
use Rattle.wavelet_shelf.specs.Entries.{HaveRoom}
use Rattle.wavelet_shelf.specs.Folders.{IsFileStep}
use Rattle.wavelet_shelf.specs.Loads.{IsOpened, IsOpenedAs}
use Rattle.wavelet_shelf.specs.declared.filed.Filed.{Filed}
use Rattle.wavelet_shelf.proofs.Opening.{step_read, step_refused, keeps_room, damage_as}
use Rattle.wavelet_shelf.proofs.Shelving.{put_from, fit_put, room_kept}
use Rattle.wavelet_shelf.proofs.Still.{still_used, still_on}
use Rattle.wavelet_shelf.proofs.load.load_file.Goals as goal

pub returns-in-Err-clause-room : goal.returns-in-Err-clause-room
returns-in-Err-clause-room g c =
    let room = g.F.Folder.room in
    let old = c.args.folder.now in
    let new = c.file.new.self in
    subst (HaveRoom (room new)) (sym c.reserve.ensures.same) (room_kept room old new c.args.containers.now.map.entries (keeps_room (room old) (room new) c.args.name.now c.file.ensures.other_room c.file.ensures.room_stays) c.requires.room)

pub returns-in-Ok-Read-clause-room : goal.returns-in-Ok-Read-clause-room
returns-in-Ok-Read-clause-room g c =
    let room = g.F.Folder.room in
    let old = c.args.folder.now in
    let new = c.file.new.self in
    let filed : Filed g.row.F-Disk.Denot g.F.Disk.Disk = record { file = c.in_ok-file.file; container = c.in-Ok-Read.container } in
    let there = subst (HaveRoom (room new)) (sym c.reserve.ensures.same) (room_kept room old new c.args.containers.now.map.entries (keeps_room (room old) (room new) c.args.name.now c.file.ensures.other_room c.file.ensures.room_stays) c.requires.room) in
    let opened : IsOpenedAs c.args.name.now (g.F.Disk.Disk.view c.in-Ok.disk) c.in-Ok-Read.key c.in-Ok-Read.container = subst (IsOpened c.args.name.now (g.F.Disk.Disk.view c.in-Ok.disk)) c.in-Ok-Read.field-0-is c.in-Ok-Read.ensures.ok in
    fit_put room (Some new) c.reserve.new.self.map.entries c.put.new.self.map.entries c.in-Ok-Read.key filed c.put.ensures (ap (room new) opened.own.file_is ∙ c.in-Ok.ensures.out) there

pub returns-in-Ok-Read-clause-step : goal.returns-in-Ok-Read-clause-step
returns-in-Ok-Read-clause-step g c =
    let es = c.args.containers.now.map.entries in
    let filed : Filed g.row.F-Disk.Denot g.F.Disk.Disk = record { file = c.in_ok-file.file; container = c.in-Ok-Read.container } in
    let opened : IsOpenedAs c.args.name.now (g.F.Disk.Disk.view c.in-Ok.disk) c.in-Ok-Read.key c.in-Ok-Read.container = subst (IsOpened c.args.name.now (g.F.Disk.Disk.view c.in-Ok.disk)) c.in-Ok-Read.field-0-is c.in-Ok-Read.ensures.ok in
    step_read g.F.Folder c.args.folder.now c.args.name.now es c.requires.there c.file.new.self (g.F.Disk.Disk.view c.in-Ok.disk) c.put.new.self.map.entries c.in-Ok-Read.key c.in-Ok-Read.container filed refl c.in_ok-file.ensures.ok
    (λ told. c.in-Ok.ensures.given (c.file.ensures.told told))
    (λ told. c.file.ensures.others (c.file.ensures.told told))
    c.file.ensures.later
    opened
    (put_from es c.reserve.new.self.map.entries c.put.new.self.map.entries c.in-Ok-Read.key c.in-Ok-Read.key filed c.reserve.ensures.same refl c.put.ensures)

pub returns-in-Ok-Passed-clause-room : goal.returns-in-Ok-Passed-clause-room
returns-in-Ok-Passed-clause-room g c =
    let room = g.F.Folder.room in
    let old = c.args.folder.now in
    let new = c.file.new.self in
    let last = c.put-in-Ok-Passed.new.self in
    let there = room_kept room old new c.args.containers.now.map.entries (keeps_room (room old) (room new) c.args.name.now c.file.ensures.other_room c.file.ensures.room_stays) c.requires.room in
    subst (HaveRoom (room last)) (sym c.reserve.ensures.same) (room_kept room new last c.args.containers.now.map.entries (λ l e. c.put-in-Ok-Passed.ensures.room l ∙ e) there)

pub returns-in-Err-open_file-clause-room : goal.returns-in-Err-open_file-clause-room
returns-in-Err-open_file-clause-room g c =
    let room = g.F.Folder.room in
    let old = c.args.folder.now in
    let new = c.file.new.self in
    let last = c.put-in-Err-open_file.new.self in
    let there = room_kept room old new c.args.containers.now.map.entries (keeps_room (room old) (room new) c.args.name.now c.file.ensures.other_room c.file.ensures.room_stays) c.requires.room in
    subst (HaveRoom (room last)) (sym c.reserve.ensures.same) (room_kept room new last c.args.containers.now.map.entries (λ l e. c.put-in-Err-open_file.ensures.room l ∙ e) there)

pub returns-in-Err-open_file-clause-step : goal.returns-in-Err-open_file-clause-step
returns-in-Err-open_file-clause-step g c =
    let es = c.args.containers.now.map.entries in
    let r = c.in-Err-open_file.refused in
    let put = c.put-in-Err-open_file.ensures in
    subst (λ l. IsFileStep g.F.Folder c.args.folder.now c.put-in-Err-open_file.new.self c.args.name.now es l (Err c.fault_in.result)) (sym c.reserve.ensures.same)
    (step_refused g.F.Folder c.args.folder.now c.args.name.now es c.requires.there c.file.new.self c.put-in-Err-open_file.new.self (g.F.Disk.Disk.view c.in-Ok.disk) r c.fault_in.result c.in-Ok.ensures.uncounted
    (λ told. c.in-Ok.ensures.given (c.file.ensures.told told))
    (λ told. c.file.ensures.others (c.file.ensures.told told))
    c.file.ensures.later
    c.in-Err-open_file.ensures.err
    (λ told. put.there (put.told told))
    (λ told. put.others (put.told told))
    put.counted
    (damage_as _ _ _ (λ offset. r.fault ≡ Damaged offset) c.in_ok-file.ensures.ok c.fault_in.ensures.damaged)
    (λ is. c.fault_in.ensures.failed is))

pub returns-in-Err-clause-still : goal.returns-in-Err-clause-still
returns-in-Err-clause-still g c = still_used g.F.Folder c.args.folder.now c.file.new.self c.file.ensures.log

pub returns-in-Ok-Read-clause-still : goal.returns-in-Ok-Read-clause-still
returns-in-Ok-Read-clause-still g c = still_used g.F.Folder c.args.folder.now c.file.new.self c.file.ensures.log

pub returns-in-Ok-Passed-clause-still : goal.returns-in-Ok-Passed-clause-still
returns-in-Ok-Passed-clause-still g c =
    let first = still_used g.F.Folder c.args.folder.now c.file.new.self c.file.ensures.log in
    still_on g.F.Folder c.args.folder.now c.file.new.self c.put-in-Ok-Passed.new.self first (still_used g.F.Folder c.file.new.self c.put-in-Ok-Passed.new.self c.put-in-Ok-Passed.ensures.log)

pub returns-in-Err-open_file-clause-still : goal.returns-in-Err-open_file-clause-still
returns-in-Err-open_file-clause-still g c =
    let first = still_used g.F.Folder c.args.folder.now c.file.new.self c.file.ensures.log in
    still_on g.F.Folder c.args.folder.now c.file.new.self c.put-in-Err-open_file.new.self first (still_used g.F.Folder c.file.new.self c.put-in-Err-open_file.new.self c.put-in-Err-open_file.ensures.log)
