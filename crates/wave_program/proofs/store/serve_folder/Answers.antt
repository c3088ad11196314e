use Rattle.std.proofs.Common.{◌≡◌, ◌∙◌, ap, refl, Some, inl, inr}
use Rattle.wavelet_shelf.specs.Shelves.{in_folder}
use Rattle.wave_program.proofs.Storing.{stored_as, unloaded_run, never_read, all_held, folder_rose}
use Rattle.wave_program.proofs.store.serve_folder.Goals as goal

pub returns-clause-stored : goal.returns-clause-stored
returns-clause-stored g c = λ folder_tells tells.
    let is : in_folder c.over-shelf.result ≡ Some c.args.folder.now = c.over-shelf.ensures.folder ∙ ap (λ f. Some f) c.replace.ensures.value in
    elim c.serve_shelf-shelf.ensures.run [
      | inl r ↦ inl (stored_as g.F.Folder g.F.Disk.Disk g.C.Clock c.args.service c.over-shelf.result c.serve_shelf-shelf.result.0 c.args.folder.now c.put_back.new.folder c.args.clock.now _ _ _ _ c.serve_shelf-shelf.result.1
          folder_tells tells is (all_held g.F.Folder g.F.Disk.Disk g.C.Clock c.sent_is_held.ensures) r c.put_back.ensures)
      | inr u ↦ inr (u.0, unloaded_run g.F.Folder g.F.Disk.Disk g.C.Clock c.over-shelf.result c.serve_shelf-shelf.result.0 c.args.folder.now c.put_back.new.folder _ _ _ _ c.serve_shelf-shelf.result.1 folder_tells tells is u.1 c.put_back.ensures)
    ]

pub returns-in_default-clause-stored : goal.returns-in_default-clause-stored
returns-in_default-clause-stored g c = λ folder_tells tells.
    inr (refl, never_read g.F.Folder g.F.Disk.Disk g.C.Clock _ c.args.folder.now c.args.folder.now (g.W.Sink.written c.args.sink.now) _ _ 8 (inr refl) (λ m. refl) (inl refl))

pub returns-clause-store_failed : goal.returns-clause-store_failed
returns-clause-store_failed g c = λ five.
    let is : in_folder c.over-shelf.result ≡ Some c.args.folder.now = c.over-shelf.ensures.folder ∙ ap (λ f. Some f) c.replace.ensures.value in
    folder_rose g.F.Folder g.F.Disk.Disk g.C.Clock c.over-shelf.result c.serve_shelf-shelf.result.0 c.args.folder.now c.put_back.new.folder is c.over-shelf.ensures.empty c.put_back.ensures (c.serve_shelf-shelf.ensures.store_failed five)
