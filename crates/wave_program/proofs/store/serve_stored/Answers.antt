use Rattle.std.proofs.Common.{◌≡◌, ◌∙◌, ap, refl, inl, inr, Err}
use Rattle.wave_outside.specs.Folders.{FolderLog, entered}
use Rattle.wave_outside.specs.declared.folder.FolderFault.{FolderFault}
use Rattle.wave_program.specs.Store.{entered_at}
use Rattle.wave_program.proofs.Storing.{same_as, same_unloaded, never_read}
use Rattle.wave_program.proofs.store.serve_stored.Goals as goal

pub returns-in-Ok-clause-stored : goal.returns-in-Ok-clause-stored
returns-in-Ok-clause-stored g c = λ folder_tells tells.
    let same = c.enter.ensures.files folder_tells in
    let e = c.enter.new.self in
    let into : (g.F.Folder.log e).entries ≡ entered_at g.F.Folder c.args.path.now c.args.folder.now = ap (λ (l : FolderLog). l.entries) (c.in-Ok.ensures.log folder_tells) in
    elim (c.serve_folder.ensures.stored folder_tells tells) [
      | inl r ↦ inl (same_as g.F.Folder g.F.Disk.Disk g.C.Clock c.args.service (entered_at g.F.Folder c.args.path.now c.args.folder.now) c.args.folder.now e c.serve_folder.new.folder c.args.clock.now _ _ _ _ c.serve_folder.result same into r)
      | inr u ↦ inr (u.0, same_unloaded g.F.Folder g.F.Disk.Disk g.C.Clock (entered_at g.F.Folder c.args.path.now c.args.folder.now) c.args.folder.now e c.serve_folder.new.folder _ _ _ _ c.serve_folder.result same into u.1)
    ]

pub returns-in-Err-Failed-clause-stored : goal.returns-in-Err-Failed-clause-stored
returns-in-Err-Failed-clause-stored g c = λ folder_tells tells.
    let is : (entered (Err c.in-Err-Failed.field-0) c.args.path.now (g.F.Folder.log c.args.folder.now)).entries ≡ entered_at g.F.Folder c.args.path.now c.args.folder.now = ap (λ (f : FolderFault). (entered (Err f) c.args.path.now (g.F.Folder.log c.args.folder.now)).entries) c.in-Err-Failed.field-0-is in
    inr (
      refl,
      never_read g.F.Folder g.F.Disk.Disk g.C.Clock (entered_at g.F.Folder c.args.path.now c.args.folder.now) c.args.folder.now c.enter.new.self (g.W.Sink.written c.args.sink.now) _ _ 5 (inl refl) (c.enter.ensures.files folder_tells)
          (inl (ap (λ (l : FolderLog). l.entries) (c.in-Err-Failed.ensures.log folder_tells) ∙ is)),
    )
