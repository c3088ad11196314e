use Rattle.std.proofs.Common.{◌≡◌, ◌∙◌, ap, arith, inl, inr, refl, Err, IsTrue}
use Rattle.wave_outside.specs.Folders.{FolderLog, entered}
use Rattle.wave_outside.specs.declared.folder.FolderFault.{FolderFault}
use Rattle.wave_server.proofs.Ran.{run_none}
use Rattle.wave_program.specs.Store.{entered_at}
use Rattle.wave_program.proofs.Hosting.{hosted_unread}
use Rattle.wave_program.proofs.Serving.{same_from, left_from}
use Rattle.wave_program.proofs.Storing.{same_unloaded}
use Rattle.wave_program.proofs.net.serve_path.Goals as goal

-- it was entered
pub returns-in-Ok : goal.returns-in-Ok
returns-in-Ok g c =
    let path = c.args.path.now in
    let old = c.args.outside.now.folder in
    let here = c.enter.new.self in
    let after = c.serve_folder.new.outside in
    let h = c.serve_folder.ensures.hosted in
    let logged : IsTrue g.F.Folder.tells → (g.F.Folder.log here).entries ≡ entered_at g.F.Folder path old = λ folder_tells. ap (λ (l : FolderLog). l.entries) (c.in-Ok.ensures.log folder_tells) in
    record {
      run = c.serve_folder.ensures.run;
      hosted = record {
        entered = λ folder_tells. elim (h.entered folder_tells) [ inl e ↦ inl (e ∙ logged folder_tells) | inr e ↦ inl (e.1 ∙ logged folder_tells) ];
        stored = λ folder_tells tells.
            same_from g.F.Folder g.F.Disk.Disk g.C.Clock c.args.domain (entered_at g.F.Folder path old) old here after.folder after.server.passes
            (c.enter.ensures.files folder_tells) (logged folder_tells) (h.stored folder_tells tells);
        unloaded = λ folder_tells tells known.
            same_unloaded g.F.Folder g.F.Disk.Disk g.C.Clock (entered_at g.F.Folder path old) old here after.folder _ _ _ _ c.serve_folder.result
            (c.enter.ensures.files folder_tells) (logged folder_tells) (h.unloaded folder_tells tells known);
        left = λ folder_tells tells none. left_from g.F.Folder g.F.Disk.Disk old here after.folder (c.enter.ensures.files folder_tells) (h.left folder_tells tells none);
        silent = h.silent;
        store_failed = λ five. let rose = h.store_failed five in omega (arith, rose, c.enter.ensures.later);
        known = h.known;
      };
      source = c.serve_folder.ensures.source;
    }

-- it can't be
pub returns-in-Err-Failed : goal.returns-in-Err-Failed
returns-in-Err-Failed g c =
    let old = c.args.outside.now.folder in
    let is : (entered (Err c.in-Err-Failed.field-0) c.args.path.now (g.F.Folder.log old)).entries ≡ entered_at g.F.Folder c.args.path.now old =
    ap (λ (f : FolderFault). (entered (Err f) c.args.path.now (g.F.Folder.log old)).entries) c.in-Err-Failed.field-0-is in
    record {
      run = run_none g.N.Net g.N.Link.Link _ _ _ _ c.args.outside.now.server.net c.args.outside.now.server.net _ _ _ _ _ _ _ 5 c.requires.empty.2 c.requires.empty.1 refl (λ seven. absurd (omega (arith, seven))) (omega arith) (omega arith);
      hosted = hosted_unread g.F.Folder g.F.Disk.Disk g.W.Sink g.C.Clock c.args.domain _ c.args.outside.now.server.passes old c.enter.new.self _ 5 c.requires.empty.2 (inl refl)
          c.enter.ensures.files (λ folder_tells. inl (ap (λ (l : FolderLog). l.entries) (c.in-Err-Failed.ensures.log folder_tells) ∙ is))
          (λ five. c.in-Err-Failed.ensures.failed c.in-Err-Failed.field-0-is);
      source = refl;
    }

pub returns : goal.returns
returns g c =
    let old = c.args.outside.now.folder in
    let is : (entered (Err c.in-Err-Memory.field-0) c.args.path.now (g.F.Folder.log old)).entries ≡ (g.F.Folder.log old).entries =
    ap (λ (f : FolderFault). (entered (Err f) c.args.path.now (g.F.Folder.log old)).entries) c.in-Err-Memory.field-0-is in
    record {
      run = run_none g.N.Net g.N.Link.Link _ _ _ _ c.args.outside.now.server.net c.args.outside.now.server.net _ _ _ _ _ _ _ 8 c.requires.empty.2 c.requires.empty.1 refl (λ seven. absurd (omega (arith, seven))) (omega arith) (omega arith);
      hosted = hosted_unread g.F.Folder g.F.Disk.Disk g.W.Sink g.C.Clock c.args.domain _ c.args.outside.now.server.passes old c.enter.new.self _ 8 c.requires.empty.2 (inr refl)
          c.enter.ensures.files (λ folder_tells. inr (refl, ap (λ (l : FolderLog). l.entries) (c.in-Err-Memory.ensures.log folder_tells) ∙ is))
          (λ five. absurd (omega (arith, five)));
      source = refl;
    }
