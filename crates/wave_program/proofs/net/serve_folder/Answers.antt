use Rattle.std.proofs.Common.{◌≡◌, ◌∙◌, ap, arith, inl, inr, refl, sym, subst, Some, Err, IsTrue}
use Rattle.wave_outside.specs.Folders.{FolderLog}
use Rattle.wavelet_shelf.specs.Shelves.{in_folder}
use Rattle.wavelet_shelf.specs.declared.fault.ShelfFault.{ShelfFault}
use Rattle.wave_server.proofs.Ran.{run_none}
use Rattle.wave_program.specs.Net.{AreLeft}
use Rattle.wave_program.specs.Store.{IsUnloaded}
use Rattle.wave_program.proofs.Hosting.{told_low, told_high, told_not, told_known, told_silent, not_five, not_told, hosted_unread}
use Rattle.wave_program.proofs.Serving.{none_there, served_from, left_before}
use Rattle.wave_program.proofs.Storing.{damage_told, still_closed, unloaded_run, folder_rose}
use Rattle.wave_program.proofs.net.serve_folder.Goals as goal

-- there is no memory for a folder in its place
pub returns-in_default : goal.returns-in_default
returns-in_default g c = record {
  run = run_none g.N.Net g.N.Link.Link _ _ _ _ c.args.outside.now.server.net c.args.outside.now.server.net _ _ _ _ _ _ _ 8 c.requires.empty.2 c.requires.empty.1 refl (λ seven. absurd (omega (arith, seven))) (omega arith) (omega arith);
  hosted = hosted_unread g.F.Folder g.F.Disk.Disk g.W.Sink g.C.Clock c.args.domain _ c.args.outside.now.server.passes c.args.outside.now.folder c.args.outside.now.folder _ 8 c.requires.empty.2 (inr refl)
      (λ folder_tells m. refl) (λ folder_tells. inl refl) (λ five. absurd (omega (arith, five)));
  source = refl;
}

-- the shelf is served
pub returns-in-Ok-load : goal.returns-in-Ok-load
returns-in-Ok-load g c =
    let is : in_folder c.over-shelf.result ≡ Some c.args.outside.now.folder = c.over-shelf.ensures.folder ∙ ap (λ f. Some f) c.replace.ensures.value in
    record {
      run = c.serve.ensures.run;
      hosted = record {
        entered = λ folder_tells. inl (ap (λ f. (g.F.Folder.log f).entries) c.replace.ensures.after ∙ ap (λ (l : FolderLog). l.entries) (c.in-Ok.ensures.log folder_tells));
        stored = λ folder_tells tells.
            served_from g.F.Folder g.F.Disk.Disk g.C.Clock c.args.domain c.over-shelf.result c.load.new.self c.args.outside.now.folder c.replace.new.dest c.serve.new.server.passes tells is
            (record {
              read = c.in-Ok-load.ensures.read;
              all = c.in-Ok-load.ensures.all;
              sound = c.in-Ok-load.ensures.sound;
              kept = c.in-Ok-load.ensures.kept;
              apart = c.in-Ok-load.ensures.apart;
              as_before = c.load.ensures.as_before;
              still = c.load.ensures.still;
              later = c.load.ensures.later;
            })
            (ap (λ f. (g.F.Folder.log f).entries) c.replace.ensures.after ∙ ap (λ (l : FolderLog). l.entries) (c.in-Ok.ensures.log folder_tells))
            c.serve.ensures.begun;
        unloaded = λ folder_tells tells known. not_told c.serve.result c.serve.ensures.known known;
        left = λ folder_tells tells none. subst (AreLeft g.F.Folder g.F.Disk.Disk c.args.outside.now.folder) (sym c.replace.ensures.after) (c.in-Ok.ensures.files folder_tells);
        silent = λ never. refl;
        store_failed = not_five c.serve.result c.serve.ensures.known;
        known = inl c.serve.ensures.known;
      };
      source = refl;
    }

-- it can't be loaded
pub returns-in-Err : goal.returns-in-Err
returns-in-Err g c =
    let is : in_folder c.over-shelf.result ≡ Some c.args.outside.now.folder = c.over-shelf.ensures.folder ∙ ap (λ f. Some f) c.replace.ensures.value in
    let status = c.tell-status.result in
    let told = c.tell-status.ensures.known in
    let unloaded : IsTrue g.F.Folder.tells → IsTrue g.F.Disk.Disk.tells → IsUnloaded g.F.Folder g.F.Disk.Disk (g.F.Folder.log c.args.outside.now.folder).entries c.args.outside.now.folder c.put_back.new.folder
    (g.W.Sink.written c.args.outside.now.sink) (g.W.Sink.written c.tell-status.new.sink) (g.W.Sink.faults c.args.outside.now.sink) (g.W.Sink.faults c.tell-status.new.sink) status = λ folder_tells tells.
    unloaded_run g.F.Folder g.F.Disk.Disk g.C.Clock c.over-shelf.result c.load.new.self c.args.outside.now.folder c.put_back.new.folder (g.W.Sink.written c.args.outside.now.sink) (g.W.Sink.written c.tell-status.new.sink)
    (g.W.Sink.faults c.args.outside.now.sink) (g.W.Sink.faults c.tell-status.new.sink) status folder_tells tells is
    (record {
      known = told;
      silent = λ s. ap g.W.Sink.written (c.tell-status.ensures.silent s);
      damaged = λ six. let d = c.tell-status.ensures.damaged six in damage_told _ _ _ d.0 d.1 c.in-Err.ensures.damaged;
      none = c.in-Err.ensures.none;
      as_before = c.load.ensures.as_before;
      still = c.load.ensures.still;
    })
    c.put_back.ensures in
    record {
      run = run_none g.N.Net g.N.Link.Link _ _ _ _ c.args.outside.now.server.net c.args.outside.now.server.net _ _ _ _ _ _ _ status c.requires.empty.2 c.requires.empty.1 refl (told_not status told) (told_low status told) (told_high status told);
      hosted = record {
        entered = λ folder_tells. inl (still_closed g.F.Folder g.F.Disk.Disk g.C.Clock c.over-shelf.result c.load.new.self c.args.outside.now.folder c.put_back.new.folder is c.load.ensures.still c.put_back.ensures.still folder_tells);
        stored = λ folder_tells tells. none_there _ _ c.requires.empty.2;
        unloaded = λ folder_tells tells known. unloaded folder_tells tells;
        left = λ folder_tells tells none. left_before g.F.Folder g.F.Disk.Disk c.args.outside.now.folder c.put_back.new.folder (unloaded folder_tells tells).as_before;
        silent = λ never. c.tell-status.ensures.silent (told_silent status told never);
        store_failed = λ five. folder_rose g.F.Folder g.F.Disk.Disk g.C.Clock c.over-shelf.result c.load.new.self c.args.outside.now.folder c.put_back.new.folder is c.over-shelf.ensures.empty c.put_back.ensures
            (c.in-Err.ensures.failed (ap (λ (f : ShelfFault). Err f) (c.tell-status.ensures.failed five)));
        known = told_known status told;
      };
      source = refl;
    }
