use Rattle.std.proofs.Common.{◌≡◌, ℕ, List, Some, rules, ap, inl, inr}
use Rattle.command_words.specs.Shown.{shown}
use Rattle.wave_program.proofs.Completing.{complete_run, complete_as, serving_plain, not_five, unloaded_complete}
use Rattle.wave_program.proofs.LoadWords.{same_service}
use Rattle.wave_program.specs.Services.{service_of}
use Rattle.wave_program.specs.declared.service.Service.{Service}
use Rattle.wave_program.specs.declared.service.Service.TheVariants.{Lines, Play, Inbox}
use Rattle.wave_program.proofs.local.obey.Goals as goal

pub tell_load-requires : goal.tell_load-requires
tell_load-requires g c = search rules

pub returns-in-Pipe-None-clause-complete : goal.returns-in-Pipe-None-clause-complete
returns-in-Pipe-None-clause-complete g c = λ named source sink.
    complete_run g.C.Clock _ _ _ _ _ _ c.serve.result (λ e. source (c.serve.ensures.source_failed e)) (λ e. sink (c.serve.ensures.sink_failed e)) (not_five c.serve.result c.serve.ensures.known) c.serve.ensures.served
    (serving_plain c.serve.result c.serve.ensures.known)

pub returns-in-Pipe-Some-clause-stored_complete : goal.returns-in-Pipe-Some-clause-stored_complete
returns-in-Pipe-Some-clause-stored_complete g c = λ path service named folder_tells disk_tells legal source sink folder.
    elim (c.serve_stored.ensures.stored folder_tells disk_tells) [
      | inl r ↦ complete_as g.F.Folder g.F.Disk.Disk g.C.Clock Lines _ _ _ _ _ _ _ _ c.serve_stored.result (λ e. source (c.serve_stored.ensures.source_failed e)) (λ e. sink (c.serve_stored.ensures.sink_failed e)) (λ e. folder (c.serve_stored.ensures.store_failed e)) r
      | inr u ↦ unloaded_complete g.F.Folder g.F.Disk.Disk _ c.args.folder.now c.serve_stored.new.folder _ _ _ _ _ _ c.serve_stored.result (ap g.S.Source.left u.0) legal
          (λ e. folder (c.serve_stored.ensures.store_failed e)) u.1
    ]

pub returns-in-Play-clause-stored_complete : goal.returns-in-Play-clause-stored_complete
returns-in-Play-clause-stored_complete g c = λ path service named folder_tells disk_tells legal source sink folder.
    elim (c.serve_stored-in-Play.ensures.stored folder_tells disk_tells) [
      | inl r ↦ complete_as g.F.Folder g.F.Disk.Disk g.C.Clock (Play c.in-Play.wavelet) _ _ _ c.args.clock.now _ _ _ _ c.serve_stored-in-Play.result (λ e. source (c.serve_stored-in-Play.ensures.source_failed e)) (λ e. sink (c.serve_stored-in-Play.ensures.sink_failed e)) (λ e. folder (c.serve_stored-in-Play.ensures.store_failed e)) r
      | inr u ↦ unloaded_complete g.F.Folder g.F.Disk.Disk _ c.args.folder.now c.serve_stored-in-Play.new.folder _ _ _ _ _ _ c.serve_stored-in-Play.result (ap g.S.Source.left u.0) legal
          (λ e. folder (c.serve_stored-in-Play.ensures.store_failed e)) u.1
    ]

pub returns-in-Inbox-clause-stored_complete : goal.returns-in-Inbox-clause-stored_complete
returns-in-Inbox-clause-stored_complete g c = λ path service named folder_tells disk_tells legal source sink folder.
    elim (c.serve_stored-in-Inbox.ensures.stored folder_tells disk_tells) [
      | inl r ↦ complete_as g.F.Folder g.F.Disk.Disk g.C.Clock (Inbox c.in-Inbox.user) _ _ _ c.args.clock.now _ _ _ _ c.serve_stored-in-Inbox.result (λ e. source (c.serve_stored-in-Inbox.ensures.source_failed e)) (λ e. sink (c.serve_stored-in-Inbox.ensures.sink_failed e)) (λ e. folder (c.serve_stored-in-Inbox.ensures.store_failed e)) r
      | inr u ↦ unloaded_complete g.F.Folder g.F.Disk.Disk _ c.args.folder.now c.serve_stored-in-Inbox.new.folder _ _ _ _ _ _ c.serve_stored-in-Inbox.result (ap g.S.Source.left u.0) legal
          (λ e. folder (c.serve_stored-in-Inbox.ensures.store_failed e)) u.1
    ]

pub returns-in-Pipe-Some-clause-stored : goal.returns-in-Pipe-Some-clause-stored
returns-in-Pipe-Some-clause-stored g c path service named folder_tells tells =
    let is : (path, service) ≡ (c.in-Pipe-Some.path.now, Lines) = same_service (service_of (Some (shown c.args.command))) (path, service) (c.in-Pipe-Some.path.now, Lines) named (search rules) in
    rw (ap (λ (p : List ℕ × Service). p.0) is, ap (λ (p : List ℕ × Service). p.1) is) (c.serve_stored.ensures.stored folder_tells tells)
