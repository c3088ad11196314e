use Rattle.std.proofs.Common.{◌≡◌, ◌∙◌}
use Rattle.wavelet_shelf.specs.FileNames.{shard_of}
use Rattle.shard_marks.specs.Passes.{marks_of}
use Rattle.shard_marks.specs.Marks.{shown_at}
use Rattle.session_hub.specs.Hubs.{server_of}
use Rattle.session_steps.proofs.Growing.{turned_grow}
use Rattle.session_steps.proofs.Replying.{noted_about, have_done, call_halted}
use Rattle.session_link.proofs.Quiet.{noted_sent, noted_quiet}
use Rattle.session_link.proofs.replies.have.Goals as goal

pub returns-in-Ok-clause-later : goal.returns-in-Ok-clause-later
returns-in-Ok-clause-later g c = turned_grow _ _ _ c.have-noted.ensures.turned

pub returns-in-Ok-clause-client : goal.returns-in-Ok-clause-client
returns-in-Ok-clause-client g c =
    (noted_about (server_of c.args.hub.now) c.args.client.now.session c.have-noted.new.session _
    (shown_at c.args.hub.now.domain (shard_of c.args.name.now) (marks_of c.have-noted.new.passes (shard_of c.args.name.now)))
    c.args.name.now c.args.from.now c.requires.client c.requires.peer c.in-Ok.ensures.after c.note_opened.ensures.session).session

pub returns-in-Ok-clause-sent : goal.returns-in-Ok-clause-sent
returns-in-Ok-clause-sent g c =
    noted_sent (server_of c.args.hub.now) c.args.client.now.session c.args.name.now _ c.shard-shard.ensures _ _ _ _ c.note_opened.ensures.noted _
    (noted_about (server_of c.args.hub.now) c.args.client.now.session c.have-noted.new.session _
    (shown_at c.args.hub.now.domain (shard_of c.args.name.now) (marks_of c.have-noted.new.passes (shard_of c.args.name.now)))
    c.args.name.now c.args.from.now c.requires.client c.requires.peer c.in-Ok.ensures.after c.note_opened.ensures.session)
    (marks_of c.args.passes.now) (marks_of c.have-noted.new.passes) (turned_grow _ _ _ c.have-noted.ensures.turned) c.requires.sent

pub returns-in-Ok-clause-quiet : goal.returns-in-Ok-clause-quiet
returns-in-Ok-clause-quiet g c =
    noted_quiet (server_of c.args.hub.now) c.args.client.now.session c.args.name.now _ c.shard-shard.ensures _ _ _ _ c.note_opened.ensures.noted _
    (noted_about (server_of c.args.hub.now) c.args.client.now.session c.have-noted.new.session _
    (shown_at c.args.hub.now.domain (shard_of c.args.name.now) (marks_of c.have-noted.new.passes (shard_of c.args.name.now)))
    c.args.name.now c.args.from.now c.requires.client c.requires.peer c.in-Ok.ensures.after c.note_opened.ensures.session)
    c.requires.quiet

pub returns-in-Ok-clause-replied : goal.returns-in-Ok-clause-replied
returns-in-Ok-clause-replied g c =
    have_done (server_of c.args.hub.now) _ _ _ _ _ _ _ _ _ c.have-noted.ensures.turned c.have-noted.ensures.unadded c.in-Ok.ensures.look
    (c.note_opened.ensures.session ∙ c.in-Ok.ensures.after)

pub returns-in-Err-clause-later : goal.returns-in-Err-clause-later
returns-in-Err-clause-later g c = turned_grow _ _ _ c.have-noted.ensures.turned

pub returns-in-Err-clause-halted : goal.returns-in-Err-clause-halted
returns-in-Err-clause-halted g c = call_halted (server_of c.args.hub.now) _ _ _ _ _ _ c.have-noted.ensures.turned c.have-noted.ensures.unadded
