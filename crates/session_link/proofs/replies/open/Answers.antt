use Rattle.std.proofs.Common.{◌≡◌, ◌∙◌, Some, option_copied}
use Rattle.session_core.specs.News.{reply_message}
use Rattle.wavelet_shelf.specs.FileNames.{shard_of}
use Rattle.shard_marks.specs.Passes.{marks_of}
use Rattle.shard_marks.specs.Marks.{shown_at}
use Rattle.session_hub.specs.Hubs.{server_of}
use Rattle.session_steps.proofs.Growing.{turned_grow}
use Rattle.session_steps.proofs.Replying.{opened_about, open_done, call_halted}
use Rattle.session_link.proofs.Quiet.{noted_sent, noted_quiet}
use Rattle.session_link.proofs.replies.open.Goals as goal

pub returns-in-Ok-clause-later : goal.returns-in-Ok-clause-later
returns-in-Ok-clause-later g c = turned_grow _ _ _ c.attach-attached.ensures.turned

pub returns-in-Ok-clause-client : goal.returns-in-Ok-clause-client
returns-in-Ok-clause-client g c =
    (opened_about (server_of c.args.hub.now) c.args.client.now.session c.attach-attached.new.session _
    (shown_at c.args.hub.now.domain (shard_of c.args.name.now) (marks_of c.attach-attached.new.passes (shard_of c.args.name.now)))
    c.args.name.now (option_copied c.args.from) _ c.requires.client c.requires.user c.in-Ok.ensures.reply c.note_opened.ensures.session).session

pub returns-in-Ok-clause-sent : goal.returns-in-Ok-clause-sent
returns-in-Ok-clause-sent g c =
    noted_sent (server_of c.args.hub.now) c.args.client.now.session c.args.name.now _ c.shard-shard.ensures _ _ _ _ c.note_opened.ensures.noted _
    (opened_about (server_of c.args.hub.now) c.args.client.now.session c.attach-attached.new.session _
    (shown_at c.args.hub.now.domain (shard_of c.args.name.now) (marks_of c.attach-attached.new.passes (shard_of c.args.name.now)))
    c.args.name.now (option_copied c.args.from) _ c.requires.client c.requires.user c.in-Ok.ensures.reply c.note_opened.ensures.session)
    (marks_of c.args.passes.now) (marks_of c.attach-attached.new.passes) (turned_grow _ _ _ c.attach-attached.ensures.turned) c.requires.sent

pub returns-in-Ok-clause-quiet : goal.returns-in-Ok-clause-quiet
returns-in-Ok-clause-quiet g c =
    noted_quiet (server_of c.args.hub.now) c.args.client.now.session c.args.name.now _ c.shard-shard.ensures _ _ _ _ c.note_opened.ensures.noted _
    (opened_about (server_of c.args.hub.now) c.args.client.now.session c.attach-attached.new.session _
    (shown_at c.args.hub.now.domain (shard_of c.args.name.now) (marks_of c.attach-attached.new.passes (shard_of c.args.name.now)))
    c.args.name.now (option_copied c.args.from) _ c.requires.client c.requires.user c.in-Ok.ensures.reply c.note_opened.ensures.session)
    c.requires.quiet

pub returns-in-Ok-clause-replied : goal.returns-in-Ok-clause-replied
returns-in-Ok-clause-replied g c =
    open_done (server_of c.args.hub.now) _ _ _ _ _ _ _ _ _ _ c.attach-attached.ensures.turned c.attach-attached.ensures.unadded c.in-Ok.ensures.look
    ((λ i. (c.note_opened.ensures.session i, reply_message (c.into_reply.ensures i))) ∙ c.in-Ok.ensures.reply)

pub returns-in-Err-clause-later : goal.returns-in-Err-clause-later
returns-in-Err-clause-later g c = turned_grow _ _ _ c.attach-attached.ensures.turned

pub returns-in-Err-clause-halted : goal.returns-in-Err-clause-halted
returns-in-Err-clause-halted g c = call_halted (server_of c.args.hub.now) _ _ _ _ _ _ c.attach-attached.ensures.turned c.attach-attached.ensures.unadded
