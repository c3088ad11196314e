use Rattle.std.proofs.Common.{◌≡◌, ◌∙◌}
use Rattle.shard_marks.specs.Passes.{marks_of}
use Rattle.session_hub.specs.Hubs.{server_of}
use Rattle.session_steps.proofs.Growing.{turned_grow}
use Rattle.session_steps.proofs.Replying.{shard_below, submit_done, submit_untold, submit_halted}
use Rattle.session_link.proofs.Quiet.{answer_session, answer_sent, answer_quiet}
use Rattle.session_link.proofs.replies.submit.Goals as goal

pub returns-in-Ok-answer_submit-clause-later : goal.returns-in-Ok-answer_submit-clause-later
returns-in-Ok-answer_submit-clause-later g c = turned_grow _ _ _ c.submit-placed.ensures.turned

pub returns-in-Ok-answer_submit-clause-client : goal.returns-in-Ok-answer_submit-clause-client
returns-in-Ok-answer_submit-clause-client g c =
    answer_session (server_of c.args.hub.now) c.args.client.now.session c.args.name.now _ c.shard-shard.ensures _ _ _ _ c.requires.client c.requires.known c.args.submission.now.id _ c.note_answer.ensures.noted
    _ _ ((λ i. (c.note_answer.ensures.session i, c.in-Ok-answer_submit.message)) ∙ c.in-Ok-answer_submit.ensures.ok)

pub returns-in-Ok-answer_submit-clause-sent : goal.returns-in-Ok-answer_submit-clause-sent
returns-in-Ok-answer_submit-clause-sent g c =
    answer_sent (server_of c.args.hub.now) c.args.client.now.session c.args.name.now _ c.shard-shard.ensures _ _ _ _ c.requires.client c.requires.known c.args.submission.now.id _ c.note_answer.ensures.noted
    _ _ ((λ i. (c.note_answer.ensures.session i, c.in-Ok-answer_submit.message)) ∙ c.in-Ok-answer_submit.ensures.ok)
    (marks_of c.args.passes.now) (marks_of c.submit-placed.new.passes) (turned_grow _ _ _ c.submit-placed.ensures.turned) c.requires.sent

pub returns-in-Ok-answer_submit-clause-quiet : goal.returns-in-Ok-answer_submit-clause-quiet
returns-in-Ok-answer_submit-clause-quiet g c =
    answer_quiet (server_of c.args.hub.now) c.args.client.now.session c.args.name.now _ c.shard-shard.ensures _ _ _ _ c.requires.client c.requires.known c.args.submission.now.id _ c.note_answer.ensures.noted
    _ _ ((λ i. (c.note_answer.ensures.session i, c.in-Ok-answer_submit.message)) ∙ c.in-Ok-answer_submit.ensures.ok) c.requires.quiet

pub returns-in-Ok-answer_submit-clause-replied : goal.returns-in-Ok-answer_submit-clause-replied
returns-in-Ok-answer_submit-clause-replied g c =
    submit_done (server_of c.args.hub.now) _ _ _ _ _ _ c.now-time.ensures.value c.now-time.ensures.rest _ _ (shard_below _) _ c.submit-placed.ensures.turned _ c.in-Ok.ensures.look _ c.in-Ok.ensures.answer
    _ _ ((λ i. (c.note_answer.ensures.session i, c.in-Ok-answer_submit.message)) ∙ c.in-Ok-answer_submit.ensures.ok)

pub returns-in-Err-answer_submit-clause-later : goal.returns-in-Err-answer_submit-clause-later
returns-in-Err-answer_submit-clause-later g c = turned_grow _ _ _ c.submit-placed.ensures.turned

pub returns-in-Err-answer_submit-clause-halted : goal.returns-in-Err-answer_submit-clause-halted
returns-in-Err-answer_submit-clause-halted g c =
    submit_untold (server_of c.args.hub.now) _ _ _ _ _ _ c.now-time.ensures.value c.now-time.ensures.rest _ _ (shard_below _) _ c.submit-placed.ensures.turned _ c.in-Ok.ensures.look _ c.in-Ok.ensures.answer

pub returns-in-Err-clause-later : goal.returns-in-Err-clause-later
returns-in-Err-clause-later g c = turned_grow _ _ _ c.submit-placed.ensures.turned

pub returns-in-Err-clause-halted : goal.returns-in-Err-clause-halted
returns-in-Err-clause-halted g c = submit_halted (server_of c.args.hub.now) _ _ _ _ _ _ c.now-time.ensures.value c.now-time.ensures.rest _ _ c.submit-placed.ensures.turned c.in-Err.ensures.unadded
