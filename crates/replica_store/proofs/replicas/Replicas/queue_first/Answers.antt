use Rattle.std.proofs.Common.{ap, ◌∙◌, ◌≡◌}
use Rattle.std.specs.FinMap as finite
use Rattle.replica_store.specs.Worlds.{world, world_of, empty_world, worlds_of}
use Rattle.replica_store.proofs.Queueing.{first_answer, first_after}
use Rattle.replica_store.proofs.replicas.Replicas.queue_first.Goals as goal

-- each: a new copy of the name is empty
pub returns-clause-answer : goal.returns-clause-answer
returns-clause-answer c =
    let b = c.new-copy.result in
    let empty : world_of b ≡ empty_world = λ i. world (record { deltas = c.new-copy.ensures.empty i; waiting = c.new-copy.ensures.waiting i; dropped = c.new-copy.ensures.dropped i }) (c.new-copy.ensures.noted i) in
    first_answer c.args.self.now c.args.name.now c.args.submission b c.queue_submission.new.self c.requires (c.new-copy.ensures.name ∙ c.in_ok-copy.ensures) empty c.in_ok-answer.answer c.in_ok-answer.ensures.ok c.in_ok-answer.ensures.world

pub returns-clause-after : goal.returns-clause-after
returns-clause-after c =
    let b = c.new-copy.result in
    let m = c.args.self.now in
    let empty : world_of b ≡ empty_world = λ i. world (record { deltas = c.new-copy.ensures.empty i; waiting = c.new-copy.ensures.waiting i; dropped = c.new-copy.ensures.dropped i }) (c.new-copy.ensures.noted i) in
    ap worlds_of (c.in_ok-insert.ensures.ok ∙ ap (λ k. finite.insert m k c.queue_submission.new.self) c.in_ok-key.ensures)
    ∙ first_after m c.args.name.now c.args.submission b c.queue_submission.new.self c.requires (c.new-copy.ensures.name ∙ c.in_ok-copy.ensures) empty c.in_ok-answer.answer c.in_ok-answer.ensures.ok c.in_ok-answer.ensures.world
