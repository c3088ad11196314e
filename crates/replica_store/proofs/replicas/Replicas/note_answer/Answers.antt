use Rattle.std.proofs.Common.{rules, ◌≡◌, None}
use Rattle.std.specs.FinMap as finite
use Rattle.replica_store.proofs.Absorbing.{waits_none, unsettled_none}
use Rattle.replica_store.proofs.replicas.Replicas.note_answer.Goals as goal

pub returns-then-is_none-clause-answer : goal.returns-then-is_none-clause-answer
returns-then-is_none-clause-answer c =
    let none : finite.get c.args.self.now c.args.name.now ≡ None = search rules in
    waits_none c.args.self.now c.args.name.now none c.args.id.now

pub returns-then-is_none-clause-after : goal.returns-then-is_none-clause-after
returns-then-is_none-clause-after c =
    let none : finite.get c.args.self.now c.args.name.now ≡ None = search rules in
    unsettled_none c.args.self.now c.args.name.now none c.args.id.now c.args.verdict
