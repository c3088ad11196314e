use Rattle.std.proofs.Common.{rules, ◌≡◌, None}
use Rattle.std.specs.FinMap as finite
use Rattle.replica_store.proofs.Absorbing.{had_none, undropped_none}
use Rattle.replica_store.proofs.replicas.Replicas.note_dropped.Goals as goal

pub returns-then-is_none-clause-answer : goal.returns-then-is_none-clause-answer
returns-then-is_none-clause-answer c =
    let none : finite.get c.args.self.now c.args.name.now ≡ None = search rules in
    had_none c.args.self.now c.args.name.now none

pub returns-then-is_none-clause-after : goal.returns-then-is_none-clause-after
returns-then-is_none-clause-after c =
    let none : finite.get c.args.self.now c.args.name.now ≡ None = search rules in
    undropped_none c.args.self.now c.args.name.now none
