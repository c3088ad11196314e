use Rattle.std.proofs.Common.{◌++◌, []}
use Rattle.doc_items.specs.Changes.{change_set}
use Rattle.doc_op.specs.Actions.{component_actions}
use Rattle.op_validity.specs.Sources.{ahead}
use Rattle.op_validity.proofs.Replacing.{rebuilt_at, rebuilt_makes}
use Rattle.op_validity.proofs.edits.Edits.rebuild.Goals as goal

pub returns-clause-at : goal.returns-clause-at
returns-clause-at c =
    let s = c.args.self.now in
    rebuilt_at s.rope.now s.done.items s.from s.build.items.items (ahead s.build.rest) c.step.new.self.items.items (ahead c.step.new.self.rest) (component_actions (change_set c.args.running.now) c.args.component.now ++ []) [] c.requires (c.in_ok-step.ensures [])

pub returns-clause-step : goal.returns-clause-step
returns-clause-step c =
    let s = c.args.self.now in
    λ all more. rebuilt_makes all s.rope.now s.done.items s.from s.build.items.items (ahead s.build.rest) c.step.new.self.items.items (ahead c.step.new.self.rest) (component_actions (change_set c.args.running.now) c.args.component.now ++ more) more (c.in_ok-step.ensures more)
