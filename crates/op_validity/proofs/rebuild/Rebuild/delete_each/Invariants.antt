use Rattle.std.proofs.Common.{List, ◌++◌, map, drop}
use Rattle.doc_items.specs.Changes.{change_set}
use Rattle.doc_items.specs.declared.item.Content.TheVariants.{Character}
use Rattle.doc_op.specs.Actions.{Action, deletion}
use Rattle.op_validity.specs.Sources.{ahead}
use Rattle.op_validity.specs.Walks.{Gives}
use Rattle.op_validity.proofs.rebuild.Rebuild.delete_each.Given as goal

abbrev pub invariant-loop-c : goal.invariant-loop-c
invariant-loop-c l = (more : List Action) → Gives (ahead l.fn.self.rest) l.fn.self.items.items (map (λ c. deletion (change_set l.fn.running) (Character c)) l.chars ++ more) (ahead l.self.rest) l.self.items.items (map (λ c. deletion (change_set l.fn.running) (Character c)) (drop l.c-index l.chars) ++ more)
