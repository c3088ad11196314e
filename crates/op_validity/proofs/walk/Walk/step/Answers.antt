use Rattle.doc_items.specs.Changes.{change_set}
use Rattle.op_validity.specs.Sources.{ahead}
use Rattle.op_validity.proofs.Walks.{same-inserted}
use Rattle.op_validity.proofs.walk.Walk.step.Goals as goal

pub returns-in-Characters-clause-step : goal.returns-in-Characters-clause-step
returns-in-Characters-clause-step c = λ more.
    rw c.in-Characters.is (same-inserted c.args.self.now.place (ahead c.args.self.now.rest) (change_set c.args.running.now) c.in-Characters.field-0 more)

pub returns-in-DeleteCharacters-clause-step : goal.returns-in-DeleteCharacters-clause-step
returns-in-DeleteCharacters-clause-step c = λ more. rw c.in-DeleteCharacters.is (c.delete.ensures.step more)
