use Rattle.std.proofs.Common.{ap, List, ◌∙◌, ◌∷◌, ◌++◌, []}
use Rattle.doc_items.specs.Changes.{change_set, none_running}
use Rattle.std.specs.FinMap.{insert}
use Rattle.doc_items.specs.declared.change.Change.{Change}
use Rattle.op_build.proofs.one_change.one_change.Goals as goal

pub returns-clause-value : goal.returns-clause-value
returns-clause-value c = ap change_set (c.from_vec.ensures ∙ c.in_ok-push.ensures.items ∙ ap (λ (xs : List Change). xs ++ (record { key = c.in_ok-key.key; old = c.in_ok-old.old; new = c.in_ok-new.new } ∷ [])) c.new-list.ensures.items)
    ∙ (λ i. insert none_running (c.in_ok-key.ensures i) (record { old = c.in_ok-old.ensures i; new = c.in_ok-new.ensures i }))
