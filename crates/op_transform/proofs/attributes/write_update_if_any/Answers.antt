use Rattle.std.proofs.Common.{◌≡◌, sym, subst, ◌∙◌, ◌++◌, ◌∷◌, [], OnOk}
use Rattle.doc_op.specs.Actions.{Keep}
use Rattle.op_transform.proofs.Keys.{not_empty, kept_if_none, update_if_some}
use Rattle.op_transform.proofs.attributes.write_update_if_any.Goals as goal

pub update-requires-clause-spelled : goal.update-requires-clause-spelled
update-requires-clause-spelled c = not_empty c.args.changes.now (sym c.is_empty.ensures ∙ c.if-is_empty.false)

pub returns-then-is_empty : goal.returns-then-is_empty
returns-then-is_empty c = subst (λ a. OnOk c.keep.result (c.keep.new.self ≡ c.args.out.now ++ Keep c.args.running.now a ∷ [])) (kept_if_none c.args.changes.now (sym c.is_empty.ensures ∙ c.if-is_empty.true)) c.keep.ensures.added

pub returns-else-is_empty : goal.returns-else-is_empty
returns-else-is_empty c = subst (λ a. OnOk c.update.result (c.update.new.self ≡ c.args.out.now ++ Keep c.args.running.now a ∷ [])) (update_if_some c.args.changes.now (sym c.is_empty.ensures ∙ c.if-is_empty.false)) c.update.ensures.added
