use Rattle.std.proofs.Common.{◌≡◌, [], ap, ◌∙◌}
use Rattle.doc_rope.specs.declared.replacement.Replacement.{Replacement}
use Rattle.op_validity.specs.Sources.{ahead}
use Rattle.op_validity.proofs.Replacing.{written_at, written_makes}
use Rattle.op_validity.proofs.edits.Edits.write_down.Goals as goal

pub returns-clause-at : goal.returns-clause-at
returns-clause-at c =
    let s = c.args.self.now in
    let r : Replacement = record { from = s.from; count = c.args.count; items = c.in_ok-items.items } in
    rw c.in_ok-push.ensures.items (written_at s.rope.now s.done.items (ahead s.build.rest) r c.requires.at c.requires.count)

pub returns-clause-step : goal.returns-clause-step
returns-clause-step c =
    let s = c.args.self.now in
    let r : Replacement = record { from = s.from; count = c.args.count; items = c.in_ok-items.items } in
    let made : c.in_ok-items.items ≡ s.build.items.items = c.in_ok-items.ensures ∙ ap (λ v. v.items) c.replace-items.ensures.value in
    let none : c.replace-items.new.dest.items ≡ [] = ap (λ v. v.items) c.replace-items.ensures.after ∙ c.new.ensures.items in
    λ all more. rw (c.in_ok-push.ensures.items, none, ← made) (written_makes all s.rope.now s.done.items (ahead s.build.rest) r more c.requires.count)
