use Rattle.std.proofs.Common.{◌≡◌, List, [], length, drop, sym, ap, ◌∙◌, subst, arith}
use Rattle.std.proofs.lemmas.List.{drop_all}
use Rattle.disk_model.specs.Steps.{image_from, left_of}
use Rattle.disk_model.specs.Memory.{chosen_image, first_file}
use Rattle.disk_model.specs.declared.memory.Step.{Step}
use Rattle.disk_model.proofs.Chosen.{chosen_is_left}
use Rattle.disk_model.proofs.memory.MemoryDisk.image.Goals as goal

pub returns-clause-image : goal.returns-clause-image
returns-clause-image c =
    let at = c.loop-step in
    let steps = c.args.self.now.steps.items in
    let done : drop at.step-index steps ≡ [] = drop_all at.step-index steps (omega (arith, c.loop-step-test.false, ap length c.deref-step-items.ensures.value)) in
    let is : at.image.items ≡ chosen_image c.args.self.now c.args.choice =
    sym (ap (λ (l : List Step). image_from c.args.choice at.number at.file.items at.image.items l) done) ∙ at.invariant.meaning in
    subst (left_of (first_file c.args.self.now) steps) (sym is) (chosen_is_left c.args.choice (first_file c.args.self.now) steps)
