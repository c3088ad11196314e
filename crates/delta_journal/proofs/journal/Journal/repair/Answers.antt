use Rattle.std.proofs.Common.{length, sym, ◌∙◌, ap, subst}
use Rattle.disk_model.specs.Disk.{Kept}
use Rattle.disk_model.proofs.Moments.{weaker}
use Rattle.delta_journal.specs.Shape.{HasShape}
use Rattle.delta_journal.specs.Stage.{HasBlock, IsEmptyAt, front_at, shape_at}
use Rattle.delta_journal.specs.declared.stage.Stage.{Stage}
use Rattle.delta_journal.proofs.Stages.{front-repaired, repair_block, repair_empty, repair_file, repair_spares, repair_stands, shape_stands}
use Rattle.delta_journal.proofs.journal.Journal.repair.Goals as goal

pub returns-in_err-write_through-clause-any_moment : goal.returns-in_err-write_through-clause-any_moment
returns-in_err-write_through-clause-any_moment g c name records held =
    let old = c.args.self.now in
    let stays = c.write_through.ensures.stays (shape_at old.stage name records) (repair_spares old.stage name records old.place c.in-Some.ensures.unsure held.place) held.file in
    weaker _ _ _ _ (λ x has. shape_stands old.stage name records x held.empty held.block has) stays.moments

pub returns-clause-any_moment : goal.returns-clause-any_moment
returns-clause-any_moment g c name records held =
    let old = c.args.self.now in
    let stays = c.write_through.ensures.stays (shape_at old.stage name records) (repair_spares old.stage name records old.place c.in-Some.ensures.unsure held.place) held.file in
    weaker _ _ _ _ (λ x has. shape_stands old.stage name records x held.empty held.block has) stays.moments

pub returns-clause-held : goal.returns-clause-held
returns-clause-held g c name records held =
    let old = c.args.self.now in
    let is = sym c.in-Some.ensures.stage in
    let shut = repair_file name records old held (g.K.Disk.view c.write_through.new.disk) c.in-Some.ensures.unsure (c.in_ok-write_through.ensures.written held.told) in
    record {
      told = held.told;
      header = held.header;
      place = held.place ∙ ap length (sym (front-repaired old.stage name records)) ∙ ap (λ (s : Stage). length (front_at s name records)) is;
      empty = subst (λ (s : Stage). IsEmptyAt s records) is (repair_empty old.stage records held.empty);
      block = subst HasBlock is (repair_block old.stage);
      file = subst (λ (s : Stage). Kept (g.K.Disk.view c.write_through.new.disk) (HasShape (shape_at s name records))) is shut;
    }

pub returns-clause-every_image : goal.returns-clause-every_image
returns-clause-every_image g c name records held x left =
    let old = c.args.self.now in
    let shut = repair_file name records old held (g.K.Disk.view c.write_through.new.disk) c.in-Some.ensures.unsure (c.in_ok-write_through.ensures.written held.told) in
    repair_stands old.stage name records x c.in-Some.ensures.unsure held.empty (shut.left x left)
