use Rattle.std.proofs.Common.{List, ℕ, [], ◌∷◌, ◌++◌, inl, subst}
use Rattle.disk_model.specs.Disk.{LeavesOnly}
use Rattle.disk_model.proofs.Moments.{joined, weaker}
use Rattle.delta_journal.specs.File.{StandsFor, StandsForEither}
use Rattle.delta_journal.proofs.Stages.{headed_images}
use Rattle.delta_journal.proofs.journal.Journal.append.Goals as goal

pub returns-in_err-add-clause-any_moment : goal.returns-in_err-add-clause-any_moment
returns-in_err-add-clause-any_moment g c name records held =
    let either : List ℕ → Type 0 = StandsForEither name records (c.args.bytes.now ∷ []) in
    joined _ _ _ either (weaker _ _ (StandsFor name records) either (λ x stands. inl stands) (c.write_header.ensures.any_moment name records held))
    (subst (λ (b : List ℕ). LeavesOnly (g.K.Disk.view c.write_header.new.self.disk) (g.K.Disk.view c.add.new.self.disk) (StandsForEither name records (b ∷ []))) c.in_ok-block.ensures.record
    (c.add.ensures.any_moment name records (c.write_header.ensures.held name records held)))

pub returns-clause-any_moment : goal.returns-clause-any_moment
returns-clause-any_moment g c name records held =
    let either : List ℕ → Type 0 = StandsForEither name records (c.args.bytes.now ∷ []) in
    joined _ _ _ either (weaker _ _ (StandsFor name records) either (λ x stands. inl stands) (c.write_header.ensures.any_moment name records held))
    (subst (λ (b : List ℕ). LeavesOnly (g.K.Disk.view c.write_header.new.self.disk) (g.K.Disk.view c.add.new.self.disk) (StandsForEither name records (b ∷ []))) c.in_ok-block.ensures.record
    (c.add.ensures.any_moment name records (c.write_header.ensures.held name records held)))

pub returns-clause-every_image : goal.returns-clause-every_image
returns-clause-every_image g c name records held x left =
    let added = c.in_ok-add.ensures.ok name records (c.write_header.ensures.held name records held) in
    subst (λ (b : List ℕ). StandsFor name (records ++ b ∷ []) x) c.in_ok-block.ensures.record (headed_images name _ c.add.new.self added c.in_ok-add.ensures.done x left)
