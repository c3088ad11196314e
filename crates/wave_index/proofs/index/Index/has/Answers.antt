use Rattle.std.proofs.Common.{sym, ap, ◌∙◌, is_some}
use Rattle.std.specs.FinMap as finite
use Rattle.wave_index.specs.Taken.{Histories}
use Rattle.wave_index.proofs.Entries.{get-entries}
use Rattle.wave_index.proofs.index.Index.has.Goals as goal

pub returns : goal.returns
returns c = c.contains_key.ensures ∙ ap is_some (sym (get-entries c.self.inside.wavelets c.args.name.now) ∙ ap (λ (m : Histories). finite.get m c.args.name.now) c.self.view_is)
