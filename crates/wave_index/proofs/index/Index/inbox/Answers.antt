use Rattle.std.proofs.Common.{◌++◌, List, sym, ap, ◌∙◌, append-nil}
use Rattle.std.specs.FinMap as finite
use Rattle.doc_items.specs.Maps.{Key}
use Rattle.wave_index.specs.Inboxes.{lines_of}
use Rattle.wave_index.specs.Marks.{mark_in}
use Rattle.wave_index.specs.Taken.{TakenOf}
use Rattle.wave_index.proofs.Entries.{entries-entries}
use Rattle.wave_index.proofs.index.Index.inbox.Goals as goal

pub returns : goal.returns
returns c =
    sym (append-nil c.loop-name.lines.items)
    ∙ ap (λ (l : List (Key × TakenOf)). c.loop-name.lines.items ++ lines_of l c.args.user.now (mark_in c.args.marks.now)) (sym c.in-None.ensures.steps.0)
    ∙ c.loop-name.invariant
    ∙ ap (λ (l : List (Key × TakenOf)). lines_of l c.args.user.now (mark_in c.args.marks.now))
    (c.into_iter-name-iterator.ensures.into_iter_gives ∙ c.iter-name-items.ensures.rest ∙ sym (entries-entries c.self.inside.wavelets.entries c.iter-name-items.ensures.ordered) ∙ ap finite.entries c.self.view_is)
