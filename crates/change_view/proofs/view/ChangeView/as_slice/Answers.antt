use Rattle.std.proofs.Common.{ap, sym, subst, ◌∙◌, map}
use Rattle.std.specs.FinMap as finite
use Rattle.change_view.specs.Texts.{AreTexts}
use Rattle.change_view.specs.Lists.{entry_of}
use Rattle.change_view.proofs.Rising.{entries_rising}
use Rattle.change_view.proofs.view.ChangeView.as_slice.Goals as goal

pub returns-clause-value : goal.returns-clause-value
returns-clause-value c = ap (map entry_of) c.as_slice.ensures.value ∙ sym (entries_rising (map entry_of c.self.inside.list.items) c.self.invariant.0) ∙ ap finite.entries c.self.view_is

pub returns-clause-texts : goal.returns-clause-texts
returns-clause-texts c = subst AreTexts c.self.view_is c.self.invariant.1
