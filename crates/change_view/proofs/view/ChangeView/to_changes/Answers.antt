use Rattle.std.proofs.Common.{List, ap, sym, subst, ◌∙◌, ◌≡◌, map}
use Rattle.std.specs.FinMap as finite
use Rattle.doc_items.specs.Changes.{ChangeSet, IsAscending, change_set}
use Rattle.doc_items.specs.declared.change.Change.{Change}
use Rattle.change_view.specs.Texts.{as_change, change_list}
use Rattle.change_view.proofs.Rising.{entries_rising}
use Rattle.change_view.proofs.Owned.{ascending_list, list_value}
use Rattle.change_view.proofs.Views.{IsViewOf, viewed}
use Rattle.change_view.specs.Lists.{Entry}
use Rattle.change_view.proofs.view.ChangeView.to_changes.Goals as goal

listed : (es : List Entry) (u : ChangeSet) (cs ds : List Change) → IsViewOf es u → cs ≡ ds → ds ≡ map as_change es → cs ≡ change_list u
listed es u cs ds v s t = s ∙ t ∙ ap (map as_change) (sym (entries_rising es v.rising) ∙ ap finite.entries v.value)

pub returns-clause-list : goal.returns-clause-list
returns-clause-list c = listed _ _ _ _ (viewed _ _ _ c.self.invariant c.self.view_is c.as_slice.ensures.value) c.from_vec.ensures c.in_ok-list.ensures

pub returns-clause-ascending : goal.returns-clause-ascending
returns-clause-ascending c =
    let v = viewed _ _ _ c.self.invariant c.self.view_is c.as_slice.ensures.value in
    subst (λ (cs : List Change). IsAscending cs) (sym (listed _ _ _ _ v c.from_vec.ensures c.in_ok-list.ensures)) (ascending_list c.args.self.now v.texts)

pub returns-clause-value : goal.returns-clause-value
returns-clause-value c =
    let v = viewed _ _ _ c.self.invariant c.self.view_is c.as_slice.ensures.value in
    ap change_set (listed _ _ _ _ v c.from_vec.ensures c.in_ok-list.ensures) ∙ list_value c.args.self.now v.texts
