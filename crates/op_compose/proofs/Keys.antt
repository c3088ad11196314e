-- Change sets that aren't empty, as updates have to be.
--     then_some       a change set after others keeps their keys
use Rattle.std.proofs.Common.{◌≡◌, ◌≢◌, ◌<◌, refl, sym, ap, ◌∙◌, List, length, None, Some}
use Rattle.std.specs.FinMap.{get}
use Rattle.doc_items.specs.Changes.{ChangeSet, change_set, none_running, IsAscending}
use Rattle.doc_items.specs.declared.change.Change.{Change}
use Rattle.doc_items.proofs.Maps.{get-merge}
use Rattle.change_view.specs.Rules.{one_then}
use Rattle.op_runs.proofs.Keys.{HasKey, not_none, has_first}
use Rattle.op_compose.specs.Chains.{then}

then_has : (w u : ChangeSet) → HasKey w → HasKey (then w u)
then_has w u h =
    let at : get (then w u) h.key ≡ one_then (Some h.change) (get u h.key) = get-merge one_then w u h.key refl ∙ ap (λ x. one_then x (get u h.key)) h.is in
    elim (get u h.key) as (λ o. get (then w u) h.key ≡ one_then (Some h.change) o → HasKey (then w u)) [
      | None ↦ λ e. record { key = h.key; change = h.change; is = e }
      | Some d ↦ λ e. record { key = h.key; change = record { old = h.change.old; new = d.new }; is = e }
    ] at

pub then_some : (cs : List Change) (w u both : ChangeSet) → 0 < length cs → IsAscending cs → w ≡ change_set cs → both ≡ then w u → both ≢ none_running
then_some cs w u both s a e p f = not_none (then (change_set cs) u) (then_has (change_set cs) u (has_first cs s a)) (ap (λ x. then x u) (sym e) ∙ sym p ∙ f)
