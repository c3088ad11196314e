-- Change sets that aren't empty, as updates have to be.
--     over_some, start_some  a change set keeps its keys
--     kept_if_none, update_if_some      what is written of an update that may be empty
use Rattle.std.proofs.Common.{◌≡◌, ◌≢◌, ◌<◌, ◌==◌, true, false, cond, refl, sym, ap, ◌∙◌, true≢false, List, length, None, Some}
use Rattle.std.specs.FinMap.{get, len, len-empty}
use Rattle.std.specs.Ordering.{nat_cmp}
use Rattle.std.specs.Cmp.Lexicographic.{slice_cmp}
use Rattle.doc_items.specs.Maps.{Key, Map, merge}
use Rattle.doc_items.specs.Changes.{KeyChange, ChangeSet, change_set, none_running, IsAscending}
use Rattle.doc_items.specs.declared.change.Change.{Change}
use Rattle.doc_items.proofs.Maps.{get-merge}
use Rattle.change_view.specs.Rules.{one_over}
use Rattle.change_view.specs.Sets.{one_from, start_at}
use Rattle.doc_op.specs.Actions.{Unchanged, Update}
use Rattle.op_runs.proofs.Keys.{HasKey, not_none, has_first}
use Rattle.op_transform.specs.Crossing.{is_empty, update_if_any}

over_has : (u w : ChangeSet) → HasKey u → HasKey (merge one_over u w)
over_has u w h =
    let at : get (merge one_over u w) h.key ≡ one_over (Some h.change) (get w h.key) = get-merge one_over u w h.key refl ∙ ap (λ x. one_over x (get w h.key)) h.is in
    elim (get w h.key) as (λ o. get (merge one_over u w) h.key ≡ one_over (Some h.change) o → HasKey (merge one_over u w)) [
      | None ↦ λ e. record { key = h.key; change = h.change; is = e }
      | Some d ↦ λ e. record { key = h.key; change = record { old = d.new; new = h.change.new }; is = e }
    ] at

start_has : (u : ChangeSet) (m : Map Key) → HasKey u → HasKey (start_at u m)
start_has u m h = record { key = h.key; change = record { old = get m h.key; new = h.change.new }; is = get-merge one_from u m h.key refl ∙ ap (λ x. one_from x (get m h.key)) h.is }

pub over_some : (cs : List Change) (u w o : ChangeSet) → 0 < length cs → IsAscending cs → u ≡ change_set cs → o ≡ merge one_over u w → o ≢ none_running
over_some cs u w o s a e p f = not_none (merge one_over (change_set cs) w) (over_has (change_set cs) w (has_first cs s a)) (ap (λ x. merge one_over x w) (sym e) ∙ sym p ∙ f)

pub start_some : (cs : List Change) (u : ChangeSet) (m : Map Key) (o : ChangeSet) → 0 < length cs → IsAscending cs → u ≡ change_set cs → o ≡ start_at u m → o ≢ none_running
start_some cs u m o s a e p f = not_none (start_at (change_set cs) m) (start_has (change_set cs) m (has_first cs s a)) (ap (λ x. start_at x m) (sym e) ∙ sym p ∙ f)

-- ---- an update that may be empty

pub not_empty : (u : ChangeSet) → (len u == 0) ≡ false → u ≢ none_running
not_empty u h e = absurd (true≢false (sym (ap (λ n. n == 0) (len-empty (slice_cmp nat_cmp) KeyChange)) ∙ ap (λ x. len x == 0) (sym e) ∙ h))

pub kept_if_none : (u : ChangeSet) → (len u == 0) ≡ true → Unchanged ≡ update_if_any u
unfolding is_empty
kept_if_none u h = ap (λ b. cond b Unchanged (Update u)) (sym h)

pub update_if_some : (u : ChangeSet) → (len u == 0) ≡ false → Update u ≡ update_if_any u
unfolding is_empty
update_if_some u h = ap (λ b. cond b Unchanged (Update u)) (sym h)
