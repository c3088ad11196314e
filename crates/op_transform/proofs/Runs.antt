-- Runs that take items: the first of them, and their depths.
--     firsts          the first items of a run
--     levels_text     characters leave the depth as it is
use Rattle.std.proofs.Common.{◌≡◌, ℕ, List, [], ◌∷◌, take, map, refl, sym}
use Rattle.std.proofs.lemmas.List.{take-map, length-take-le}
use Rattle.doc_items.specs.Changes.{ChangeSet}
use Rattle.doc_items.specs.declared.item.Content.{Content}
use Rattle.doc_items.specs.declared.item.Content.TheVariants.{Character}
use Rattle.doc_op.specs.Actions.{deletion}
use Rattle.op_runs.proofs.Runs.{take-kept}
use Rattle.op_transform.specs.Walks.{levels}

pub take-deleted : (k : ℕ) (u : ChangeSet) (cs : List Content) → map (deletion u) (take k cs) ≡ take k (map (deletion u) cs)
take-deleted k u cs = sym (take-map (deletion u) k cs)

pub ruleset firsts = (take-kept, take-deleted, length-take-le)

-- ---- depths

pub levels_text : (t : List ℕ) (n : ℕ) → n ≡ levels (map Character t) n
levels_text [] n = refl
levels_text (c ∷ t) n = levels_text t n
