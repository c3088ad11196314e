-- Structure: inserted runs and deleted runs are balanced by themselves, and neither holds a kept item or the other kind
-- inside an element.
--     StructuredFrom i d     structured, where i inserted elements and d deleted ones are open already
--     Structured             structured
--     depths_after d a       the depths after an action, unless it breaks the rules
--     depths_behind d acts   the depths after some actions, unless one breaks the rules
--     first_break cs         the index of the first component that breaks the rules, or the number of components where a depth
--                            isn't 0 at the end
use Rattle.std.specs.Prelude.{◌≡◌, ℕ, ◌+◌, ◌==◌, ◌&&◌, nat_lt, Bool, true, List, [], ◌∷◌, Option, None, Some, if◌then◌else◌, option_and_then}
use Rattle.doc_items.specs.Balance.{level, Closes}
use Rattle.doc_items.specs.Changes.{ChangeSet, none_running}
use Rattle.doc_items.specs.declared.item.Content.{Content}
use Rattle.doc_items.specs.declared.item.Content.TheVariants.{Character, Start, End}
use Rattle.doc_op.specs.declared.component.Component.{Component}
use Rattle.doc_op.specs.declared.depths.Depths.{Depths}
use Rattle.doc_op.specs.Actions.{Action, Keep, Ins, Del, component_actions, running_after}

abbrev pub StructuredFrom : ℕ → ℕ → List Action → Type 0
StructuredFrom i d [] = (i ≡ 0) × (d ≡ 0)
StructuredFrom i d (Keep c a ∷ more) = (i ≡ 0) × (d ≡ 0) × StructuredFrom i d more
StructuredFrom i d (Ins x ∷ more) = (d ≡ 0) × Closes x.content i × StructuredFrom (level x.content i) d more
StructuredFrom i d (Del c n ∷ more) = (i ≡ 0) × Closes c d × StructuredFrom i (level c d) more

abbrev pub Structured : List Action → Type 0
Structured acts = StructuredFrom 0 0 acts

-- ---- and where it breaks

abbrev pub ground : Depths
ground = record { inserted = 0; deleted = 0 }

abbrev pub is_ground : Depths → Bool
is_ground d = (d.inserted == 0) && (d.deleted == 0)

abbrev pub closes : Content → ℕ → Bool
closes (Character c) n = true
closes (Start kind m) n = true
closes End n = nat_lt 0 n

abbrev pub depths_after : Depths → Action → Option Depths
depths_after d (Keep u a) = if is_ground d then Some d else None
depths_after d (Ins x) = if (d.deleted == 0)
    && closes x.content d.inserted then Some (record { inserted = level x.content d.inserted; deleted = d.deleted }) else None
depths_after d (Del c n) = if (d.inserted == 0)
    && closes c d.deleted then Some (record { inserted = d.inserted; deleted = level c d.deleted }) else None

abbrev pub depths_behind : Depths → List Action → Option Depths
depths_behind d [] = Some d
depths_behind d (a ∷ more) = option_and_then (λ e. depths_behind e more) (depths_after d a)

-- what f makes of the depths, or else this place
abbrev pub unless_broken : ℕ → (Depths → Option ℕ) → Option Depths → Option ℕ
unless_broken n f None = Some n
unless_broken n f (Some d) = f d

abbrev pub first_break_from : ℕ → Depths → ChangeSet → List Component → Option ℕ
first_break_from n d u [] = if is_ground d then None else Some n
first_break_from n d u (c ∷ cs) = unless_broken n (λ e. first_break_from (n + 1) e (running_after u c) cs)
    (depths_behind d (component_actions u c))

abbrev pub first_break : List Component → Option ℕ
first_break cs = first_break_from 0 ground none_running cs
