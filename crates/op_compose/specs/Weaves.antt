-- What the steps of the composition keep, whatever actions follow.
--     expects w f s          what comes out in the end, where these actions are still to come
--     NoDelete f             the actions don't begin with a deletion, so that an insertion of the second operation comes first
--     Passed, PassedSecond   the walk went past actions of both, or an insertion of the second operation
--     Refused                the walk is refused within these actions
--     HasRoom w n, Grows     the output and the place have room for n more;  they grow by n at most
--     IsInStepBut ks v b w u the changes v are b, and u can come after w, at each key but these, which may be any
--     IsInStep done w u      the same but at the touched keys: v was shown last, and b is w and then u
--     IsKeptTwice            what comes of items that both operations keep
--     IsInsertedAfter        what comes of an insertion that the second operation keeps
--     IsDeletedBefore        what comes of a deletion of what the first operation keeps
use Rattle.std.specs.Prelude.{◌≡◌, ℕ, ◌+◌, ◌≤◌, Bool, true, false, ◌&&◌, List, [], ◌∷◌, ◌++◌, map, replicate, Option, None, Some, Err}
use Rattle.doc_items.specs.Changes.{ChangeSet}
use Rattle.doc_items.specs.Limits.{max_count}
use Rattle.doc_items.specs.declared.item.Content.{Content}
use Rattle.doc_items.specs.declared.item.Item.{Item}
use Rattle.change_view.specs.declared.rule.Rule.TheVariants.{Second}
use Rattle.change_view.specs.declared.rule.Test.TheVariants.{NewIsOld, OldIsThere}
use Rattle.change_view.specs.Sets.{joined, passes}
use Rattle.change_table.specs.declared.joint.Joint.{Joint}
use Rattle.change_table.specs.Joints.{together}
use Rattle.change_table.specs.Keys.{AgreeBut, PassBut}
use Rattle.doc_op.specs.Actions.{AttributeChange, Action, Keep, Ins, insertion, deletion}
use Rattle.doc_op.specs.Apply.{put_content}
use Rattle.doc_op.specs.Lengths.{input_len, output_len}
use Rattle.doc_op.specs.Normal.{shown_last}
use Rattle.op_runs.specs.Contents.{all_agree}
use Rattle.op_runs.specs.Rooms.{HasRoomFor}
use Rattle.op_compose.specs.Chains.{follows, then, attributes_back, attributes_follow, attributes_then}
use Rattle.op_compose.specs.Compose.{Composed, ahead, compose}
use Rattle.op_compose.specs.declared.fault.ComposeFault.{ComposeFault}
use Rattle.op_compose.specs.declared.fault.ComposeFault.TheVariants.{CountTooLarge, DontFit, Memory}
use Rattle.op_compose.specs.declared.weave.Weave.{Weave}

-- ---- the walk

abbrev pub expects : Weave → List Action → List Action → Composed
expects w f s = ahead w.out w.place (compose f s)

abbrev pub NoDelete : List Action → Type 0
NoDelete f = (y : Item) (s : List Action) → compose f (Ins y ∷ s) ≡ ahead (Ins y ∷ []) 0 (compose f s)

abbrev pub Passed : Weave → List Action → List Action → Weave → Type 0
Passed old x y new = (f s : List Action) → expects old (x ++ f) (y ++ s) ≡ expects new f s

abbrev pub PassedSecond : Weave → List Action → Weave → Type 0
PassedSecond old y new = (f s : List Action) → NoDelete f → expects old f (y ++ s) ≡ expects new f s

abbrev pub Refused : Weave → List Action → List Action → ComposeFault → Type 0
Refused old x y CountTooLarge = ⊥
Refused old x y (DontFit place) = (f s : List Action) → expects old (x ++ f) (y ++ s) ≡ Err place
Refused old x y Memory = Unit {0}

-- ---- lengths

abbrev pub HasRoom : Weave → ℕ → Type 0
HasRoom w n = HasRoomFor w.out n × (w.place + n ≤ max_count)

abbrev pub Grows : Weave → ℕ → Weave → Type 0
Grows old n new = (input_len new.out ≤ input_len old.out + n) × (output_len new.out ≤ output_len old.out + n) × (new.place ≤ old.place + n)

-- ---- since both operations kept

abbrev pub IsInStepBut : Option (List (List ℕ)) → ChangeSet → ChangeSet → ChangeSet → ChangeSet → Type 0
IsInStepBut None v b w u = Unit {0}
IsInStepBut (Some ks) v b w u = AgreeBut ks v b × PassBut ks NewIsOld w u

abbrev pub IsInStep : Weave → ChangeSet → ChangeSet → Type 0
IsInStep done w u = IsInStepBut done.touched (shown_last done.out) (then w u) w u

-- ---- one output

-- n items, kept under the joint's first changes, stay under its second, and their attributes change by o and then by a
abbrev pub IsKeptTwice : Bool → Joint → AttributeChange → AttributeChange → ℕ → List Action → List Action → Type 0
IsKeptTwice false j o a n old new = (follows j.first.now j.second.now && attributes_follow o a) ≡ false
IsKeptTwice true j o a n old new = ((follows j.first.now j.second.now && attributes_follow o a) ≡ true)
    × (new ≡ old ++ replicate n (Keep (together j) (attributes_then o a)))

-- the run cs, inserted under w, stays under u, and its attributes change by a
abbrev pub IsInsertedAfter : Bool → ChangeSet → ChangeSet → AttributeChange → List Content → List Action → List Action → Type 0
IsInsertedAfter false w u a cs old new = (all_agree a cs && passes OldIsThere w u) ≡ false
IsInsertedAfter true w u a cs old new = ((all_agree a cs && passes OldIsThere w u) ≡ true)
    × (new ≡ old ++ map (insertion (joined Second w u)) (map (put_content a) cs))

-- the run cs, deleted under u, stays before under w, and its attributes change by a
abbrev pub IsDeletedBefore : Bool → ChangeSet → ChangeSet → AttributeChange → List Content → List Action → List Action → Type 0
IsDeletedBefore false u w a cs old new = (all_agree (attributes_back a) cs && passes NewIsOld w u) ≡ false
IsDeletedBefore true u w a cs old new = ((all_agree (attributes_back a) cs && passes NewIsOld w u) ≡ true)
    × (new ≡ old ++ map (deletion (joined Second u w)) (map (put_content (attributes_back a)) cs))
