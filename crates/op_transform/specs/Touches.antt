-- What the walk knows of the changes that run, since the last pair of runs that both operations keep.
--     AreInStepBut ks l e u w     at each key but these, the outputs l and e show what u and w make of each other, and u and w cross
--     AreInStep t l e u w         the same at each key but those of t; nothing is said where t is None
--     IsInStep done u w           the same for the walk's outputs, at each key but those that it touched
use Rattle.std.specs.Prelude.{ℕ, List, Option, None, Some}
use Rattle.doc_items.specs.Changes.{ChangeSet}
use Rattle.change_view.specs.declared.rule.Test.TheVariants.{SameOld}
use Rattle.change_table.specs.Keys.{AgreeBut, PassBut}
use Rattle.doc_op.specs.Actions.{Action}
use Rattle.doc_op.specs.Normal.{shown_last}
use Rattle.op_transform.specs.Crossing.{over, under}
use Rattle.op_transform.specs.declared.walk.Walk.{Walk}

pub record AreInStepBut (ks : List (List ℕ)) (later earlier : List Action) (u w : ChangeSet) : Type 0 where
  pub later_shows : AgreeBut ks (shown_last later) (over u w)
  pub earlier_shows : AgreeBut ks (shown_last earlier) (under w u)
  pub cross : PassBut ks SameOld u w

abbrev pub AreInStep : Option (List (List ℕ)) → List Action → List Action → ChangeSet → ChangeSet → Type 0
AreInStep None later earlier u w = Unit {0}
AreInStep (Some ks) later earlier u w = AreInStepBut ks later earlier u w

abbrev pub IsInStep : Walk → ChangeSet → ChangeSet → Type 0
IsInStep done u w = AreInStep done.touched done.later.out done.earlier.out u w
