-- One step of the walk, and the whole of it.
--     HasAllRoom w ls es     the walk's outputs have room for these actions too
--     Goes done l e n m done'     n actions of the later operation and m of the earlier one are passed, and what runs there is in
--                            step
--     IsStep s ..            as many actions as s says are passed; at the end of both nothing happens
--     IsStepped              a step passed some actions, and the cursors stand after them; or both are at their end
--     IsBroken               the walk is refused
--     IsPairOf               the operations of the walk's outputs
--     IsConflict             the operations have no transform
use Rattle.std.specs.Prelude.{◌≡◌, ℕ, ◌+◌, ◌<◌, ◌≤◌, Bool, true, false, List, [], length, drop, Err}
use Rattle.doc_items.specs.Limits.{max_count}
use Rattle.doc_op.specs.declared.component.Component.{Component}
use Rattle.doc_op.specs.Actions.{Action, actions}
use Rattle.doc_op.specs.Cursors.{Way, left}
use Rattle.doc_op.specs.Lengths.{input_len, inserted_len}
use Rattle.doc_op.specs.Normal.{normal_form}
use Rattle.op_transform.specs.Transform.{transform}
use Rattle.op_transform.specs.Touches.{IsInStep}
use Rattle.op_transform.specs.Walks.{expects, IsWithin}
use Rattle.op_transform.specs.declared.fault.TransformFault.{TransformFault}
use Rattle.op_transform.specs.declared.fault.TransformFault.TheVariants.{CountTooLarge, Conflict, Memory}
use Rattle.op_transform.specs.declared.pair.Pair.{Pair}
use Rattle.op_runs.specs.declared.passage.Passage.{Passage}
use Rattle.op_runs.specs.declared.passage.Passage.TheVariants.{End, First, Second, Both}
use Rattle.op_transform.specs.declared.walk.Walk.{Walk}

-- ---- one step

abbrev pub needs : List Action → List Action → ℕ
needs ls es = input_len ls + (inserted_len ls + inserted_len es)

pub record HasAllRoom (w : Walk) (ls es : List Action) : Type 0 where
  pub within : IsWithin w
  pub later : w.length + needs ls es ≤ max_count
  pub earlier : w.length + needs es ls ≤ max_count

pub record Goes (done : Walk) (l e : Way) (n m : ℕ) (after : Walk) : Type 0 where
  pub is : expects done (left l) (left e) ≡ expects after (drop n (left l)) (drop m (left e))
  pub later_fits : n ≤ length l.front
  pub earlier_fits : m ≤ length e.front
  pub room : HasAllRoom after (drop n (left l)) (drop m (left e))
  pub in_step : IsInStep after l.under e.under

abbrev pub IsAtEnd : Walk → Way → Way → Walk → Type 0
IsAtEnd done l e after = (left l ≡ []) × (left e ≡ []) × (after ≡ done)

abbrev pub IsStep : Passage → Walk → Way → Way → Walk → Type 0
IsStep End done l e after = IsAtEnd done l e after
IsStep (First n) done l e after = (0 < n) × Goes done l e n 0 after
IsStep (Second n) done l e after = (0 < n) × Goes done l e 0 n after
IsStep (Both n) done l e after = (0 < n) × Goes done l e n n after

pub record IsMoved (done : Walk) (l e : Way) (after : Walk) (l_after e_after : Way) : Type 0 where
  pub is : expects done (left l) (left e) ≡ expects after (left l_after) (left e_after)
  pub room : HasAllRoom after (left l_after) (left e_after)
  pub in_step : IsInStep after l_after.under e_after.under
  pub smaller : length (left l_after) + length (left e_after) < length (left l) + length (left e)

abbrev pub IsStepped : Bool → Walk → Way → Way → Walk → Way → Way → Type 0
IsStepped true done l e after l_after e_after = IsMoved done l e after l_after e_after
IsStepped false done l e after l_after e_after = IsAtEnd done l e after

abbrev pub IsBroken : TransformFault → Walk → List Action → List Action → Type 0
IsBroken CountTooLarge done ls es = ⊥
IsBroken (Conflict k) done ls es = expects done ls es ≡ Err k
IsBroken Memory done ls es = Unit {0}

-- ---- the whole

pub record IsPairOf (done : Walk) (p : Pair) : Type 0 where
  pub later : actions p.later ≡ done.later.out
  pub earlier : actions p.earlier ≡ done.earlier.out
  pub later_normal : p.later ≡ normal_form (actions p.later)
  pub earlier_normal : p.earlier ≡ normal_form (actions p.earlier)

abbrev pub IsConflict : TransformFault → List Component → List Component → Type 0
IsConflict CountTooLarge l e = ⊥
IsConflict (Conflict k) l e = transform (actions l) (actions e) ≡ Err k
IsConflict Memory l e = Unit {0}
