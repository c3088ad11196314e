-- What `transform` answers.
--     together l e      the larger input length and both counts of inserted items
--     IsTransform l e p     the pair has both results, each in normal form and structured
--     IsRefused f l e   CountTooLarge: together they are over too many items; then Conflict: the place where no transform is
--                       defined
use Rattle.std.specs.Prelude.{◌≡◌, ℕ, ◌+◌, ◌<◌, ◌≤◌, max, List, Ok, Err}
use Rattle.doc_items.specs.Limits.{max_count}
use Rattle.doc_op.specs.declared.component.Component.{Component}
use Rattle.doc_op.specs.Actions.{Action, actions}
use Rattle.doc_op.specs.Lengths.{input_len, inserted_len}
use Rattle.doc_op.specs.Normal.{normal_form}
use Rattle.op_transform.specs.Square.{AreStructured}
use Rattle.op_transform.specs.Transform.{transform}
use Rattle.op_transform.specs.declared.fault.TransformFault.{TransformFault}
use Rattle.op_transform.specs.declared.fault.TransformFault.TheVariants.{CountTooLarge, Conflict, Memory}
use Rattle.op_transform.specs.declared.pair.Pair.{Pair}

abbrev pub together : List Action → List Action → ℕ
together l e = max (input_len l) (input_len e) + (inserted_len l + inserted_len e)

pub record IsTransform (later earlier : List Component) (p : Pair) : Type 0 where
  pub is : transform (actions later) (actions earlier) ≡ Ok (actions p.later, actions p.earlier)
  pub later_normal : p.later ≡ normal_form (actions p.later)
  pub earlier_normal : p.earlier ≡ normal_form (actions p.earlier)
  pub structured : AreStructured (actions p.later, actions p.earlier)

abbrev pub IsRefused : TransformFault → List Component → List Component → Type 0
IsRefused CountTooLarge l e = max_count < together (actions l) (actions e)
IsRefused (Conflict k) l e = (together (actions l) (actions e) ≤ max_count) × (transform (actions l) (actions e) ≡ Err k)
IsRefused Memory l e = Unit {0}
