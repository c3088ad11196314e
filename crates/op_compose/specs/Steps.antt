-- One step of the composition, and the whole of it.
--     together f s           the first's input length and both counts of inserted items
--     HasAllRoom w f s       the output and the place have room for what these actions give
--     Goes done f s n m after     n actions of the first operation and m of the second are passed
--     IsStep p ..            as many actions as p says are passed; at the end of both nothing happens
--     IsStepped              a step passed some actions, and the cursors stand after them; or both are at their end
--     IsUnfit                the walk is refused
--     IsComposition, IsDontFit, IsRefused     what `compose` answers
use Rattle.std.specs.Prelude.{◌≡◌, ℕ, ◌+◌, ◌<◌, ◌≤◌, Bool, true, false, List, [], length, drop, Ok, Err}
use Rattle.doc_items.specs.Limits.{max_count}
use Rattle.doc_op.specs.declared.component.Component.{Component}
use Rattle.doc_op.specs.Actions.{Action, actions}
use Rattle.doc_op.specs.Cursors.{Way, left}
use Rattle.doc_op.specs.Lengths.{input_len, inserted_len}
use Rattle.doc_op.specs.Normal.{normal_form}
use Rattle.doc_op.specs.Structure.{Structured}
use Rattle.op_compose.specs.Compose.{compose}
use Rattle.op_compose.specs.Weaves.{expects, HasRoom, IsInStep}
use Rattle.op_compose.specs.declared.fault.ComposeFault.{ComposeFault}
use Rattle.op_compose.specs.declared.fault.ComposeFault.TheVariants.{CountTooLarge, DontFit, Memory}
use Rattle.op_runs.specs.declared.passage.Passage.{Passage}
use Rattle.op_runs.specs.declared.passage.Passage.TheVariants.{End, First, Second, Both}
use Rattle.op_compose.specs.declared.weave.Weave.{Weave}

abbrev pub together : List Action → List Action → ℕ
together f s = input_len f + (inserted_len f + inserted_len s)

-- ---- one step

abbrev pub HasAllRoom : Weave → List Action → List Action → Type 0
HasAllRoom w f s = HasRoom w (length f + inserted_len s)

pub record Goes (done : Weave) (f s : Way) (n m : ℕ) (after : Weave) : Type 0 where
  pub is : expects done (left f) (left s) ≡ expects after (drop n (left f)) (drop m (left s))
  pub first_fits : n ≤ length f.front
  pub second_fits : m ≤ length s.front
  pub room : HasAllRoom after (drop n (left f)) (drop m (left s))
  pub in_step : IsInStep after f.under s.under

abbrev pub IsAtEnd : Weave → Way → Way → Weave → Type 0
IsAtEnd done f s after = (left f ≡ []) × (left s ≡ []) × (after ≡ done)

abbrev pub IsStep : Passage → Weave → Way → Way → Weave → Type 0
IsStep End done f s after = IsAtEnd done f s after
IsStep (First n) done f s after = (0 < n) × Goes done f s n 0 after
IsStep (Second n) done f s after = (0 < n) × Goes done f s 0 n after
IsStep (Both n) done f s after = (0 < n) × Goes done f s n n after

pub record IsMoved (done : Weave) (f s : Way) (after : Weave) (f_after s_after : Way) : Type 0 where
  pub is : expects done (left f) (left s) ≡ expects after (left f_after) (left s_after)
  pub room : HasAllRoom after (left f_after) (left s_after)
  pub in_step : IsInStep after f_after.under s_after.under
  pub smaller : length (left f_after) + length (left s_after) < length (left f) + length (left s)

abbrev pub IsStepped : Bool → Weave → Way → Way → Weave → Way → Way → Type 0
IsStepped true done f s after f_after s_after = IsMoved done f s after f_after s_after
IsStepped false done f s after f_after s_after = IsAtEnd done f s after

abbrev pub IsUnfit : ComposeFault → Weave → List Action → List Action → Type 0
IsUnfit CountTooLarge done f s = ⊥
IsUnfit (DontFit place) done f s = expects done f s ≡ Err place
IsUnfit Memory done f s = Unit {0}

-- ---- the whole

pub record IsComposition (first second op : List Component) : Type 0 where
  pub is : compose (actions first) (actions second) ≡ Ok (actions op)
  pub normal : op ≡ normal_form (actions op)
  pub structured : Structured (actions first) → Structured (actions second) → Structured (actions op)

abbrev pub IsDontFit : ComposeFault → List Component → List Component → Type 0
IsDontFit CountTooLarge f s = ⊥
IsDontFit (DontFit place) f s = compose (actions f) (actions s) ≡ Err place
IsDontFit Memory f s = Unit {0}

abbrev pub IsRefused : ComposeFault → List Component → List Component → Type 0
IsRefused CountTooLarge f s = max_count < together (actions f) (actions s)
IsRefused (DontFit place) f s = (together (actions f) (actions s) ≤ max_count) × (compose (actions f) (actions s) ≡ Err place)
IsRefused Memory f s = Unit {0}
