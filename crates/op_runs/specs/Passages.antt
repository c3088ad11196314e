-- What a step passes of two operations that are walked side by side.
--     goes_on p              whether it passes any actions
--     CanPass p f s          the runs at which the cursors stand have so many
--     ArePast n m f s t f' s' t'     n actions of the first and m of the second are passed, and the keys touched on the way are noted
--     IsPassed p f s t f' s' t'      as many actions as p says are passed; at the end of both nothing happens
use Rattle.std.specs.Prelude.{◌≡◌, ℕ, ◌<◌, ◌≤◌, Bool, true, false, List, length, drop, Option}
use Rattle.change_table.specs.Keys.{Touches}
use Rattle.doc_op.specs.Cursors.{Way, left}
use Rattle.op_runs.specs.declared.passage.Passage.{Passage}
use Rattle.op_runs.specs.declared.passage.Passage.TheVariants.{End, First, Second, Both}

abbrev pub goes_on : Passage → Bool
goes_on End = false
goes_on (First n) = true
goes_on (Second n) = true
goes_on (Both n) = true

abbrev pub CanPass : Passage → Way → Way → Type 0
CanPass End f s = Unit {0}
CanPass (First n) f s = (0 < n) × (n ≤ length f.front)
CanPass (Second n) f s = (0 < n) × (n ≤ length s.front)
CanPass (Both n) f s = (0 < n) × (n ≤ length f.front) × (n ≤ length s.front)

pub record ArePast (n m : ℕ) (f s : Way) (touched : Option (List (List ℕ))) (f_after s_after : Way) (last : Option (List (List ℕ))) : Type 0 where
  pub first : left f_after ≡ drop n (left f)
  pub second : left s_after ≡ drop m (left s)
  pub between : Option (List (List ℕ))
  pub touched_first : Touches touched f.under between f_after.under
  pub touched_second : Touches between s.under last s_after.under

abbrev pub IsPassed : Passage → Way → Way → Option (List (List ℕ)) → Way → Way → Option (List (List ℕ)) → Type 0
IsPassed End f s touched f_after s_after last = (f_after ≡ f) × (s_after ≡ s) × (last ≡ touched)
IsPassed (First n) f s touched f_after s_after last = ArePast n 0 f s touched f_after s_after last
IsPassed (Second n) f s touched f_after s_after last = ArePast 0 n f s touched f_after s_after last
IsPassed (Both n) f s touched f_after s_after last = ArePast n n f s touched f_after s_after last
