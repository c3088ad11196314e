-- Operations on their way through others.
--     held h, act_held h, acts_held hs     the operation that is held, its act, the acts of those in a row
--     IsSettled h          what isn't lent is in normal form
--     after o c            what an operation becomes; it stays as it is where c is None
--     IsCrossing l e c     what becomes of both operations, that which changes being in normal form
--     IsCrossed l e p      both results, held
--     earlier_fronts xs r  earlier ones that were passed already, in front of what the rest gives
--     IsPassed l es p      the results of one operation and of those that it passed through
--     later_fronts xs r    later ones whose pass is done, in front of what the rest gives
--     IsGridded ls es p    the results of operations and of those that they passed through
use Rattle.std.specs.Prelude.{◌≡◌, List, ◌++◌, length, map, Option, Result, Ok, Err, IfSome, unwrap_or}
use Rattle.std.specs.List.{All}
use Rattle.wavelet_op.specs.Acts.{Act, meaning, meanings, IsNormal, AreNormal}
use Rattle.wavelet_op.specs.Grids.{pass_one, grid_by}
use Rattle.wavelet_op.specs.Transform.{bounded}
use Rattle.wavelet_op.specs.declared.crossing.Crossing.{Crossing}
use Rattle.wavelet_op.specs.declared.held.Held.{Held}
use Rattle.wavelet_op.specs.declared.held.Held.TheVariants.{Lent, Made}
use Rattle.wavelet_op.specs.declared.op.WaveletOp.{WaveletOp}

abbrev pub held : Held → WaveletOp
held (Lent op) = op.now
held (Made op) = op

abbrev pub act_held : Held → Act
act_held h = meaning (held h)

abbrev pub acts_held : List Held → List Act
acts_held hs = map act_held hs

abbrev pub IsSettled : Held → Type 0
IsSettled (Lent op) = Unit {0}
IsSettled (Made op) = IsNormal op

-- ---- two operations

abbrev pub after : WaveletOp → Option WaveletOp → WaveletOp
after o c = unwrap_or c o

pub record IsCrossing (later earlier : WaveletOp) (c : Crossing) : Type 0 where
  pub is : bounded (meaning later) (meaning earlier) ≡ Ok (meaning (after later c.later), meaning (after earlier c.earlier))
  pub later_normal : IfSome c.later IsNormal
  pub earlier_normal : IfSome c.earlier IsNormal

pub record IsCrossed (later earlier : Held) (p : Held × Held) : Type 0 where
  pub is : bounded (act_held later) (act_held earlier) ≡ Ok (act_held p.0, act_held p.1)
  pub later_settled : IsSettled p.0
  pub earlier_settled : IsSettled p.1

-- ---- one operation and many

abbrev pub earlier_fronts : {A E : Type 0} → List A → Result (A × List A) E → Result (A × List A) E
earlier_fronts xs (Ok p) = Ok (p.0, xs ++ p.1)
earlier_fronts xs (Err e) = Err e

pub record IsPassed (later : Held) (earlier : List Held) (l : Held) (es : List Held) : Type 0 where
  pub is : pass_one bounded (act_held later) (acts_held earlier) ≡ Ok (act_held l, acts_held es)
  pub later_settled : IsSettled l
  pub earlier_settled : All IsSettled es
  pub long : length es ≡ length earlier

-- ---- many operations and many

abbrev pub later_fronts : {A E : Type 0} → List A → Result (List A × List A) E → Result (List A × List A) E
later_fronts xs (Ok p) = Ok (xs ++ p.0, p.1)
later_fronts xs (Err e) = Err e

pub record IsGridded (later : List WaveletOp) (earlier : List Held) (ls : List WaveletOp) (es : List Held) : Type 0 where
  pub is : grid_by bounded 0 (meanings later) (acts_held earlier) ≡ Ok (meanings ls, acts_held es)
  pub later_normal : AreNormal ls
  pub earlier_settled : All IsSettled es
  pub later_long : length ls ≡ length later
  pub earlier_long : length es ≡ length earlier
