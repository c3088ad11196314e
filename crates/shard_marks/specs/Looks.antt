-- Moments of a shard's history.
--     Look               as it is declared: a shard, and the length of its history at that moment
--     IsLook k ms l      the look is of this shard, at the moment of the last of these marks
--     Cut ms l cut       the marks that were there at the moment of the look, of the marks of each shard
--     Tells sent n r     what a look at the length tells: nothing where it is what was sent, else the length
use Rattle.std.specs.Prelude.{◌≡◌, ◌≢◌, ℕ, List, length}
use mathlib.Core.List.{IsPrefix}
use Rattle.shard_marks.specs.declared.mark.Mark.{Mark}
use Rattle.shard_marks.specs.declared.look.Look.{Look}
use Rattle.shard_marks.specs.declared.look.News.{News}
use Rattle.shard_marks.specs.declared.look.News.TheVariants.{Nothing, Grown}

pub record IsLook (k : ℕ) (ms : List Mark) (l : Look) : Type 0 where
  pub shard : l.shard ≡ k
  pub length : l.length ≡ length ms

pub record IsCut (marks : ℕ → List Mark) (l : Look) (cut : List Mark) : Type 0 where
  pub begins : IsPrefix cut (marks l.shard)
  pub whole : l.length ≡ length cut

abbrev pub Tells : ℕ → ℕ → News → Type 0
Tells sent n Nothing = n ≡ sent
Tells sent n (Grown m) = (m ≡ n) × (n ≢ sent)
