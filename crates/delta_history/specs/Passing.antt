-- Acts on their way through a history.
--     all_acts ds                        the acts of each delta
--     pass_to p e acts ds                acts as later ones through the deltas from the point p on, up to version e
--     pass_between name ds b e acts      acts through the deltas from version b up to e; None where b or e is no delta end, or where two
--                                        acts have no transform
--     IsPassed name ds b e acts acts'    acts that were made at one hashed version, passed through the deltas up to another
use Rattle.std.specs.Prelude.{◌≡◌, ℕ, ◌==◌, cond, List, [], ◌∷◌, ◌++◌, map, Option, Some, None, option_and_then}
use Rattle.wave_base.specs.Versions.{VersionAt}
use Rattle.wavelet_op.specs.Acts.{Act}
use Rattle.wavelet_op.specs.Deltas.{DeltaOf}
use Rattle.wavelet_op.specs.Grids.{grid, pass}
use Rattle.delta_history.specs.Points.{Point, acts_of, start, next_point, replay, cut}

abbrev pub all_acts : List DeltaOf → List (List Act)
all_acts ds = map acts_of ds

abbrev pub pass_to : Point → ℕ → List Act → List DeltaOf → Option (List Act)
pass_to p e acts [] = cond (p.at.version == e) (Some acts) None
pass_to p e acts (d ∷ ds) = cond (p.at.version == e) (Some acts)
    (option_and_then (λ q. option_and_then (λ g. pass_to q e g.0 ds) (grid acts (acts_of d))) (next_point p d))

abbrev pub pass_between : List ℕ → List DeltaOf → ℕ → ℕ → List Act → Option (List Act)
pass_between name ds b e acts = option_and_then (λ c. pass_to c.0 e acts c.1) (cut (start name) b ds)

pub record IsPassed (name : List ℕ) (ds : List DeltaOf) (b e : VersionAt) (acts acts' : List Act) : Type 0 where
  pub before : List DeltaOf
  pub between : List DeltaOf
  pub behind : List DeltaOf
  pub base : Point
  pub end : Point
  pub whole : before ++ (between ++ behind) ≡ ds
  pub is_base : replay (start name) before ≡ Some base
  pub at_base : base.at ≡ b
  pub is_end : replay base between ≡ Some end
  pub at_end : end.at ≡ e
  pub passed : pass acts (all_acts between) ≡ Some acts'
