-- The points that a history leads through.
--     Point                  a version with its hash, the state there, and how many items were inserted up to there
--     start name             where the history of a wavelet of this name starts
--     acts_of d              the acts of a delta
--     point_behind p d s     the point after a delta that was applied at p, where s is the state after it
--     next_point p d         the point after the delta, where its acts are valid at p
--     replay p ds            the point after deltas in turn
--     run_all s ds           the state after them alone, from a state on
--     cut p v ds             the point at version v on the way from p through the deltas, and those after it; None where no delta
--                            ends there
--     point_at name ds v     the point at a version of the history; None where the version is no delta end
--     state_of o             the state of a point that was found
--     end_of name ds         the point at its head
--     IsAt name ds p         the history leads through the point
use Rattle.std.specs.Prelude.{◌≡◌, ℕ, ◌+◌, ◌==◌, cond, List, [], ◌∷◌, ◌++◌, length, Option, Some, None, option_and_then, unwrap_or}
use Rattle.std.specs.Option.{option_map}
use Rattle.wave_base.specs.Versions.{VersionAt}
use Rattle.wave_hash.specs.Chain.{zero_hash_of, next_hash_of}
use Rattle.wavelet_op.specs.Acts.{Act, meanings, inserted}
use Rattle.wavelet_op.specs.Deltas.{DeltaOf}
use Rattle.wavelet_op.specs.States.{State, empty_state, run}
use Rattle.wavelet_codec.specs.Spelling.{delta_bytes}

pub record Point : Type 0 where
  pub at : VersionAt
  pub state : State
  pub count : ℕ

abbrev pub start : List ℕ → Point
start name = record { at = record { version = 0; hash = zero_hash_of name }; state = empty_state; count = 0 }

abbrev pub acts_of : DeltaOf → List Act
acts_of d = meanings d.ops

abbrev pub version_after : VersionAt → DeltaOf → VersionAt
version_after at d = record { version = at.version + length d.ops; hash = next_hash_of at.hash (delta_bytes d) }

abbrev pub point_behind : Point → DeltaOf → State → Point
point_behind p d s = record { at = version_after p.at d; state = s; count = p.count + inserted (acts_of d) }

abbrev pub next_point : Point → DeltaOf → Option Point
next_point p d = option_map (point_behind p d) (run p.state (acts_of d))

abbrev pub replay : Point → List DeltaOf → Option Point
replay p [] = Some p
replay p (d ∷ ds) = option_and_then (λ q. replay q ds) (next_point p d)

abbrev pub run_all : State → List DeltaOf → Option State
run_all s [] = Some s
run_all s (d ∷ ds) = option_and_then (λ t. run_all t ds) (run s (acts_of d))

abbrev pub cut : Point → ℕ → List DeltaOf → Option (Point × List DeltaOf)
cut p v [] = cond (p.at.version == v) (Some (p, [])) None
cut p v (d ∷ ds) = cond (p.at.version == v) (Some (p, d ∷ ds)) (option_and_then (λ q. cut q v ds) (next_point p d))

abbrev pub point_at : List ℕ → List DeltaOf → ℕ → Option Point
point_at name ds v = option_map (λ c. c.0) (cut (start name) v ds)

abbrev pub state_of : Option Point → Option State
state_of o = option_map (λ p. p.state) o

abbrev pub end_of : List ℕ → List DeltaOf → Point
end_of name ds = unwrap_or (replay (start name) ds) (start name)

pub record IsAt (name : List ℕ) (ds : List DeltaOf) (p : Point) : Type 0 where
  pub before : List DeltaOf
  pub behind : List DeltaOf
  pub whole : before ++ behind ≡ ds
  pub leads : replay (start name) before ≡ Some p
