-- What a robot is shown of a history.
--     Seen                       a delta of a history with the point after it
--     seen_from p ds             the deltas in turn from a point on
--     is_among a as              an address is one of these
--     is_shown robots a x        the delta's author is none of the robots, and after it the address is a participant
--     view robots a h n          what the robot of an address is shown of the first n deltas of a history
--     given_by view              what `react` is given of it
use Rattle.std.specs.Prelude.{ℕ, Bool, false, not, ◌&&◌, ◌||◌, List, [], ◌∷◌, map, filter, take, is_some}
use Rattle.std.specs.Option.{option_map_or}
use Rattle.doc_items.specs.Maps.{Key, same_text}
use Rattle.wavelet_op.specs.Deltas.{DeltaOf}
use Rattle.wavelet_op.specs.States.{role_of}
use Rattle.delta_history.specs.Histories.{HistoryOf}
use Rattle.delta_history.specs.Points.{Point, start, next_point}
use Rattle.robot_host.specs.Calls.{Given}

pub record Seen : Type 0 where
  pub delta : DeltaOf
  pub after : Point

abbrev pub seen_from : Point → List DeltaOf → List Seen
seen_from p [] = []
seen_from p (d ∷ ds) = option_map_or (λ q. record { delta = d; after = q } ∷ seen_from q ds) (next_point p d) []

abbrev pub is_among : Key → List Key → Bool
is_among a [] = false
is_among a (b ∷ bs) = same_text a b || is_among a bs

abbrev pub is_shown : List Key → Key → Seen → Bool
is_shown robots a x = not (is_among x.delta.id.author robots) && is_some (role_of x.after.state a)

abbrev pub view : List Key → Key → HistoryOf → ℕ → List Seen
view robots a h n = filter (is_shown robots a) (seen_from (start h.name) (take n h.deltas))

abbrev pub given_by : List Seen → List Given
given_by xs = map (λ x. (x.delta, x.after.state)) xs
