use Rattle.std.proofs.Common.{◌≡◌, ◌+◌, drop, map, option_map}
use Rattle.client_session.specs.Machine.{place_of}
use Rattle.client_session.specs.Seats.{seat_of}
use Rattle.client_session.proofs.state.place_in.Given as goal

abbrev pub invariant-loop-place : goal.invariant-loop-place
invariant-loop-place l = place_of l.name (map seat_of l.seats) ≡ option_map (λ i. i + l.place) (place_of l.name (map seat_of (drop l.place l.seats)))
