-- What a follower answers to a delta of the history, and what becomes of it.
--     past ls es              both lists, each past the other, with the bound on counts
--     rebase es acts          entries in turn past the acts of a delta, each past what the ones before left of them; and what the last
--                             one leaves
--     over g q acts           the flight and the entries so, and what is left of the acts
--     with_acts d acts        the delta with these acts for its own
--     is_own d acts           its operations are those of the acts: both spell alike
--     is_within p d           after the delta, at p, the three bounds hold: of versions, of items inserted, of bytes
--     receive f d             the answer to a delta, and the follower after it. In order: the delta starts at a lower version, at a
--                             higher one, at this one with another hash; it has the flight's id and other operations; its operations
--                             aren't valid there; a bound is broken; else the follower advances. With the flight's id and operations
--                             the flight has landed, and what waits stays; another's delta passes what is pending
use Rattle.std.specs.Prelude.{Bool, true, false, ◌&&◌, ◌==◌, nat_le, nat_lt, List, [], ◌∷◌, length, Option, Some, None, option_and_then}
use Rattle.std.specs.Cmp.Lexicographic.{pointwise}
use Rattle.std.specs.Option.{option_map}
use Rattle.std.specs.Result.{result_ok}
use Rattle.doc_items.specs.Limits.{max_count}
use Rattle.wave_base.specs.Versions.{same_id}
use Rattle.wavelet_op.specs.Acts.{Act}
use Rattle.wavelet_op.specs.Deltas.{DeltaOf}
use Rattle.wavelet_op.specs.Grids.{Lists, bounded_grid}
use Rattle.wavelet_op.specs.States.{first_invalid}
use Rattle.wavelet_codec.specs.Spelling.{delta_bytes}
use Rattle.delta_history.specs.Legal.{max_delta}
use Rattle.wavelet_state.specs.Snapshots.{max_inserted}
use Rattle.delta_history.specs.Points.{Point, acts_of, next_point}
use Rattle.delta_history.specs.Verdicts.{ops_of, same_hash}
use Rattle.follower_rules.specs.declared.received.Received.{Received}
use Rattle.follower_rules.specs.declared.received.Received.TheVariants.{Old, Gap, Diverged, OtherFlight, NotNext, Advanced}
use Rattle.follower_rules.specs.Followers.{Flight, FollowerOf, moved}

-- ---- what is pending, past the acts of a delta

abbrev pub past : List Act → List Act → Option Lists
past ls es = result_ok (bounded_grid ls es)

abbrev pub rebase : List (List Act) → List Act → Option (List (List Act) × List Act)
rebase [] acts = Some ([], acts)
rebase (entry ∷ rest) acts = option_and_then (λ p. option_map (λ r. (p.0 ∷ r.0, r.1)) (rebase rest p.1)) (past entry acts)

-- the flight, the entries, and what is left of the acts
abbrev pub Over : Type 0
Over = (Option Flight × List (List Act)) × List Act

abbrev pub over_queue : Option Flight → List (List Act) → List Act → Option Over
over_queue g q acts = option_map (λ r. ((g, r.0), r.1)) (rebase q acts)

abbrev pub over : Option Flight → List (List Act) → List Act → Option Over
over None q acts = over_queue None q acts
over (Some g) q acts = option_and_then (λ p. over_queue (Some (record { sent = g.sent; acts = p.0 })) q p.1) (past g.acts acts)

-- ---- the flight's own delta

abbrev pub with_acts : DeltaOf → List Act → DeltaOf
with_acts d acts = record { id = d.id; from = d.from; time = d.time; ops = ops_of acts }

abbrev pub is_own : DeltaOf → List Act → Bool
is_own d acts = pointwise ◌==◌ (delta_bytes d) (delta_bytes (with_acts d acts))

-- ---- the point after

abbrev pub is_within : Point → DeltaOf → Bool
is_within q d = nat_le q.at.version max_count && nat_le q.count max_inserted && nat_le (length (delta_bytes d)) max_delta

-- ---- the answer: each test is a function of what it finds

abbrev pub Answered : Type 0
Answered = Received × FollowerOf

abbrev pub no_room : FollowerOf → DeltaOf → Answered
no_room f d = (NotNext (length d.ops), f)

abbrev pub advance_with : FollowerOf → DeltaOf → Point → Option Over → Answered
advance_with f d q None = no_room f d
advance_with f d q (Some o) = (Advanced, moved f q o.0.0 o.0.1)

abbrev pub advance_within : FollowerOf → DeltaOf → Option Over → Point → Bool → Answered
advance_within f d o q false = no_room f d
advance_within f d o q true = advance_with f d q o

abbrev pub advance_to : FollowerOf → DeltaOf → Option Over → Option Point → Answered
advance_to f d o None = (NotNext (first_invalid f.here.state (acts_of d)), f)
advance_to f d o (Some q) = advance_within f d o q (is_within q d)

abbrev pub advance : FollowerOf → DeltaOf → Option Over → Answered
advance f d o = advance_to f d o (next_point f.here d)

abbrev pub receive_other : FollowerOf → DeltaOf → Answered
receive_other f d = advance f d (over f.flight f.queue (acts_of d))

abbrev pub receive_own : FollowerOf → DeltaOf → Flight → Bool → Answered
receive_own f d g false = (OtherFlight (ops_of g.acts) d.ops, f)
receive_own f d g true = advance f d (Some ((None, f.queue), []))

abbrev pub receive_id : FollowerOf → DeltaOf → Flight → Bool → Answered
receive_id f d g false = receive_other f d
receive_id f d g true = receive_own f d g (is_own d g.acts)

abbrev pub receive_flight : FollowerOf → DeltaOf → Option Flight → Answered
receive_flight f d None = receive_other f d
receive_flight f d (Some g) = receive_id f d g (same_id d.id g.sent.id)

abbrev pub receive_hash : FollowerOf → DeltaOf → Bool → Answered
receive_hash f d false = (Diverged f.here.at d.from, f)
receive_hash f d true = receive_flight f d f.flight

abbrev pub receive_gap : FollowerOf → DeltaOf → Bool → Answered
receive_gap f d true = (Gap, f)
receive_gap f d false = receive_hash f d (same_hash d.from.hash f.here.at.hash)

abbrev pub receive_old : FollowerOf → DeltaOf → Bool → Answered
receive_old f d true = (Old, f)
receive_old f d false = receive_gap f d (nat_lt f.here.at.version d.from.version)

abbrev pub receive : FollowerOf → DeltaOf → Answered
receive f d = receive_old f d (nat_lt d.from.version f.here.at.version)
