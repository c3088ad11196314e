-- What a follower's user does to the wavelet.
--     submit_bytes            how many bytes the operations have at most that a follower puts into one submission
--     is_short acts           they have no more bytes, in normal form
--     IsFault r e             the fault e tells why r is refused
--     edit_within n f acts    the follower with the acts after what is pending. In order: they aren't valid at the screen; more than n
--                             items are inserted together; they have too many bytes
--     edit f acts             the same within the bound of a history
--     fitting acts            acts compacted, where these are few and short enough for a submission
--     gather entry rest       the first entry joined with as many of the others as fit, and those that are left
--     sent_by f acts          the submission with these acts
--     submit f                the submission that is taken, where nothing is in flight and an entry waits, and the follower with it
--                             in flight. In order: the first entry alone doesn't fit; the numbers are spent
use Rattle.std.specs.Prelude.{◌≡◌, ℕ, suc, ◌+◌, Bool, true, false, cond, ◌&&◌, nat_le, List, [], ◌∷◌, ◌++◌, length, Option, Some, None, Result, Ok, Err, option_and_then}
use Rattle.std.specs.Option.{option_map, option_map_or}
use Rattle.std.specs.Result.{result_ok}
use Rattle.doc_items.specs.Limits.{max_count}
use Rattle.wavelet_op.specs.Acts.{Act, inserted}
use Rattle.wavelet_op.specs.Compacts.{bounded_compact}
use Rattle.wavelet_op.specs.Deltas.{is_count}
use Rattle.wavelet_op.specs.States.{State, run, first_invalid}
use Rattle.wavelet_op.specs.declared.delta.Submission.{Submission}
use Rattle.wavelet_codec.specs.Spelling.{ops_bytes}
use Rattle.wavelet_state.specs.Snapshots.{max_inserted}
use Rattle.delta_history.specs.Verdicts.{ops_of}
use Rattle.follower_rules.specs.declared.fault.FollowerFault.{FollowerFault}
use Rattle.follower_rules.specs.declared.fault.FollowerFault.TheVariants.{OpInvalid, EditFull, TooBig, NumbersSpent, Memory}
use Rattle.follower_rules.specs.Followers.{Flight, FollowerOf, inserted_all, pending, screen, moved}

abbrev pub submit_bytes : ℕ
submit_bytes = 100000

abbrev pub is_short : List Act → Bool
is_short acts = nat_le (length (ops_bytes (ops_of acts))) submit_bytes

abbrev pub IsFault : {X : Type 0} → Result X FollowerFault → FollowerFault → Type 0
IsFault r (OpInvalid k) = r ≡ Err (OpInvalid k)
IsFault r EditFull = r ≡ Err EditFull
IsFault r TooBig = r ≡ Err TooBig
IsFault r NumbersSpent = r ≡ Err NumbersSpent
IsFault r Memory = Unit {0}

-- ---- an edit

abbrev pub queued : FollowerOf → List Act → FollowerOf
queued f acts = moved f f.here f.flight (f.queue ++ acts ∷ [])

abbrev pub Edited : Type 0
Edited = Result FollowerOf FollowerFault

abbrev pub edit_short : FollowerOf → List Act → Bool → Edited
edit_short f acts false = Err TooBig
edit_short f acts true = Ok (queued f acts)

abbrev pub edit_held : FollowerOf → List Act → Bool → Edited
edit_held f acts false = Err EditFull
edit_held f acts true = edit_short f acts (is_short acts)

abbrev pub edit_run : ℕ → FollowerOf → List Act → State → Option State → Edited
edit_run most f acts s None = Err (OpInvalid (first_invalid s acts))
edit_run most f acts s (Some t) = edit_held f acts (nat_le (inserted_all (pending f) + inserted acts) most)

abbrev pub edit_shown : ℕ → FollowerOf → List Act → Option State → Edited
edit_shown most f acts None = Err (OpInvalid 0)
edit_shown most f acts (Some s) = edit_run most f acts s (run s acts)

abbrev pub edit_within : ℕ → FollowerOf → List Act → Edited
edit_within most f acts = edit_shown most f acts (screen f)

abbrev pub edit : FollowerOf → List Act → Edited
edit f acts = edit_within max_inserted f acts

-- ---- a submission

abbrev pub if_fits : List Act → Option (List Act)
if_fits acts = cond (is_count (length acts) && is_short acts) (Some acts) None

abbrev pub fitting : List Act → Option (List Act)
fitting acts = option_and_then if_fits (result_ok (bounded_compact acts))

-- the acts joined so far, as they were queued and compacted, and the entries that are left
abbrev pub Gathered : Type 0
Gathered = List Act × List (List Act)

abbrev pub gather_on : List Act → List Act → List (List Act) → Gathered
gather_on raw acts [] = (acts, [])
gather_on raw acts (entry ∷ rest) = option_map_or (λ more. gather_on (raw ++ entry) more rest) (fitting (raw ++ entry)) (acts, entry ∷ rest)

abbrev pub gather : List Act → List (List Act) → Option Gathered
gather entry rest = option_map (λ acts. gather_on entry acts rest) (fitting entry)

abbrev pub sent_by : FollowerOf → List Act → Submission
sent_by f acts = record {
  id = record { author = f.client.author; client = f.client.client; number = f.next };
  at = f.here.at;
  ops = ops_of acts;
}

abbrev pub submitting : FollowerOf → Gathered → FollowerOf
submitting f g = record {
  name = f.name;
  client = f.client;
  here = f.here;
  flight = Some
      (record { sent = sent_by f g.0; acts = g.0 });
  queue = g.1;
  next = suc f.next;
}

abbrev pub Submitted : Type 0
Submitted = Result (Option Submission × FollowerOf) FollowerFault

abbrev pub take_numbered : FollowerOf → Gathered → Bool → Submitted
take_numbered f g false = Err NumbersSpent
take_numbered f g true = Ok (Some (sent_by f g.0), submitting f g)

abbrev pub take_gathered : FollowerOf → Option Gathered → Submitted
take_gathered f None = Err TooBig
take_gathered f (Some g) = take_numbered f g (nat_le f.next max_count)

abbrev pub take_queued : FollowerOf → List (List Act) → Submitted
take_queued f [] = Ok (None, f)
take_queued f (entry ∷ rest) = take_gathered f (gather entry rest)

abbrev pub take_unless : FollowerOf → Option Flight → Submitted
take_unless f (Some g) = Ok (None, f)
take_unless f None = take_queued f f.queue

abbrev pub submit : FollowerOf → Submitted
submit f = take_unless f f.flight
