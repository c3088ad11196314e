-- What passes between a follower and the host.
--     Meeting            the host's deltas and a follower
--     lacking h v        the deltas of h from version v on
--     received f ds      the follower after deltas that it receives in turn
--     caught_up h f      after all that it lacks
--     answered c f s j   after the verdict on its submission; where that is a refusal, nothing is pending any more
--     unsent c           where the follower refuses to give a submission: nothing is submitted, and what it has pending is dropped
--     exchanged t c      a submission is taken, if there is one, and submitted at the time t; then the follower catches up
--     settling t n c     so again, at most n times, until nothing is pending
use Rattle.std.specs.Prelude.{ℕ, zero, suc, cond, List, [], ◌∷◌, drop, Some, None, Ok, Err}
use Rattle.wavelet_op.specs.Deltas.{DeltaOf}
use Rattle.wavelet_op.specs.declared.delta.Submission.{Submission}
use Rattle.delta_history.specs.Places.{started_below}
use Rattle.delta_history.specs.Verdicts.{Judged, judge}
use Rattle.follower_rules.specs.Followers.{FollowerOf, pending, dropped}
use Rattle.follower_rules.specs.Receiving.{receive}
use Rattle.follower_rules.specs.Submitting.{Submitted, submit}
use Rattle.client_control.specs.Parts.{settled}
use Rattle.wave_world.specs.Worlds.{grown, take_answer}
use Rattle.load_script.specs.Names.{the_wavelet}

pub record Meeting : Type 0 where
  pub host : List DeltaOf
  pub follower : FollowerOf

abbrev pub meeting : List DeltaOf → FollowerOf → Meeting
meeting h f = record { host = h; follower = f }

-- ---- deltas

abbrev pub lacking : List DeltaOf → ℕ → List DeltaOf
lacking h v = drop (started_below v h) h

abbrev pub received : FollowerOf → List DeltaOf → FollowerOf
received f [] = f
received f (d ∷ ds) = received (receive f d).1 ds

unfoldable pub caught_up : List DeltaOf → FollowerOf → FollowerOf
caught_up h f = received f (lacking h f.here.at.version)

-- ---- submissions

abbrev pub answered : List DeltaOf → FollowerOf → Submission → Judged → Meeting
answered h f s j = meeting (grown h j.1) (take_answer f (record { id = s.id; verdict = j.0 }))

abbrev pub unsent : Meeting → Meeting
unsent c = meeting c.host (dropped c.follower)

abbrev pub submitted : ℕ → Meeting → Submitted → Meeting
submitted t c (Ok (None, f)) = meeting c.host f
submitted t c (Ok (Some s, f)) = answered c.host f s (judge the_wavelet c.host s t)
submitted t c (Err e) = unsent c

abbrev pub level : Meeting → Meeting
level c = meeting c.host (caught_up c.host c.follower)

unfoldable pub exchanged : ℕ → Meeting → Meeting
exchanged t c = level (submitted t c (submit c.follower))

unfoldable pub settling : ℕ → ℕ → Meeting → Meeting
settling t zero c = c
settling t (suc n) c = cond (settled (pending c.follower)) c (settling t n (exchanged t c))
