-- The load of a number: what it makes of a host and four followers.
--     Load               the state of the draws, the host's deltas and the followers
--     first n            as it begins
--     moved who g l      what g makes of the draws and of the meeting of the follower at a place with the host
--     on who g l         so, where nothing is drawn
--     each g l           so for each follower, in order
--     founded n          user 0 has added all users
--     turned i choice x c    what a follower does at the time i
--     step i l           a turn of a follower that is drawn
--     steps n l          the steps from 1 to n
--     loaded n           after them, with all followers settled and level
--     Shows l f          a follower's screen is the host's state
--     summary l          the version, the number of letters and the hash at the head
use Rattle.std.specs.Prelude.{◌≡◌, ℕ, zero, suc, List, [], length, map, slice_get, slice_set, Option, Some, None}
use Rattle.std.specs.Option.{option_map}
use Rattle.doc_items.specs.Maps.{Key}
use Rattle.wavelet_op.specs.Deltas.{DeltaOf}
use Rattle.wavelet_op.specs.States.{document_of}
use Rattle.delta_history.specs.Points.{Point, end_of}
use Rattle.follower_rules.specs.Followers.{ClientOf, FollowerOf, new_follower, screen}
use Rattle.load_script.specs.Draws.{next, drawn}
use Rattle.load_script.specs.Edits.{types, erases, invited}
use Rattle.load_script.specs.Exchanges.{Meeting, meeting, level, exchanged, settling}
use Rattle.load_script.specs.Names.{the_wavelet, the_document, users}
use Rattle.load_script.specs.declared.choice.Choice.{Choice}
use Rattle.load_script.specs.declared.choice.Choice.TheVariants.{Types, Erases, Exchanges}
use Rattle.load_script.specs.declared.summary.Summary.{Summary}

pub record Load : Type 0 where
  pub draws : ℕ
  pub host : List DeltaOf
  pub followers : List FollowerOf

abbrev pub client : Key → ClientOf
client user = record { author = user; client = 1 }

abbrev pub first : ℕ → Load
first n = record { draws = n; host = []; followers = map (λ u. new_follower the_wavelet (client u)) users }

-- ---- one follower, and all

abbrev pub placed : Load → ℕ → Option (ℕ × Meeting) → Load
placed l who None = l
placed l who (Some p) = record { draws = p.0; host = p.1.host; followers = slice_set l.followers who p.1.follower }

unfoldable pub moved : ℕ → (Meeting → ℕ × Meeting) → Load → Load
moved who g l = placed l who (option_map (λ f. g (meeting l.host f)) (slice_get l.followers who))

abbrev pub on : ℕ → (Meeting → Meeting) → Load → Load
on who g l = moved who (λ c. (l.draws, g c)) l

unfoldable pub each : (Meeting → Meeting) → Load → Load
each g l = on 3 g (on 2 g (on 1 g (on 0 g l)))

abbrev pub founding : Meeting → Meeting
founding c = exchanged 0 (meeting c.host (invited c.follower))

unfoldable pub founded : ℕ → Load
founded n = each level (on 0 founding (first n))

-- ---- turns

abbrev pub choice_of : ℕ → Choice
choice_of zero = Types
choice_of (suc zero) = Types
choice_of (suc (suc zero)) = Erases
choice_of (suc (suc (suc n))) = Exchanges

abbrev pub edited : Meeting → ℕ × FollowerOf → ℕ × Meeting
edited c p = (p.0, meeting c.host p.1)

unfoldable pub turned : ℕ → Choice → ℕ → Meeting → ℕ × Meeting
turned i Types x c = edited c (types x c.follower)
turned i Erases x c = edited c (erases x c.follower)
turned i Exchanges x c = (x, exchanged i c)

abbrev pub with_draws : Load → ℕ → Load
with_draws l x = record { draws = x; host = l.host; followers = l.followers }

unfoldable pub step : ℕ → Load → Load
step i l = moved (drawn 4 l.draws) (turned i (choice_of (drawn 4 (next l.draws))) (next (next l.draws)))
    (with_draws l (next (next l.draws)))

unfoldable pub steps : ℕ → Load → Load
steps zero l = l
steps (suc n) l = step (suc n) (steps n l)

-- ---- the end

-- so many exchanges are enough, since a follower has made no more edits
abbrev pub settles : ℕ → Meeting → Meeting
settles n = settling (suc n) (suc n)

unfoldable pub loaded : ℕ → Load
loaded n = each level (each (settles n) (steps n (founded n)))

abbrev pub head : Load → Point
head l = end_of the_wavelet l.host

abbrev pub Shows : Load → FollowerOf → Type 0
Shows l f = screen f ≡ Some (head l).state

unfoldable pub summary : Load → Summary
summary l = record { version = (head l).at.version; items = length (document_of (head l).state the_document); hash = (head l).at.hash }
