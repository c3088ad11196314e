-- Room to put a link back.
--     some_room        there is some for one that is there
use Rattle.std.proofs.Common.{◌≤◌, ◌<◌, ℕ, Option, Some, None, IsSome}
use Rattle.std.proofs.lemmas.Bool.{false≢true}
use Rattle.federation_link.specs.Dials.{count_in}

pub some_room : {L : Type 0} (o : Option L) (n : ℕ) → count_in o ≤ n → IsSome o → 0 < n
some_room None n h s = absurd (false≢true s)
some_room (Some l) n h s = h
