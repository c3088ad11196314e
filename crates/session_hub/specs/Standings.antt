-- What a copy has of an id before a submission of it.
--     Standing              as it is declared: the history has it, a submission of it waits, or neither
--     IsNewIn n w i         a copy of this name has neither
--     IsStandingIn n w i    what it has
--     IsNew, IsStanding     the same of the copy of a name among copies
use Rattle.std.specs.Prelude.{◌≡◌, true, false, Some, None}
use Rattle.doc_items.specs.Maps.{Key}
use Rattle.wave_base.specs.Versions.{IdOf}
use Rattle.delta_history.specs.Legal.{has_id}
use Rattle.delta_history.specs.Points.{start}
use Rattle.delta_history.specs.Verdicts.{kept}
use Rattle.follower_rules.specs.Replicas.{is_waiting}
use Rattle.replica_store.specs.Worlds.{WorldOf, Worlds, world_at}
use Rattle.session_hub.specs.declared.queueing.Standing.{Standing}
use Rattle.session_hub.specs.declared.queueing.Standing.TheVariants.{Kept, Waits, New}

pub record IsNewIn (n : Key) (w : WorldOf) (i : IdOf) : Type 0 where
  pub unkept : kept i (start n) w.replica.deltas ≡ None
  pub absent : has_id i w.replica.deltas ≡ false
  pub unwaited : is_waiting i w.replica.waiting ≡ false

abbrev pub IsStandingIn : Key → WorldOf → IdOf → Standing → Type 0
IsStandingIn n w i (Kept k) = kept i (start n) w.replica.deltas ≡ Some k
IsStandingIn n w i Waits = is_waiting i w.replica.waiting ≡ true
IsStandingIn n w i New = IsNewIn n w i

abbrev pub IsNew : Worlds → Key → IdOf → Type 0
IsNew cs n i = IsNewIn n (world_at cs n) i

abbrev pub IsStanding : Worlds → Key → IdOf → Standing → Type 0
IsStanding cs n i s = IsStandingIn n (world_at cs n) i s
