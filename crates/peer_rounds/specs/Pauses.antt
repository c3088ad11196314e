-- How long a peer pauses.
--     IsUnpaused p      it pauses no turn, and after the next cut one
--     IsShorter p q     it pauses one turn less
--     IsLonger p q      it pauses as long as it was to pause after the next cut, and after that one twice as long, at most 16 turns
--     PausesAfter s p q    what comes of the pause with a step that came to this
use Rattle.std.specs.Prelude.{◌≡◌, ◌+◌, min}
use Rattle.federation_link.specs.declared.stepped.Stepped.{Stepped}
use Rattle.federation_link.specs.declared.stepped.Stepped.TheVariants as came_to
use Rattle.peer_rounds.specs.declared.pause.Pause.{Pause}

abbrev pub IsUnpaused : Pause → Type 0
IsUnpaused p = (p.left ≡ 0) × (p.next ≡ 1)

abbrev pub IsShorter : Pause → Pause → Type 0
IsShorter p q = (q.left + 1 ≡ p.left) × (q.next ≡ p.next)

abbrev pub IsLonger : Pause → Pause → Type 0
IsLonger p q = (q.left ≡ p.next) × (q.next ≡ min (p.next + p.next) 16)

abbrev pub PausesAfter : Stepped → Pause → Pause → Type 0
PausesAfter came_to.Dialled p q = q ≡ p
PausesAfter came_to.Worked p q = IsUnpaused q
PausesAfter came_to.Idle p q = IsUnpaused q
PausesAfter came_to.Cut p q = IsLonger p q
