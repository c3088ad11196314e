use Rattle.std.proofs.Common.{◌≡◌, map, take}
use Rattle.wave_server.proofs.meeting.domains_of.Given as goal

abbrev pub invariant-loop-pair : goal.invariant-loop-pair
invariant-loop-pair l = l.domains.items ≡ map (λ p. p.0) (take l.pair-index l.pairs)
