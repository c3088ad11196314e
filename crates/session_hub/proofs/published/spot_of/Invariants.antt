use Rattle.std.proofs.Common.{◌≡◌, ◌++◌, map, take, drop}
use Rattle.shard_marks.specs.Told.{name_put}
use Rattle.session_hub.proofs.published.spot_of.Given as goal

abbrev pub invariant-loop-place : goal.invariant-loop-place
invariant-loop-place l =
    name_put l.name (map (λ n. n.now) l.names) ≡ take l.place (map (λ n. n.now) l.names) ++ name_put l.name (drop l.place (map (λ n. n.now) l.names))
