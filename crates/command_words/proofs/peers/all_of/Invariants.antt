use Rattle.std.proofs.Common.{◌≡◌, ◌++◌, drop, map, option_map}
use Rattle.command_words.specs.Peers.{all_of}
use Rattle.command_words.proofs.peers.all_of.Given as goal

abbrev pub invariant-loop-part : goal.invariant-loop-part
invariant-loop-part l =
    all_of (map (λ s. s.now) l.parts) ≡ option_map (λ ps. l.list.items ++ ps) (all_of (map (λ s. s.now) (drop l.part-index l.parts)))
