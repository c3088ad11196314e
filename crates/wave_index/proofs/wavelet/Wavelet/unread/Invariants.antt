use Rattle.std.proofs.Common.{◌≡◌, ◌≤◌, ◌+◌, drop}
use Rattle.wave_index.specs.Blips.{unread}
use Rattle.wave_index.proofs.wavelet.Wavelet.unread.Given as goal

abbrev pub invariant-loop-node : goal.invariant-loop-node
invariant-loop-node l = record {
  counted : l.count + unread l.self.deltas l.mark (drop l.node-index l.nodes) ≡ unread l.self.deltas l.mark l.nodes;
  few : l.count ≤ l.node-index;
}
