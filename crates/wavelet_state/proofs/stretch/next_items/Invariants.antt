use Rattle.std.proofs.Common.{◌≡◌, take, drop}
use Rattle.wavelet_state.proofs.stretch.next_items.Given as goal

abbrev pub invariant-loop : goal.invariant-loop
invariant-loop l = (l.items.items ≡ take l.counter l.initial.reader) × (l.reader ≡ drop l.counter l.initial.reader)
