use Rattle.std.proofs.Common.{◌≡◌, ◌++◌}
use Rattle.wave_index.specs.Inboxes.{hits_among}
use Rattle.wave_index.proofs.index.Index.read_hits.Given as goal

abbrev pub invariant-loop-wavelet : goal.invariant-loop-wavelet
invariant-loop-wavelet l = l.hits.items ++ hits_among l.wavelet-iterator l.user l.word ≡ hits_among l.initial.wavelet-iterator l.user l.word
