-- What an adapter stands over, `reader_of` and `writer_of`, and its count, `source_faults` and `sink_faults`.
use Rattle.std.specs.Prelude.{ℕ}
use Rattle.wave_outside.specs.declared.streams.ReaderSource.{ReaderSource}
use Rattle.wave_outside.specs.declared.streams.WriterSink.{WriterSink}

abbrev pub reader_of : {R : Type 0} → ReaderSource R → R
reader_of s = s.reader

abbrev pub writer_of : {W : Type 0} → WriterSink W → W
writer_of s = s.writer

abbrev pub source_faults : {R : Type 0} → ReaderSource R → ℕ
source_faults s = s.faults.count

abbrev pub sink_faults : {W : Type 0} → WriterSink W → ℕ
sink_faults s = s.faults.count
