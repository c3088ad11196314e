use Rattle.std.proofs.Common.{length}
use Rattle.std.proofs.Math.Seq.{take-length}
use Rattle.wave_program.specs.Words.{usage}
use Rattle.wave_program.proofs.words.write_usage.Goals as goal

pub returns-in-Ok : goal.returns-in-Ok
returns-in-Ok g c = (length usage, rw (take-length usage, ← c.as_bytes.ensures.value) c.in-Ok.ensures.ok, λ _. take-length usage)
