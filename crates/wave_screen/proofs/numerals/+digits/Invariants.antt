use Rattle.std.proofs.Common.{length}
use Rattle.wave_screen.proofs.numerals.+digits.Given as goal

abbrev pub decreases-digits : goal.decreases-digits
decreases-digits l = length l.bytes.now
