use Rattle.std.proofs.Common.{length}
use Rattle.command_words.proofs.command.+is_cut.Given as goal

abbrev pub decreases-is_cut : goal.decreases-is_cut
decreases-is_cut l = length l.words.now
