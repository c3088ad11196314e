use Rattle.std.proofs.Common.{length}
use Rattle.pipe_machine.proofs.reply.+reply_among.Given as goal

abbrev pub decreases-reply_among : goal.decreases-reply_among
decreases-reply_among g l = length l.runs.now
