use Rattle.std.proofs.Common.{sym, ◌∙◌}
use Rattle.wave_screen.proofs.Showing.{threads_none}
use Rattle.wave_screen.proofs.screen.threads_of.Goals as goal

pub returns-in-None : goal.returns-in-None
returns-in-None c = c.from_vec.ensures ∙ c.new.ensures.items ∙ sym (threads_none c.args.state.now (rw c.in-None.is at c.in_ok-manifest.ensures))
