use Rattle.std.proofs.Common.{arith}
use Rattle.std.proofs.lemmas.Str.Pattern.{split_once_first}
use Rattle.wave_base.proofs.Cuts.{cuts}
use Rattle.client_commands.proofs.words.cut.Goals as goal

pub returns : goal.returns
returns c = cuts 32 c.args.text.now _ (split_once_first 32 c.args.text.now _ c.split_once.ensures.cases (omega arith))
