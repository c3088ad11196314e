use Rattle.std.proofs.Common.{lit<}
use Rattle.std.proofs.lemmas.Str.Pattern.{split_once_first}
use Rattle.wave_base.proofs.Cuts.{cuts}
use Rattle.command_words.specs.Peers.{equals}
use Rattle.command_words.proofs.peers.cut.Goals as goal

pub returns : goal.returns
returns c = cuts equals c.args.text.now _ (split_once_first equals c.args.text.now _ c.split_once.ensures.cases (lit< tt))
