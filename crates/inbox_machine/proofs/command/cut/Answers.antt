use Rattle.std.proofs.lemmas.Str.Pattern.{split_once_first}
use Rattle.wave_base.proofs.Cuts.{cuts}
use Rattle.inbox_machine.proofs.command.cut.Goals as goal

pub returns : goal.returns
returns c = cuts c.args.separator c.args.text.now _ (split_once_first c.args.separator c.args.text.now _ c.split_once.ensures.cases c.requires)
