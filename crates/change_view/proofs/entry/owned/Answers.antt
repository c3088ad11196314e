use Rattle.std.proofs.Common.{ap, ◌∙◌}
use Rattle.std.specs.Str.{encode_utf8_all}
use Rattle.std.proofs.lemmas.Str.{encodes-chars}
use Rattle.change_view.proofs.entry.owned.Goals as goal

pub returns-clause-same : goal.returns-clause-same
returns-clause-same c = ap encode_utf8_all c.in_ok-copy.ensures ∙ encodes-chars c.args.text.now c.utf8.text
