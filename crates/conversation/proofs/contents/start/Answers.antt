use Rattle.std.proofs.Common.{refl, ap, ◌∙◌}
use Rattle.std.specs.Str.{encode_utf8_all}
use Rattle.std.proofs.lemmas.Str.{encodes-chars}
use Rattle.conversation.proofs.contents.start.Goals as goal

pub returns : goal.returns
returns c = record { kind = c.in_ok-kind.kind; is = refl; spells = ap encode_utf8_all c.in_ok-kind.ensures ∙ encodes-chars c.args.kind.now c.utf8.kind }
