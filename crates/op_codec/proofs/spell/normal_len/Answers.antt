use Rattle.std.proofs.Common.{◌∙◌, ap, length, arith}
use Rattle.op_codec.specs.Spelling.{spelling, capped}
use Rattle.op_codec.proofs.spell.normal_len.Goals as goal

pub returns : goal.returns
returns c = c.size.ensures ∙ c.add_components.ensures.size 0 c.new-meter.ensures ∙ ap capped (omega arith) ∙ ap (λ cs. capped (length (spelling cs))) c.requires
