use Rattle.std.proofs.Common.{ap, ◌∙◌}
use Rattle.std.proofs.lemmas.Result.{IfOk-weaker}
use Rattle.std.specs.Str.{encode_utf8_all}
use Rattle.std.proofs.lemmas.Str.{encodes-chars}
use Rattle.op_build.proofs.one_change.stored.Goals as goal

pub returns : goal.returns
returns c = IfOk-weaker c.from_str.result _ _ (λ t e. ap encode_utf8_all e ∙ encodes-chars c.args.text.now c.utf8.text) c.from_str.ensures
