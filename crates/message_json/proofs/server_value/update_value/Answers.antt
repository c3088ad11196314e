use Rattle.std.proofs.Common.{subst, IfOk}
use Rattle.message_json.specs.Back.{IsReadBack}
use Rattle.message_json.specs.declared.message.Message.TheVariants.{Update}
use Rattle.message_json.proofs.server_value.update_value.Goals as goal

pub returns-clause-back : goal.returns-clause-back
returns-clause-back c = subst (λ x. IfOk c.update_of.result (λ _. IsReadBack (Update c.args.name.now x))) c.delta.view_is c.update_of.ensures.back
