use Rattle.message_json.proofs.Back.{update_back}
use Rattle.message_json.proofs.server_value.update_of.Goals as goal

pub returns-clause-back : goal.returns-clause-back
returns-clause-back c =
    update_back c.args.name.now (record { id = c.args.id.now; from = c.args.from.now; time = c.args.time; ops = c.args.ops.now }) c.in_ok-members.ensures.good c.in_ok-put_id.ensures.good c.in_ok-put_version.ensures.good c.requires.time c.in_ok-put_ops.ensures.back c.requires.normal
