use Rattle.message_json.proofs.Back.{parts_back}
use Rattle.message_json.proofs.server_value.snapshot_value.Goals as goal

pub returns-clause-back : goal.returns-clause-back
returns-clause-back c =
    parts_back c.args.snapshot.now c.name.result.now c.at-from.result c.inserted-inserted.result c.state-2.result.now c.state.result.now
    c.name.ensures c.at-from.ensures c.inserted-inserted.ensures.value c.state-2.ensures c.state.ensures
    c.in_ok-members.ensures.good c.in_ok-put_version.ensures.good c.inserted-inserted.ensures.bound c.inserted-inserted.ensures.items c.in_ok-put_participants.ensures.back c.in_ok-put_documents.ensures.back
