use Rattle.std.proofs.Common.{sym, ◌∙◌}
use Rattle.op_json.proofs.Counts.{members_len-view}
use Rattle.json_fields.proofs.members.member_count.Goals as goal

pub returns-in-Some : goal.returns-in-Some
returns-in-Some c = rw (← c.in-Some.ensures) (c.len.ensures.len ∙ sym (members_len-view _))
