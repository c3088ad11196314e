use Rattle.std.proofs.Common.{rules, ap, ◌∙◌}
use Rattle.hosted_copies.specs.Domains.{is_hosted_by}
use Rattle.shard_marks.specs.Givings.{gift_mark}
use Rattle.shard_marks.proofs.Copying.{gift_name, given_nothing}
use Rattle.session_hub.specs.Entries.{entries_of}
use Rattle.session_hub.proofs.shard.Shard.give.Goals as goal

pub returns-then-is_hosted_by-clause-given : goal.returns-then-is_hosted_by-clause-given
returns-then-is_hosted_by-clause-given g c =
    let s = c.args.self.now in
    let n = c.args.name.now in
    given_nothing s.domain s.number (entries_of s) (gift_mark n c.args.giving.now) c.unowned.result (ap (is_hosted_by s.domain) (gift_name n c.args.giving.now) ∙ (search rules)) c.unowned.ensures
