use Rattle.wave_server.proofs.Attending.{begins_turned}
use Rattle.wave_server.proofs.herald.Herald.tell_of.Goals as goal

pub returns-in-Nothing-clause-later : goal.returns-in-Nothing-clause-later
returns-in-Nothing-clause-later g c = begins_turned c.args.passes.now c.news.new.passes c.args.shard c.news.ensures.later c.news.ensures.others

pub returns-in-Grown-clause-later : goal.returns-in-Grown-clause-later
returns-in-Grown-clause-later g c = begins_turned c.args.passes.now c.news.new.passes c.args.shard c.news.ensures.later c.news.ensures.others
