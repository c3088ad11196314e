use Rattle.delta_history.proofs.Indexes.{put_first}
use Rattle.delta_history.proofs.ids.Ids.put_author.Goals as goal

pub returns-clause-ok : goal.returns-clause-ok
returns-clause-ok c = put_first c.args.self.now.authors c.insert.new.self c.args.author.now c.in_ok-author.author c.args.number c.args.place c.new-numbers.result c.put_number.new.numbers c.requires c.in_ok-author.ensures c.in_ok-_old.ensures.updates.0 c.new-numbers.ensures.empty c.in_ok-put_number.ensures.ok
