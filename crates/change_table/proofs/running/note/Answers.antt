use Rattle.std.proofs.lemmas.Result.{on_ok_weaker}
use Rattle.change_table.proofs.Others.{noted_more, noted_there}
use Rattle.change_table.proofs.running.note.Goals as goal

pub returns-clause-more : goal.returns-clause-more
returns-clause-more c = noted_more c.put.result c.args.others.now c.put.new.self _ _ c.put.ensures.ok c.put.ensures.kept

pub returns-clause-there : goal.returns-clause-there
returns-clause-there c = on_ok_weaker c.put.result (λ is none. noted_there c.args.others.now c.put.new.self c.in_ok-copy.field-0 c.args.change.now c.in_ok-copy.ensures is) c.put.ensures.ok
