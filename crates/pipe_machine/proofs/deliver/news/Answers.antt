use Rattle.std.proofs.Common.{◌≡◌, true, rules, subst}
use Rattle.pipe_machine.proofs.Placing.{ok_by}
use Rattle.pipe_machine.proofs.Telling.{delivered_of, after_of, told_of}
use Rattle.pipe_machine.proofs.deliver.news.Goals as goal

pub returns-clause-sent : goal.returns-clause-sent
returns-clause-sent g c = search (rules, delivered_of c.args.shelf.now c.copies_are_hosted.ensures.copies c.args.session.now)

pub returns-clause-after : goal.returns-clause-after
returns-clause-after g c = search (rules, after_of c.args.shelf.now c.copies_are_hosted.ensures.copies c.args.session.now)

pub returns-clause-told : goal.returns-clause-told
returns-clause-told g c = ok_by c.deliver.result (λ told. subst (λ b. b ≡ true) (told_of c.args.shelf.now c.copies_are_hosted.ensures.copies c.deliver.new.self) told) c.deliver.ensures.current
