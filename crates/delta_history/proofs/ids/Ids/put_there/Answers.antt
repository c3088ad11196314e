use Rattle.std.proofs.Common.{sym, ap, ◌∙◌, is_some, true≢false}
use Rattle.std.specs.Option.{option_copied_mut}
use Rattle.delta_history.proofs.Indexes.{put_more, same_in, on_ok, on_err}
use Rattle.delta_history.proofs.ids.Ids.put_there.Goals as goal

pub returns-in-Some-clause-ok : goal.returns-in-Some-clause-ok
returns-in-Some-clause-ok c =
    let was = sym c.get_mut.ensures.value ∙ ap option_copied_mut c.in-Some.is in
    let up = (c.get_mut.follows.holds c.put_number.new.numbers).3 c.requires in
    on_ok c.put_number.result c.put_number.ensures.ok (put_more c.args.self.now.authors (c.get_mut.follows.lender c.put_number.new.numbers) c.args.author.now c.args.number c.args.place c.in-Some.numbers.now c.put_number.new.numbers was up.0)

pub returns-in-Some-clause-err : goal.returns-in-Some-clause-err
returns-in-Some-clause-err c =
    let was = sym c.get_mut.ensures.value ∙ ap option_copied_mut c.in-Some.is in
    let up = (c.get_mut.follows.holds c.put_number.new.numbers).3 c.requires in
    on_err c.put_number.result c.put_number.ensures.err (same_in c.args.self.now.authors (c.get_mut.follows.lender c.put_number.new.numbers) c.args.author.now c.in-Some.numbers.now c.put_number.new.numbers was up.0)

pub returns-in-None-clause-ok : goal.returns-in-None-clause-ok
returns-in-None-clause-ok c = absurd (true≢false (sym c.requires ∙ ap is_some (sym c.get_mut.ensures.value ∙ ap option_copied_mut c.in-None.is)))
