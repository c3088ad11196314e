use Rattle.std.proofs.Common.{rules, ◌≡◌, length, ap, sym, ◌∙◌}
use Rattle.session_core.specs.Answers.{had}
use Rattle.shard_marks.specs.Marks.{shown_at}
use Rattle.session_hub.specs.Entries.{entries_of}
use Rattle.turn_lock.specs.Passes.{seen}
use Rattle.session_hub.proofs.Turning.{later_of, shard_moment}
use Rattle.session_hub.proofs.turns.have.Goals as goal

pub returns-in_err-noted-clause-later : goal.returns-in_err-noted-clause-later
returns-in_err-noted-clause-later g c = later_of _ _ _ c.in_ok-guard.ensures.value (search rules)

pub returns-clause-later : goal.returns-clause-later
returns-clause-later g c = later_of _ _ _ c.in_ok-guard.ensures.value (search rules)

pub returns-clause-after : goal.returns-clause-after
returns-clause-after g c = λ d k own.
    let moment = shard_moment (λ d k ms. c.have-noted.new.session ≡ had (shown_at d k ms) c.args.session.now c.args.name.now c.args.from.now) (seen c.args.pass.now) (seen c.pass-2-1.given.0) c.in_ok-guard.guard.value c.value-shard.result.now d k own c.in_ok-guard.ensures.value c.value-shard.ensures.value (search rules) c.in_ok-noted.ensures.after in
    search (rules, moment)

pub returns-clause-length : goal.returns-clause-length
returns-clause-length g c =
    let last : seen c.pass-2-1.given.0 ≡ entries_of c.in_ok-guard.guard.value = search rules in
    c.length-length.ensures ∙ ap length (ap entries_of c.value-shard.ensures.value ∙ sym last)

pub returns-clause-unadded : goal.returns-clause-unadded
returns-clause-unadded g c =
    let same : length (entries_of c.value-shard.result.now) ≡ length (seen c.in_ok-guard.guard.pass.now) = ap length (ap entries_of c.value-shard.ensures.value ∙ c.in_ok-guard.ensures.guard.2) in
    let count = c.leave.ensures.added in
    let counts = c.in_ok-guard.ensures.counts in
    search (rules, same, count, counts)
