use Rattle.std.proofs.Common.{rules, ◌≡◌, option_copied, length, ap, sym, ◌∙◌}
use Rattle.session_core.specs.News.{reply_message}
use Rattle.session_hub.specs.Entries.{entries_of}
use Rattle.turn_lock.specs.Passes.{seen}
use Rattle.session_hub.proofs.Turning.{later_of, attached_moment}
use Rattle.session_hub.proofs.turns.attach.Goals as goal

pub returns-in_err-reply-clause-later : goal.returns-in_err-reply-clause-later
returns-in_err-reply-clause-later g c = later_of _ _ _ c.in_ok-guard.ensures.value (search rules)

pub returns-clause-later : goal.returns-clause-later
returns-clause-later g c = later_of _ _ _ c.in_ok-guard.ensures.value (search rules)

pub returns-clause-reply : goal.returns-clause-reply
returns-clause-reply g c = λ d k own.
    let moment = attached_moment (seen c.args.pass.now) (seen c.pass-2-1.given.0) c.in_ok-guard.guard.value c.value-shard.result.now d k own c.in_ok-guard.ensures.value c.value-shard.ensures.value (search rules) (c.attach-reply.new.session, reply_message c.in_ok-reply.field-0) c.args.session.now c.args.name.now (option_copied c.args.from) c.in_ok-reply.ensures.reply in
    search (rules, moment)

pub returns-clause-length : goal.returns-clause-length
returns-clause-length g c =
    let last : seen c.pass-2-1.given.0 ≡ entries_of c.in_ok-guard.guard.value = search rules in
    c.length-length.ensures ∙ ap length (ap entries_of c.value-shard.ensures.value ∙ sym last)

pub returns-clause-unadded : goal.returns-clause-unadded
returns-clause-unadded g c =
    let same : length (entries_of c.value-shard.result.now) ≡ length (seen c.in_ok-guard.guard.pass.now) = ap length (ap entries_of c.value-shard.ensures.value ∙ c.in_ok-guard.ensures.guard.2) in
    let count = c.leave.ensures.added in
    let counts = c.in_ok-guard.ensures.counts in
    search (rules, same, count, counts)
