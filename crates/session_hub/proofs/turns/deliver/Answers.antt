use Rattle.std.proofs.Common.{rules, ◌≡◌, map, length, ap, sym, ◌∙◌, inl}
use Rattle.session_hub.specs.Entries.{entries_of}
use Rattle.turn_lock.specs.Passes.{seen}
use Rattle.session_hub.proofs.Looking.{told_from}
use Rattle.session_hub.proofs.Turning.{later_of, frames_moment, after_moment, told_moment}
use Rattle.session_hub.proofs.turns.deliver.Goals as goal

pub deliver-frames-requires : goal.deliver-frames-requires
deliver-frames-requires g c =
    record { told = told_from (seen c.args.pass.now) c.in_ok-guard.guard.value c.value-shard.result.now c.args.session.now c.args.sent c.requires.told c.in_ok-guard.ensures.value c.value-shard.ensures.value }

pub leave-requires-clause-one : goal.leave-requires-clause-one
leave-requires-clause-one g c = inl (c.deliver-frames.ensures.marks ∙ ap entries_of c.value-shard.ensures.value ∙ c.in_ok-guard.ensures.guard.2)

pub returns-in_err-frames-clause-later : goal.returns-in_err-frames-clause-later
returns-in_err-frames-clause-later g c = later_of _ _ _ c.in_ok-guard.ensures.value (search rules)

pub returns-clause-later : goal.returns-clause-later
returns-clause-later g c = later_of _ _ _ c.in_ok-guard.ensures.value (search rules)

pub returns-clause-frames : goal.returns-clause-frames
returns-clause-frames g c = λ d k own.
    let moment = frames_moment (seen c.args.pass.now) (seen c.pass-2-1.given.0) c.in_ok-guard.guard.value c.value-shard.result.now d k own c.in_ok-guard.ensures.value c.value-shard.ensures.value (search rules) (map (λ v. v.items) c.in_ok-frames.field-0.items) c.args.session.now c.in_ok-frames.ensures.frames in
    search (rules, moment)

pub returns-clause-after : goal.returns-clause-after
returns-clause-after g c = λ d k own.
    let moment = after_moment (seen c.args.pass.now) (seen c.pass-2-1.given.0) c.in_ok-guard.guard.value c.value-shard.result.now d k own c.in_ok-guard.ensures.value c.value-shard.ensures.value (search rules) c.deliver-frames.new.session c.args.session.now c.in_ok-frames.ensures.after in
    search (rules, moment)

pub returns-clause-told : goal.returns-clause-told
returns-clause-told g c = λ d k own.
    let moment = told_moment (seen c.args.pass.now) (seen c.pass-2-1.given.0) c.in_ok-guard.guard.value c.value-shard.result.now d k own c.in_ok-guard.ensures.value c.value-shard.ensures.value (search rules) c.deliver-frames.new.session c.in_ok-frames.ensures.told in
    search (rules, moment)

pub returns-clause-length : goal.returns-clause-length
returns-clause-length g c =
    let last : seen c.pass-2-1.given.0 ≡ entries_of c.in_ok-guard.guard.value = search rules in
    c.length-length.ensures ∙ ap length (ap entries_of c.value-shard.ensures.value ∙ sym last)
