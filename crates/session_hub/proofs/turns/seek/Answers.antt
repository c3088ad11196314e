use Rattle.std.proofs.Common.{rules}
use Rattle.replica_store.specs.Listings.{IsSought}
use Rattle.shard_marks.specs.Marks.{copied}
use Rattle.turn_lock.specs.Passes.{seen}
use Rattle.session_hub.specs.Items.{items_of}
use Rattle.session_hub.proofs.Turning.{later_of, shard_moment}
use Rattle.session_hub.proofs.turns.seek.Goals as goal

pub returns-in_err-sought-clause-later : goal.returns-in_err-sought-clause-later
returns-in_err-sought-clause-later g c = later_of _ _ _ c.in_ok-guard.ensures.value (search rules)

pub returns-clause-later : goal.returns-clause-later
returns-clause-later g c = later_of _ _ _ c.in_ok-guard.ensures.value (search rules)

pub returns-clause-sought : goal.returns-clause-sought
returns-clause-sought g c = λ d k own.
    let moment = shard_moment (λ d k ms. IsSought (items_of c.args.wanted c.args.domain.now (copied d k ms)) c.args.place c.in_ok-sought.field-0) (seen c.args.pass.now) (seen c.pass-2-1.given.0) c.in_ok-guard.guard.value c.value.result.now d k own c.in_ok-guard.ensures.value c.value.ensures.value (search rules) c.in_ok-sought.ensures in
    search (rules, moment)
