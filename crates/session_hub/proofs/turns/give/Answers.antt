use Rattle.std.proofs.Common.{rules, map, ◌≡◌, inl, inr, ap, subst, ◌∙◌, List}
use Rattle.turn_lock.specs.Passes.{seen, IsOneMore}
use Rattle.shard_marks.specs.declared.mark.Mark.{Mark}
use Rattle.shard_marks.specs.Givings.{gift_mark}
use Rattle.session_hub.specs.Entries.{entries_of}
use Rattle.session_hub.specs.Records.{mark_of}
use Rattle.session_hub.proofs.Turning.{given_by, shard_number, grown_later}
use Rattle.session_hub.proofs.turns.give.Goals as goal

pub returns-clause-given : goal.returns-clause-given
returns-clause-given g c = λ d own.
    let v = c.value.result.now in
    given_by c.args.pass.now _ d _ v.domain v.number (map mark_of v.records.items) (entries_of c.give-given.new.self) (gift_mark c.args.name.now c.args.giving.now) c.in_ok-given.field-0
    own (search rules) c.in_ok-given.ensures.given (search rules) (search rules)

pub give-given-requires : goal.give-given-requires
give-given-requires g c = record {
  own = shard_number _ c.in_ok-guard.guard.value c.value.result.now c.requires.begun.0 _ c.requires.begun.1 c.in_ok-guard.ensures.value c.value.ensures.value;
}

pub leave-requires-clause-one : goal.leave-requires-clause-one
leave-requires-clause-one g c =
    let same : entries_of c.value.result.now ≡ seen c.in_ok-guard.guard.pass.now = ap entries_of c.value.ensures.value ∙ c.in_ok-guard.ensures.guard.2 in
    elim c.give-given.ensures.one [
      | inl e ↦ inl (e ∙ same)
      | inr p ↦ inr (subst (λ (z : List Mark). IsOneMore z (entries_of c.give-given.new.self)) same p)
    ]

pub returns-in_err-given-clause-later : goal.returns-in_err-given-clause-later
returns-in_err-given-clause-later g c = grown_later _ _ _ _ _ c.in_ok-guard.ensures.value (ap entries_of c.value.ensures.value) c.give-given.ensures.one (search rules)

pub returns-clause-later : goal.returns-clause-later
returns-clause-later g c = grown_later _ _ _ _ _ c.in_ok-guard.ensures.value (ap entries_of c.value.ensures.value) c.give-given.ensures.one (search rules)

pub returns-clause-own : goal.returns-clause-own
returns-clause-own g c = let own = c.leave.ensures.own in search (rules, own)
