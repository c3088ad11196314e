use Rattle.std.proofs.Common.{rules, map, ◌≡◌, inl, inr, length, ap, sym, subst, ◌∙◌, List}
use Rattle.turn_lock.specs.Passes.{seen, IsOneMore}
use Rattle.shard_marks.specs.declared.mark.Mark.{Mark}
use Rattle.session_hub.specs.Entries.{entries_of}
use Rattle.session_hub.specs.Records.{mark_of}
use Rattle.session_hub.proofs.Turning.{answered_by, shard_number, grown_later}
use Rattle.session_hub.proofs.turns.submit.Goals as goal

pub returns-clause-answered : goal.returns-clause-answered
returns-clause-answered g c = λ d own.
    let v = c.value.result.now in
    answered_by c.args.pass.now _ d _ v.domain v.number (map mark_of v.records.items) (entries_of c.submit-answer.new.self) c.args.peers.now c.args.name.now c.args.submission.now c.args.time c.in_ok-answer.field-0.1
    own (search rules) c.in_ok-answer.ensures.judged (search rules) (search rules)

pub submit-answer-requires : goal.submit-answer-requires
submit-answer-requires g c = record {
  own = shard_number _ c.in_ok-guard.guard.value c.value.result.now c.requires.begun.0 _ c.requires.begun.1 c.in_ok-guard.ensures.value c.value.ensures.value;
}

pub leave-requires-clause-one : goal.leave-requires-clause-one
leave-requires-clause-one g c =
    let same : entries_of c.value.result.now ≡ seen c.in_ok-guard.guard.pass.now = ap entries_of c.value.ensures.value ∙ c.in_ok-guard.ensures.guard.2 in
    elim c.submit-answer.ensures.one [
      | inl e ↦ inl (e ∙ same)
      | inr p ↦ inr (subst (λ (z : List Mark). IsOneMore z (entries_of c.submit-answer.new.self)) same p)
    ]

pub returns-in_err-answer-clause-later : goal.returns-in_err-answer-clause-later
returns-in_err-answer-clause-later g c = grown_later _ _ _ _ _ c.in_ok-guard.ensures.value (ap entries_of c.value.ensures.value) c.submit-answer.ensures.one (search rules)

pub returns-clause-later : goal.returns-clause-later
returns-clause-later g c = grown_later _ _ _ _ _ c.in_ok-guard.ensures.value (ap entries_of c.value.ensures.value) c.submit-answer.ensures.one (search rules)

pub returns-clause-own : goal.returns-clause-own
returns-clause-own g c = let own = c.leave.ensures.own in search (rules, own)

pub returns-clause-length : goal.returns-clause-length
returns-clause-length g c =
    let last : seen c.pass-2-1.given.0 ≡ entries_of c.submit-answer.new.self = search rules in
    c.in_ok-answer.ensures.length ∙ ap length (sym last)
