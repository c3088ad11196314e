use Rattle.std.proofs.Common.{sym, subst, ◌≡◌, OnOk, OnErr}
use Rattle.replica_store.specs.Worlds.{Copies, AreNamed, worlds_of, queue_in}
use Rattle.replica_store.proofs.Queueing.{each_name, each_answer, each_after, each_same}
use Rattle.replica_store.proofs.Stored.{lent, absent, written, named_get, named_insert}
use Rattle.replica_store.proofs.replicas.Replicas.queue_next.Goals as goal

-- each: the copy that was lent is that of the name, and stands there again
pub invariant_of-self : goal.invariant_of-self
invariant_of-self c =
    let m = c.args.self.now in
    let b = c.in-Some.copy.now in
    let named = subst (λ (z : Copies). AreNamed z) c.self.view_is c.self.invariant in
    let there = lent c.self.inside.copies m c.args.name.now b c.self.view_is c.in-Some.ensures.value in
    let own = named_get m c.args.name.now b named there in
    let put = written c.self.inside.copies (c.get_mut.follows.lender c.queue_submission.new.self) m c.args.name.now b c.queue_submission.new.self c.self.view_is c.in-Some.ensures.value (c.get_mut.follows.holds c.queue_submission.new.self).3 in
    subst (λ (z : Copies). AreNamed z) (sym put) (named_insert m c.args.name.now c.queue_submission.new.self named (each_name m c.args.name.now c.args.submission b c.queue_submission.new.self there own c.queue_submission.result c.queue_submission.ensures.ok c.queue_submission.ensures.world c.queue_submission.ensures.same))

pub returns-clause-answer : goal.returns-clause-answer
returns-clause-answer c =
    let m = c.args.self.now in
    let b = c.in-Some.copy.now in
    let named = subst (λ (z : Copies). AreNamed z) c.self.view_is c.self.invariant in
    let there = lent c.self.inside.copies m c.args.name.now b c.self.view_is c.in-Some.ensures.value in
    let own = named_get m c.args.name.now b named there in
    each_answer m c.args.name.now c.args.submission b c.queue_submission.new.self there own c.queue_submission.result c.queue_submission.ensures.ok c.queue_submission.ensures.world c.queue_submission.ensures.same

pub returns-clause-after : goal.returns-clause-after
returns-clause-after c =
    let m = c.args.self.now in
    let b = c.in-Some.copy.now in
    let named = subst (λ (z : Copies). AreNamed z) c.self.view_is c.self.invariant in
    let there = lent c.self.inside.copies m c.args.name.now b c.self.view_is c.in-Some.ensures.value in
    let own = named_get m c.args.name.now b named there in
    let put = written c.self.inside.copies (c.get_mut.follows.lender c.queue_submission.new.self) m c.args.name.now b c.queue_submission.new.self c.self.view_is c.in-Some.ensures.value (c.get_mut.follows.holds c.queue_submission.new.self).3 in
    subst (λ (z : Copies). OnOk c.queue_submission.result (worlds_of z ≡ queue_in (worlds_of m) c.args.name.now c.args.submission)) (sym put) (each_after m c.args.name.now c.args.submission b c.queue_submission.new.self there own c.queue_submission.result c.queue_submission.ensures.ok c.queue_submission.ensures.world c.queue_submission.ensures.same)

pub returns-clause-same : goal.returns-clause-same
returns-clause-same c =
    let m = c.args.self.now in
    let b = c.in-Some.copy.now in
    let named = subst (λ (z : Copies). AreNamed z) c.self.view_is c.self.invariant in
    let there = lent c.self.inside.copies m c.args.name.now b c.self.view_is c.in-Some.ensures.value in
    let own = named_get m c.args.name.now b named there in
    let put = written c.self.inside.copies (c.get_mut.follows.lender c.queue_submission.new.self) m c.args.name.now b c.queue_submission.new.self c.self.view_is c.in-Some.ensures.value (c.get_mut.follows.holds c.queue_submission.new.self).3 in
    subst (λ (z : Copies). OnErr c.queue_submission.result (worlds_of z ≡ worlds_of m)) (sym put) (each_same m c.args.name.now c.args.submission b c.queue_submission.new.self there own c.queue_submission.result c.queue_submission.ensures.ok c.queue_submission.ensures.world c.queue_submission.ensures.same)

pub unreachable-requires : goal.unreachable-requires
unreachable-requires c = absent c.self.inside.copies c.args.self.now c.args.name.now c.self.view_is c.requires (sym c.in_default.ensures.value)
