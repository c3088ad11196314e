use Rattle.std.proofs.Common.{sym, subst, ◌≡◌, OnOk, OnErr}
use Rattle.replica_store.specs.Worlds.{Copies, AreNamed, worlds_of, answer_in}
use Rattle.replica_store.proofs.Absorbing.{noted_name, each_noted, each_settled, each_kept}
use Rattle.replica_store.proofs.Stored.{lent, absent, written, named_get, named_insert}
use Rattle.replica_store.proofs.replicas.Replicas.settle.Goals as goal

-- each: the copy that was lent is that of the name, and stands there again
pub invariant_of-self : goal.invariant_of-self
invariant_of-self c =
    let m = c.args.self.now in
    let b = c.in-Some.copy.now in
    let named = subst (λ (z : Copies). AreNamed z) c.self.view_is c.self.invariant in
    let there = lent c.self.inside.copies m c.args.name.now b c.self.view_is c.in-Some.ensures.value in
    let own = named_get m c.args.name.now b named there in
    let put = written c.self.inside.copies (c.get_mut.follows.lender c.note_answer.new.self) m c.args.name.now b c.note_answer.new.self c.self.view_is c.in-Some.ensures.value (c.get_mut.follows.holds c.note_answer.new.self).3 in
    subst (λ (z : Copies). AreNamed z) (sym put) (named_insert m c.args.name.now c.note_answer.new.self named (noted_name m c.args.name.now b c.note_answer.new.self there c.note_answer.result c.args.id.now c.args.verdict c.note_answer.ensures.ok c.note_answer.ensures.same own))

pub returns-clause-answer : goal.returns-clause-answer
returns-clause-answer c =
    let m = c.args.self.now in
    let b = c.in-Some.copy.now in
    let named = subst (λ (z : Copies). AreNamed z) c.self.view_is c.self.invariant in
    let there = lent c.self.inside.copies m c.args.name.now b c.self.view_is c.in-Some.ensures.value in
    each_noted m c.args.name.now b c.note_answer.new.self there c.note_answer.result c.args.id.now c.args.verdict c.note_answer.ensures.ok c.note_answer.ensures.same

pub returns-clause-after : goal.returns-clause-after
returns-clause-after c =
    let m = c.args.self.now in
    let b = c.in-Some.copy.now in
    let named = subst (λ (z : Copies). AreNamed z) c.self.view_is c.self.invariant in
    let there = lent c.self.inside.copies m c.args.name.now b c.self.view_is c.in-Some.ensures.value in
    let put = written c.self.inside.copies (c.get_mut.follows.lender c.note_answer.new.self) m c.args.name.now b c.note_answer.new.self c.self.view_is c.in-Some.ensures.value (c.get_mut.follows.holds c.note_answer.new.self).3 in
    subst (λ (z : Copies). OnOk c.note_answer.result (worlds_of z ≡ answer_in (worlds_of m) c.args.name.now c.args.id.now c.args.verdict)) (sym put) (each_settled m c.args.name.now b c.note_answer.new.self there c.note_answer.result c.args.id.now c.args.verdict c.note_answer.ensures.ok c.note_answer.ensures.same)

pub returns-clause-same : goal.returns-clause-same
returns-clause-same c =
    let m = c.args.self.now in
    let b = c.in-Some.copy.now in
    let named = subst (λ (z : Copies). AreNamed z) c.self.view_is c.self.invariant in
    let there = lent c.self.inside.copies m c.args.name.now b c.self.view_is c.in-Some.ensures.value in
    let put = written c.self.inside.copies (c.get_mut.follows.lender c.note_answer.new.self) m c.args.name.now b c.note_answer.new.self c.self.view_is c.in-Some.ensures.value (c.get_mut.follows.holds c.note_answer.new.self).3 in
    subst (λ (z : Copies). OnErr c.note_answer.result (worlds_of z ≡ worlds_of m)) (sym put) (each_kept m c.args.name.now b c.note_answer.new.self there c.note_answer.result c.args.id.now c.args.verdict c.note_answer.ensures.ok c.note_answer.ensures.same)

pub unreachable-requires : goal.unreachable-requires
unreachable-requires c = absent c.self.inside.copies c.args.self.now c.args.name.now c.self.view_is c.requires (sym c.in_default.ensures.value)
