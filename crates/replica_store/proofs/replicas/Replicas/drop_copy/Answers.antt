use Rattle.std.proofs.Common.{sym, ap, subst, not, ◌≡◌, ◌∙◌}
use Rattle.replica_store.specs.Copies.{CopyOf}
use Rattle.replica_store.specs.Worlds.{Copies, AreNamed, worlds_of, drop_in}
use Rattle.replica_store.proofs.Absorbing.{had_more, dropped_at}
use Rattle.replica_store.proofs.Stored.{lent, absent, written, named_get, named_insert}
use Rattle.replica_store.proofs.replicas.Replicas.drop_copy.Goals as goal

-- each: the copy that was lent is that of the name, and stands there again
pub invariant_of-self : goal.invariant_of-self
invariant_of-self c =
    let m = c.args.self.now in
    let b = c.in-Some.copy.now in
    let named = subst (λ (z : Copies). AreNamed z) c.self.view_is c.self.invariant in
    let there = lent c.self.inside.copies m c.args.name.now b c.self.view_is c.in-Some.ensures.value in
    let own = named_get m c.args.name.now b named there in
    let put = written c.self.inside.copies (c.get_mut.follows.lender c.note_dropped.new.self) m c.args.name.now b c.note_dropped.new.self c.self.view_is c.in-Some.ensures.value (c.get_mut.follows.holds c.note_dropped.new.self).3 in
    subst (λ (z : Copies). AreNamed z) (sym put) (named_insert m c.args.name.now c.note_dropped.new.self named (ap (λ (x : CopyOf). x.history.name) c.note_dropped.ensures ∙ own))

pub returns-clause-answer : goal.returns-clause-answer
returns-clause-answer c =
    let m = c.args.self.now in
    let b = c.in-Some.copy.now in
    let named = subst (λ (z : Copies). AreNamed z) c.self.view_is c.self.invariant in
    let there = lent c.self.inside.copies m c.args.name.now b c.self.view_is c.in-Some.ensures.value in
    ap not c.dropped-had_more.ensures ∙ had_more m c.args.name.now b c.note_dropped.new.self there

pub returns-clause-after : goal.returns-clause-after
returns-clause-after c =
    let m = c.args.self.now in
    let b = c.in-Some.copy.now in
    let named = subst (λ (z : Copies). AreNamed z) c.self.view_is c.self.invariant in
    let there = lent c.self.inside.copies m c.args.name.now b c.self.view_is c.in-Some.ensures.value in
    let put = written c.self.inside.copies (c.get_mut.follows.lender c.note_dropped.new.self) m c.args.name.now b c.note_dropped.new.self c.self.view_is c.in-Some.ensures.value (c.get_mut.follows.holds c.note_dropped.new.self).3 in
    subst (λ (z : Copies). worlds_of z ≡ drop_in (worlds_of m) c.args.name.now) (sym put) (dropped_at m c.args.name.now b c.note_dropped.new.self there c.note_dropped.ensures)

pub unreachable-requires : goal.unreachable-requires
unreachable-requires c = absent c.self.inside.copies c.args.self.now c.args.name.now c.self.view_is c.requires (sym c.in_default.ensures.value)
