use Rattle.std.proofs.Common.{◌≡◌, true, sym, subst}
use Rattle.follower_rules.specs.Replicas.{is_waiting}
use Rattle.replica_store.specs.Copies.{CopyOf, copy}
use Rattle.replica_store.proofs.Entries.{without_none}
use Rattle.replica_store.proofs.Sound.{sound_noted, sound_as}
use Rattle.replica_store.proofs.replica.Replica.note_answer.Goals as goal

pub returns-then-not-is_waiting-clause-world : goal.returns-then-not-is_waiting-clause-world
returns-then-not-is_waiting-clause-world c =
    let before = c.args.self.now in
    let same = without_none c.args.id.now before.waiting (sym c.if-not-is_waiting.ensures) in
    λ k. record { deltas = before.history.deltas; waiting = sym same k; dropped = before.dropped }

pub invariant_of-self-2 : goal.invariant_of-self-2
invariant_of-self-2 c =
    let before : CopyOf = copy c.self.inside.history c.self.inside.waiting.items c.self.inside.noted.items c.self.inside.dropped in
    let waits = subst (λ (v : CopyOf). is_waiting c.args.id.now v.waiting ≡ true) (sym c.self.view_is) (sym c.if-not-is_waiting.ensures) in
    sound_as before.history _ _ _ _ before.dropped c.settle.ensures c.in_ok-note.ensures.ok (sound_noted before c.args.id.now c.args.verdict c.self.invariant waits)
