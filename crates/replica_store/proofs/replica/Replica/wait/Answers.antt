use Rattle.std.proofs.Common.{◌≡◌, false, sym, ap, subst, ◌∙◌}
use Rattle.wave_base.specs.Versions.{IdOf}
use Rattle.delta_history.specs.Legal.{has_id}
use Rattle.replica_store.specs.Copies.{CopyOf, copy}
use Rattle.replica_store.specs.Settling.{unnoted}
use Rattle.replica_store.proofs.Sound.{sound_waits, sound_as}
use Rattle.replica_store.proofs.replica.Replica.wait.Goals as goal

pub invariant_of-self-2 : goal.invariant_of-self-2
invariant_of-self-2 c =
    let before : CopyOf = copy c.self.inside.history c.self.inside.waiting.items c.self.inside.noted.items c.self.inside.dropped in
    let new = subst (λ (v : CopyOf). has_id c.args.submission.id v.history.deltas ≡ false) (sym c.self.view_is) c.requires in
    let noted = c.forget.ensures ∙ ap (λ (i : IdOf). unnoted i before.noted) c.in_ok-id.ensures in
    sound_as before.history _ _ _ _ before.dropped c.in_ok-queue.ensures.ok noted (sound_waits before c.args.submission c.self.invariant new)
