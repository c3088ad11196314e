use Rattle.std.proofs.Common.{sym, ◌∙◌}
use Rattle.client_control.specs.Parts.{Parts, parts}
use Rattle.client_control.proofs.Kept.{copied_kept}
use Rattle.client_control.proofs.follower.Follower.copy.Goals as goal

pub invariant_of-result : goal.invariant_of-result
invariant_of-result c =
    let i = c.self.inside in
    let p : Parts = parts i.name i.author i.client i.at i.count i.state i.flight i.queue.items i.next in
    let queue = sym c.as_slice.ensures.value ∙ sym c.in_ok-queue.ensures in
    copied_kept p _ i.held i.shown c.self.invariant (λ j. parts (sym c.in_ok-name.ensures j) (sym c.in_ok-author.ensures j) i.client i.at i.count (sym c.in_ok-state.ensures j) (sym c.in_ok-flight.ensures j) (queue j) i.next)
