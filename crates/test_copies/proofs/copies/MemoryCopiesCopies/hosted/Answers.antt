use Rattle.std.proofs.Common.{List, IfSome, IsSome, option_copied, slice_get, sym, ap, subst, ◌∙◌}
use Rattle.delta_history.specs.Copying.{AreAscending}
use Rattle.test_copies.specs.Holding.{held_of, shown_copy, shown_hosts, names_of}
use Rattle.test_copies.specs.declared.held.Held.{Held}
use Rattle.test_copies.proofs.Holding.{hosts_ascend, host_there, lent}
use Rattle.test_copies.proofs.copies.MemoryCopiesCopies.hosted.Goals as goal

pub returns-clause-there : goal.returns-clause-there
returns-clause-there c =
    let list = c.self.inside.list.items in
    let found = c.host.ensures ∙ ap (λ (hs : List Held). slice_get (shown_hosts hs) c.args.place) c.as_slice.ensures.value in
    let there = host_there list c.args.place (option_copied c.host.result) c.self.invariant found in
    subst (λ (hs : List Held). IfSome c.host.result (λ n. IsSome (shown_copy (held_of hs n.now)))) c.self.view_is (lent (λ n. IsSome (shown_copy (held_of list n))) c.host.result there)

pub returns-clause-ascending : goal.returns-clause-ascending
returns-clause-ascending c = subst (λ (hs : List Held). AreAscending (shown_hosts hs)) c.self.view_is (hosts_ascend c.self.inside.list.items c.self.invariant)
