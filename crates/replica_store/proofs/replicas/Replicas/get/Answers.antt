use Rattle.std.proofs.Common.{sym, ap, subst, ◌∙◌}
use Rattle.std.specs.FinMap as finite
use Rattle.replica_store.specs.Worlds.{Copies, AreNamed}
use Rattle.replica_store.proofs.Stored.{get-entries, named_found}
use Rattle.replica_store.proofs.replicas.Replicas.get.Goals as goal

pub returns-clause-value : goal.returns-clause-value
returns-clause-value c = c.get.ensures.value ∙ sym (get-entries c.self.inside.copies c.args.name.now) ∙ ap (λ (m : Copies). finite.get m c.args.name.now) c.self.view_is

pub returns-clause-named : goal.returns-clause-named
returns-clause-named c =
    let m = c.args.self.now in
    let named = subst (λ (z : Copies). AreNamed z) c.self.view_is c.self.invariant in
    let got = c.get.ensures.value ∙ sym (get-entries c.self.inside.copies c.args.name.now) ∙ ap (λ (z : Copies). finite.get z c.args.name.now) c.self.view_is in
    named_found (λ r. r.now) c.get.result m c.args.name.now named got
