use Rattle.std.proofs.Common.{sym, ap, subst, ◌∙◌}
use Rattle.std.specs.FinMap as finite
use Rattle.replica_store.specs.Worlds.{Copies, AreNamed}
use Rattle.replica_store.proofs.Stored.{set-entries, named_insert}
use Rattle.replica_store.proofs.replicas.Replicas.insert.Goals as goal

pub returns-clause-ok : goal.returns-clause-ok
returns-clause-ok c =
    set-entries c.args.name c.self.inside.copies c.insert.new.self c.args.copy c.in_ok-_old.ensures.updates
    ∙ ap (λ (m : Copies). finite.insert m c.args.name c.args.copy) c.self.view_is

pub invariant_of-self-2 : goal.invariant_of-self-2
invariant_of-self-2 c =
    let put = set-entries c.args.name c.self.inside.copies c.insert.new.self c.args.copy c.in_ok-_old.ensures.updates in
    subst (λ (m : Copies). AreNamed m) (sym put) (named_insert _ c.args.name c.args.copy c.self.invariant c.requires)
