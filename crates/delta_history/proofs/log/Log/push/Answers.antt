use Rattle.std.proofs.Common.{◌≡◌, ◌≤◌, ◌++◌, ◌∷◌, [], sym, subst, arith, length, length-append}
use Rattle.delta_history.specs.Histories.{HistoryOf}
use Rattle.delta_history.specs.Legal.{IsLegal, IsNext}
use Rattle.delta_history.specs.Places.{IsIndex}
use Rattle.delta_history.specs.Points.{end_of}
use Rattle.delta_history.proofs.Chains.{goes_on}
use Rattle.delta_history.proofs.Finding.{index_longer}
use Rattle.delta_history.proofs.log.Log.push.Goals as goal

pub invariant_of-self : goal.invariant_of-self
invariant_of-self c =
    let items = sym c.in-Ok.ensures.items in
    let back = sym c.self.view_is in
    let next = subst (λ (h : HistoryOf). IsNext h.name h.deltas c.args.delta) back c.requires.next in
    let head = subst (λ (h : HistoryOf). (end_of h.name (h.deltas ++ c.args.delta ∷ [])).at ≡ c.args.head) back c.requires.head in
    let inserted = subst (λ (h : HistoryOf). (end_of h.name (h.deltas ++ c.args.delta ∷ [])).count ≡ c.args.inserted) back c.requires.inserted in
    let old = c.self.invariant in
    record {
      legal = subst (IsLegal c.self.inside.name) items (goes_on c.self.inside.name c.self.inside.list.items c.args.delta old.legal next);
      head = subst (λ z. (end_of c.self.inside.name z).at ≡ c.args.head) items head;
      inserted = subst (λ z. (end_of c.self.inside.name z).count ≡ c.args.inserted) items inserted;
      indexed = subst (λ z. c.self.inside.indexed ≤ length z) items (omega (arith, old.indexed, length-append c.self.inside.list.items (c.args.delta ∷ [])));
      index = subst (λ z. IsIndex c.self.inside.ids.authors c.self.inside.indexed z) items (index_longer c.self.inside.ids.authors c.self.inside.indexed c.self.inside.list.items c.args.delta old.indexed old.index);
    }
