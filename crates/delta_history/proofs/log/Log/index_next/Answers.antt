use Rattle.std.proofs.Common.{◌≡◌, suc, ◌+◌, Some, sym, ap, subst, ◌∙◌, arith, refl, length, slice_get}
use Rattle.std.proofs.lemmas.Option.{slice_get_read, slice_get_within}
use Rattle.wavelet_op.specs.Deltas.{DeltaOf}
use Rattle.delta_history.specs.Places.{IsIndex, IsPut}
use Rattle.delta_history.proofs.Finding.{index_more}
use Rattle.delta_history.proofs.log.Log.index_next.Goals as goal

pub invariant_of-self-2 : goal.invariant_of-self-2
invariant_of-self-2 c =
    let items = c.self.inside.list.items in
    let n = c.self.inside.indexed in
    let got : slice_get items n ≡ Some c.in-Some.delta.now = ap (λ l. slice_get l n) (sym c.deref.ensures.value) ∙ slice_get_read c.deref.result.now (length c.deref.result.now) n c.in-Some.delta.now refl c.in-Some.ensures.lookup.3.0 c.in-Some.ensures.lookup.1 in
    let within = slice_get_within items n c.in-Some.delta.now got in
    let put = subst (λ (d : DeltaOf). IsPut c.self.inside.ids.authors c.put.new.self.authors d.id n) c.delta.view_is c.in_ok-put.ensures.ok in
    let next : suc n ≡ n + 1 = omega arith in
    record {
      legal = c.self.invariant.legal;
      head = c.self.invariant.head;
      inserted = c.self.invariant.inserted;
      indexed = omega (arith, within);
      index = subst (λ z. IsIndex c.put.new.self.authors z items) next (index_more c.self.inside.name c.self.inside.ids.authors c.put.new.self.authors n items c.in-Some.delta.now c.self.invariant.legal got c.self.invariant.index put);
    }
