use Rattle.std.proofs.Common.{◌≡◌, ◌+◌, drop, map, sym, ap, subst, ◌∙◌}
use Rattle.wave_index.specs.Taken.{Histories}
use Rattle.inbox_machine.specs.Indexing.{deltas_of, with_deltas, with_all}
use Rattle.inbox_machine.proofs.Taking.{IsReady, ready_on, ready_first}
use Rattle.inbox_machine.proofs.Texts.{cons_at}
use Rattle.inbox_machine.proofs.indexing.take_copies.Goals as goal

pub loop-name-init : goal.loop-name-init
loop-name-init g c = record {
  rest = ap (λ (m : Histories). with_all m (map (λ n. n.now) c.args.names.now) (λ n. deltas_of (g.C.Copies.copies c.args.copies.now n))) c.requires.empty;
  ready = ready_first c.args.index.now (map (λ n. n.now) c.args.names.now) c.requires.empty c.requires.ascending;
}

pub take_copy-requires : goal.take_copy-requires
take_copy-requires g c =
    let e = cons_at c.args.names.now c.loop-name.name-index c.name-item.result c.loop-name-test.true c.name-item.is in
    (subst (λ l. IsReady c.loop-name.index (map (λ n. n.now) l)) e c.loop-name.invariant.ready).fresh.0

pub loop-name-preserved : goal.loop-name-preserved
loop-name-preserved g c =
    let i = c.loop-name.name-index in
    let old = c.loop-name.index in
    let left = drop (i + 1) c.args.names.now in
    let e = cons_at c.args.names.now i c.name-item.result c.loop-name-test.true c.name-item.is in
    let n = c.name-item.result.now in
    let ds = deltas_of (g.C.Copies.copies c.args.copies.now n) in
    let grown : c.take_copy.new.index ≡ with_deltas old n ds = c.in_ok-take_copy.ensures in
    record {
      rest =
          ap (λ (m : Histories). with_all m (map (λ n. n.now) left) (λ n. deltas_of (g.C.Copies.copies c.args.copies.now n))) grown
          ∙ ap (λ l. with_all old (map (λ n. n.now) l) (λ n. deltas_of (g.C.Copies.copies c.args.copies.now n))) (sym e)
          ∙ c.loop-name.invariant.rest;
      ready = subst (λ (m : Histories). IsReady m (map (λ n. n.now) left)) (sym grown) (ready_on old n ds (map (λ n. n.now) left) (subst (λ l. IsReady old (map (λ n. n.now) l)) e c.loop-name.invariant.ready));
    }
