use Rattle.std.proofs.Common.{◌≡◌, ◌+◌, ◌++◌, ◌∷◌, [], drop, sym, ap, subst, ◌∙◌}
use Rattle.delta_history.specs.Legal.{IsLegal}
use Rattle.wave_index.specs.Taken.{Histories, deltas_in, with_delta}
use Rattle.inbox_machine.specs.Indexing.{with_deltas}
use Rattle.inbox_machine.proofs.Taking.{takeable, take_on, taken_now}
use Rattle.inbox_machine.proofs.Texts.{cons_at}
use Rattle.inbox_machine.proofs.indexing.take_history.Goals as goal

pub take_next-requires-clause-next : goal.take_next-requires-clause-next
take_next-requires-clause-next c =
    let n = c.args.history.now.name in
    let ds = c.deltas-delta-items.result.now in
    let e = cons_at ds c.loop-delta.delta-index c.delta-item.result c.loop-delta-test.true c.delta-item.is in
    let t = takeable n ds c.loop-delta.delta-index c.delta-item.result (drop (c.loop-delta.delta-index + 1) ds) (subst (IsLegal n) (sym c.deltas-delta-items.ensures.value) c.deltas-delta-items.ensures.legal) e in
    rw (c.name-name.ensures, c.loop-delta.invariant.taken) t.next

pub take_next-requires-clause-legal : goal.take_next-requires-clause-legal
take_next-requires-clause-legal c =
    let n = c.args.history.now.name in
    let ds = c.deltas-delta-items.result.now in
    let e = cons_at ds c.loop-delta.delta-index c.delta-item.result c.loop-delta-test.true c.delta-item.is in
    let t = takeable n ds c.loop-delta.delta-index c.delta-item.result (drop (c.loop-delta.delta-index + 1) ds) (subst (IsLegal n) (sym c.deltas-delta-items.ensures.value) c.deltas-delta-items.ensures.legal) e in
    rw (c.name-name.ensures, c.loop-delta.invariant.taken) t.legal

pub loop-delta-preserved : goal.loop-delta-preserved
loop-delta-preserved c =
    let n = c.args.history.now.name in
    let ds = c.deltas-delta-items.result.now in
    let i = c.loop-delta.delta-index in
    let d = c.delta-item.result in
    let old = c.loop-delta.index in
    let e = cons_at ds i d c.loop-delta-test.true c.delta-item.is in
    let grown : c.take_next.new.index ≡ with_delta old n d = c.in_ok-take_next.ensures ∙ ap (λ k. with_delta old k d) c.name-name.ensures in
    record {
      rest = ap (λ (m : Histories). with_deltas m n (drop (i + 1) ds)) grown ∙ ap (with_deltas old n) (sym e) ∙ c.loop-delta.invariant.rest;
      taken = ap (λ (m : Histories). deltas_in m n) grown ∙ taken_now old n d ∙ ap (λ l. l ++ d ∷ []) c.loop-delta.invariant.taken ∙ take_on ds i d (drop (i + 1) ds) e;
    }
