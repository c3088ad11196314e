use Rattle.std.proofs.Common.{◌≡◌, ◌∙◌, subst, List, ℕ}
use Rattle.delta_history.specs.Legal.{IsLegal}
use Rattle.delta_journal.specs.Stored.{bytes_of}
use Rattle.wavelet_container.specs.Records.{HasIllegal, IsIllegal}
use Rattle.wavelet_container.specs.declared.fault.LoadFault.TheVariants.{Damaged}
use Rattle.wavelet_container.proofs.Loaded.{illegal_at, pushed_records, pushed_spelled}
use Rattle.wavelet_container.proofs.load.push_all.Goals as goal

same_offset : (m n : ℕ) → Damaged m ≡ Damaged n → m ≡ n
same_offset m n e = cc

pub returns-in-Err-Illegal-clause-damaged : goal.returns-in-Err-Illegal-clause-damaged
returns-in-Err-Illegal-clause-damaged c offset is =
    let name = c.loop-stored.invariant.name in
    let legal = subst (λ (n : List ℕ). IsLegal n c.loop-stored.history.deltas) name c.push.ensures.legal in
    let bad = c.in-Err-Illegal.ensures.refused c.in-Err-Illegal.field-0-is in
    let illegal = subst (λ (n : List ℕ). IsIllegal n c.loop-stored.history.deltas c.stored-item.result.bytes) name (subst (λ (b : List ℕ). IsIllegal c.loop-stored.history.name c.loop-stored.history.deltas b) c.as_slice.ensures bad) in
    subst (λ (o : ℕ). HasIllegal c.args.history.now.name o (bytes_of c.args.records.now)) (same_offset _ _ is)
    (illegal_at c.args.history.now.name c.loop-stored.history.deltas c.args.records.now c.loop-stored.stored-index c.stored-item.result c.requires.gates c.loop-stored-test.true c.stored-item.is c.loop-stored.invariant.records legal c.loop-stored.invariant.spelled illegal)

pub loop-stored-preserved : goal.loop-stored-preserved
loop-stored-preserved c = record {
  name = c.in-Ok.ensures.ok.grown.name ∙ c.loop-stored.invariant.name;
  records = pushed_records c.loop-stored.history c.push.new.history c.as_slice.result.now c.loop-stored.stored-index c.args.records.now c.stored-item.result c.in-Ok.ensures.ok c.as_slice.ensures c.loop-stored-test.true c.stored-item.is c.loop-stored.invariant.records;
  spelled = pushed_spelled c.loop-stored.history c.push.new.history c.as_slice.result.now c.in-Ok.ensures.ok c.loop-stored.invariant.spelled;
}
