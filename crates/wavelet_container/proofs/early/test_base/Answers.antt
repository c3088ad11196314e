use Rattle.std.proofs.Common.{◌≡◌, ◌∙◌, sym, ap, subst, None, Some, List, true, false}
use Rattle.std.specs.Cmp.Lexicographic.{bytes_decides}
use Rattle.wavelet_op.specs.Deltas.{DeltaOf}
use Rattle.wavelet_op.specs.declared.delta.Submission.{Submission}
use Rattle.wavelet_op.specs.declared.verdict.Verdict.TheVariants.{UnknownVersion}
use Rattle.delta_history.specs.Histories.{hash_found}
use Rattle.delta_history.specs.Places.{IsRisingFrom, started_below}
use Rattle.delta_history.specs.Verdicts.{same_hash}
use Rattle.delta_history.proofs.Finding.{rising}
use Rattle.wavelet_container.specs.Decisions.{IsBase}
use Rattle.wavelet_container.proofs.Bases.{not_found, is_other, is_base, hash_turned}
use Rattle.wavelet_container.proofs.early.test_base.Goals as goal

pub started_below-requires : goal.started_below-requires
started_below-requires c = subst (λ (ds : List DeltaOf). IsRisingFrom 0 ds) (sym c.deltas-deltas.ensures.value) (rising c.args.history.now.name c.args.history.now.deltas c.requires.legal)

pub returns-in-None-clause-tested : goal.returns-in-None-clause-tested
returns-in-None-clause-tested c t =
    let version = ap (λ (s : Submission). s.at.version) c.submission.view_is in
    not_found c.args.history.now c.args.submission.now c.requires (ap (hash_found c.args.history.now) (sym version) ∙ sym c.hash_at.ensures ∙ c.in-None.is) t ∙ ap (λ z. (UnknownVersion z, None)) (sym c.head.ensures)

pub returns-then-eq-clause-tested : goal.returns-then-eq-clause-tested
returns-then-eq-clause-tested c =
    let version = ap (λ (s : Submission). s.at.version) c.submission.view_is in
    let hash = ap (λ (s : Submission). s.at.hash) c.submission.view_is in
    let found : hash_found c.args.history.now c.args.submission.now.at.version ≡ Some c.in-Some.host = ap (hash_found c.args.history.now) (sym version) ∙ sym c.hash_at.ensures ∙ c.in-Some.is in
    let test : same_hash c.in-Some.host c.args.submission.now.at.hash ≡ true = ap (same_hash c.in-Some.host) (sym hash) ∙ sym c.eq.ensures ∙ c.if-eq.true in
    let same : c.in-Some.host ≡ c.args.submission.now.at.hash = (bytes_decides c.in-Some.host c.args.submission.now.at.hash).0 test in
    let place : c.started_below.result ≡ started_below c.args.submission.now.at.version c.args.history.now.deltas = c.started_below.ensures.value ∙ (λ i. started_below (version i) (c.deltas-deltas.ensures.value i)) in
    subst (IsBase c.args.history.now c.args.submission.now) (sym place) (is_base c.args.history.now c.args.submission.now c.in-Some.host c.requires found same ((bytes_decides c.args.submission.now.at.hash c.in-Some.host).1 (sym same)))

pub returns-else-eq-clause-tested : goal.returns-else-eq-clause-tested
returns-else-eq-clause-tested c =
    let version = ap (λ (s : Submission). s.at.version) c.submission.view_is in
    let hash = ap (λ (s : Submission). s.at.hash) c.submission.view_is in
    let found : hash_found c.args.history.now c.args.submission.now.at.version ≡ Some c.in-Some.host = ap (hash_found c.args.history.now) (sym version) ∙ sym c.hash_at.ensures ∙ c.in-Some.is in
    let test : same_hash c.in-Some.host c.args.submission.now.at.hash ≡ false = ap (same_hash c.in-Some.host) (sym hash) ∙ sym c.eq.ensures ∙ c.if-eq.false in
    is_other c.args.history.now c.args.submission.now c.in-Some.host c.requires found (hash_turned c.in-Some.host c.args.submission.now.at.hash test)
