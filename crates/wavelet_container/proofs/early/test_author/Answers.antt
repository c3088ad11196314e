use Rattle.std.proofs.Common.{◌∙◌, sym, ap, Some}
use Rattle.wavelet_op.specs.Acts.{meanings}
use Rattle.wavelet_op.specs.declared.delta.Submission.{Submission}
use Rattle.delta_history.specs.Histories.{head_of}
use Rattle.delta_history.specs.Legal.{standing}
use Rattle.delta_history.specs.Verdicts.{judge_author}
use Rattle.wavelet_container.proofs.Bases.{opened}
use Rattle.wavelet_container.proofs.early.test_author.Goals as goal

pub test_base-requires : goal.test_base-requires
test_base-requires c =
    let h = c.args.history.now in
    let author = ap (λ (s : Submission). s.id.author) c.submission.view_is in
    let ops = ap (λ (s : Submission). s.ops) c.submission.view_is in
    record {
      legal = c.deltas-deltas.ensures.legal;
      new = c.requires;
      author = sym (λ i. standing h.deltas (head_of h) (author i) (meanings (ops i))) ∙ sym c.standing.ensures ∙ c.in-Some-Full.is ∙ ap Some c.in-Some-Full.field-0-is;
    }

pub returns-in-Some-ReadOnly-clause-tested : goal.returns-in-Some-ReadOnly-clause-tested
returns-in-Some-ReadOnly-clause-tested c t =
    let h = c.args.history.now in
    let s = c.args.submission.now in
    let author = ap (λ (s : Submission). s.id.author) c.submission.view_is in
    let ops = ap (λ (s : Submission). s.ops) c.submission.view_is in
    opened h s t c.deltas-deltas.ensures.legal c.requires ∙ ap (judge_author h.name h.deltas s t (head_of h)) (sym (λ i. standing h.deltas (head_of h) (author i) (meanings (ops i))) ∙ sym c.standing.ensures ∙ c.in-Some-ReadOnly.is ∙ ap Some c.in-Some-ReadOnly.field-0-is)
