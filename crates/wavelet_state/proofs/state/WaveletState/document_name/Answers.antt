use Rattle.std.proofs.Common.{IfSome, IsSome, subst}
use Rattle.wavelet_op.specs.States.{State, document_of, kept}
use Rattle.wavelet_state.proofs.Names.{named_there}
use Rattle.wavelet_state.proofs.state.WaveletState.document_name.Goals as goal

pub returns-clause-some : goal.returns-clause-some
returns-clause-some c =
    subst (λ (s : State). IfSome c.at.result (λ name. IsSome (kept (document_of s name.now)))) c.self.view_is
    (named_there c.self.inside.draft.documents c.at.result c.args.place c.self.invariant c.at.ensures)
