use Rattle.std.proofs.Common.{IsSome, subst}
use Rattle.std.specs.FinMap.{keys}
use Rattle.std.specs.List.{All}
use Rattle.wavelet_op.specs.States.{State, document_of, kept}
use Rattle.wavelet_state.proofs.Names.{all_there}
use Rattle.wavelet_state.proofs.state.WaveletState.document_names.Goals as goal

pub returns-clause-there : goal.returns-clause-there
returns-clause-there c = subst (λ (s : State). All (λ name. IsSome (kept (document_of s name))) (keys s.documents)) c.self.view_is (all_there c.self.inside.draft.documents c.self.invariant)
