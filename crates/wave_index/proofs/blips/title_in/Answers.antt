use Rattle.std.proofs.Common.{◌≡◌, ℕ, List, sym, ap, subst, ◌∙◌, IfOk}
use Rattle.std.specs.Option.{option_copied}
use Rattle.wavelet_op.specs.States.{document_of}
use Rattle.wave_index.proofs.Titles.{title_absent}
use Rattle.wave_index.proofs.blips.title_in.Goals as goal

pub returns-in-None : goal.returns-in-None
returns-in-None c =
    subst (λ (x : List ℕ). IfOk c.no_text.result (λ t. t ≡ x))
    (title_absent (document_of c.args.state.now c.args.name.now) (sym c.rope.ensures.value ∙ ap option_copied c.in-None.is)) c.no_text.ensures
