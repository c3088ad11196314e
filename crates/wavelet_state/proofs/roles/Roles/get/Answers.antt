use Rattle.std.proofs.Common.{sym, ap, ◌∙◌}
use Rattle.std.specs.FinMap as finite
use Rattle.wavelet_state.proofs.Entries.{get-entries}
use Rattle.wavelet_state.proofs.roles.Roles.get.Goals as goal

pub returns : goal.returns
returns c = c.copied.ensures ∙ c.get.ensures.value ∙ sym (get-entries c.self.inside.map c.args.address.now) ∙ ap (λ m. finite.get m c.args.address.now) c.self.view_is
