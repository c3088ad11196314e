use Rattle.std.proofs.Common.{ap, ◌∙◌, None}
use Rattle.std.specs.FinMap as finite
use Rattle.wavelet_state.proofs.Entries.{set-entries}
use Rattle.wavelet_state.proofs.roles.Roles.remove.Goals as goal

pub returns : goal.returns
returns c = set-entries c.args.address.now c.self.inside.map c.remove-old.new.self None c.remove-old.ensures.updates ∙ ap (λ m. finite.remove m c.args.address.now) c.self.view_is
