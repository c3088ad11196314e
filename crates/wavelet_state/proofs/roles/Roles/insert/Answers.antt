use Rattle.std.proofs.Common.{◌∙◌, Some}
use Rattle.std.specs.FinMap as finite
use Rattle.wavelet_state.proofs.Entries.{set-entries}
use Rattle.wavelet_state.proofs.roles.Roles.insert.Goals as goal

pub returns-clause-ok : goal.returns-clause-ok
returns-clause-ok c =
    set-entries c.in_ok-address.address c.self.inside.map c.insert.new.self (Some c.args.role) c.in_ok-_old.ensures.updates
    ∙ (λ i. finite.insert (c.self.view_is i) (c.in_ok-address.ensures i) c.args.role)
