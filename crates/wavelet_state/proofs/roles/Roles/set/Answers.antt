use Rattle.std.proofs.Common.{sym, ap, ◌∙◌, Some}
use Rattle.std.specs.Option.{option_copied_mut}
use Rattle.std.specs.FinMap as finite
use Rattle.wavelet_state.proofs.Entries.{set-entries, has-entry, absent}
use Rattle.wavelet_state.proofs.roles.Roles.set.Goals as goal
use Rattle.wavelet_state.proofs.roles.Roles.set.Goals.{in-Some, in_default}

pub returns : goal.returns
returns c = elim c.match-get_mut.branch [
  | in-Some w ↦
      ap (λ (r : _). finite.from_entries r.map.entries) w.self-inside-is
      ∙ set-entries c.args.address.now c.self.inside.map (c.get_mut.follows.lender c.args.role) (Some c.args.role) ((c.get_mut.follows.holds c.args.role).3 (has-entry c.self.inside.map c.args.self.now c.args.address.now c.self.view_is c.requires))
      ∙ ap (λ m. finite.insert m c.args.address.now c.args.role) c.self.view_is
  | in_default w ↦ absurd (absent c.self.inside.map c.args.self.now c.args.address.now c.self.view_is c.requires (sym c.get_mut.ensures.value ∙ ap option_copied_mut w.in_default.is))
]
