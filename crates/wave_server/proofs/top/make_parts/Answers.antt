use Rattle.std.proofs.Common.{sym, subst, append-nil, ◌∙◌, []}
use Rattle.session_hub.specs.Hubs.{AreOfHub}
use Rattle.wave_server.proofs.top.make_parts.Goals as goal

pub returns-in-Ok-new-3-clause-own : goal.returns-in-Ok-new-3-clause-own
returns-in-Ok-new-3-clause-own g c = subst (λ x. AreOfHub x c.in-Ok-new-2.passes) (sym c.in-Ok-new-3.ensures.ok) c.in-Ok-new-2.ensures.own

pub returns-in-Ok-new-3-clause-begun : goal.returns-in-Ok-new-3-clause-begun
returns-in-Ok-new-3-clause-begun g c k low = ([], append-nil _ ∙ sym (c.in-Ok-new-2.ensures.seen k low))
