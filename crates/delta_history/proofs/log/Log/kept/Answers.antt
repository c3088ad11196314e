use Rattle.std.proofs.Common.{sym, ap, ◌∙◌, option_and_then}
use Rattle.delta_history.specs.Histories.{head_of}
use Rattle.delta_history.specs.Places.{stands_at}
use Rattle.delta_history.proofs.Finding.{kept_here}
use Rattle.delta_history.proofs.log.Log.kept.Goals as goal

pub returns-in-Some : goal.returns-in-Some
returns-in-Some c =
    let place = sym c.place.ensures ∙ c.in-Some.is in
    c.stands.ensures ∙ sym (kept_here c.args.self.now.name c.args.self.now.deltas c.args.id.now c.deltas-deltas.ensures.legal ∙ ap (option_and_then (stands_at (head_of c.args.self.now).at c.args.self.now.deltas)) place)

pub returns-in-None : goal.returns-in-None
returns-in-None c =
    let place = sym c.place.ensures ∙ c.in-None.is in
    sym (kept_here c.args.self.now.name c.args.self.now.deltas c.args.id.now c.deltas-deltas.ensures.legal ∙ ap (option_and_then (stands_at (head_of c.args.self.now).at c.args.self.now.deltas)) place)
