use Rattle.std.proofs.Common.{sym, ap, ◌∙◌, drop}
use Rattle.delta_history.specs.Histories.{HistoryOf}
use Rattle.delta_history.specs.Places.{place_from}
use Rattle.delta_history.proofs.Finding.{found_front, none_front}
use Rattle.delta_history.proofs.log.Log.place.Goals as goal

pub returns-in-Some : goal.returns-in-Some
returns-in-Some c = sym (found_front c.self.inside.ids.authors c.self.inside.indexed c.in-Some.place c.self.inside.list.items c.args.id.now c.self.invariant.index (sym c.get.ensures ∙ c.in-Some.is)) ∙ ap (λ (h : HistoryOf). place_from c.args.id.now 0 h.deltas) c.self.view_is

pub returns-in-None : goal.returns-in-None
returns-in-None c =
    let front = none_front c.self.inside.ids.authors c.self.inside.indexed c.self.inside.list.items c.args.id.now c.self.invariant.indexed c.self.invariant.index (sym c.get.ensures ∙ c.in-None.is) in
    c.place_from.ensures ∙ ap (λ l. place_from c.args.id.now c.self.inside.indexed (drop c.self.inside.indexed l)) c.as_slice.ensures.value ∙ sym front ∙ ap (λ (h : HistoryOf). place_from c.args.id.now 0 h.deltas) c.self.view_is
