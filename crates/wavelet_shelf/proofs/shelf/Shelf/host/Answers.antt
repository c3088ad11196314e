use Rattle.std.proofs.Common.{◌≡◌, ◌==◌, false, length, sym, ap, ◌∙◌, true≢false}
use Rattle.delta_history.specs.Histories.{HistoryOf}
use Rattle.wavelet_shelf.proofs.Shelving.{accepted_first, after_nothing, none_of, empty_list}
use Rattle.wavelet_shelf.proofs.shelf.Shelf.host.Goals as goal

pub returns-then-is_empty : goal.returns-then-is_empty
returns-then-is_empty g c =
    let a = c.args.self.now in
    let first = c.requires.taken in
    let none = ap (λ (h : HistoryOf). h.deltas) (sym c.history.ensures) ∙ sym c.deltas.ensures.value ∙ empty_list c.deltas.result.now (sym c.is_empty.ensures ∙ c.if-is_empty.true) in
    after_nothing a c.args.name.now c.args.submission.now c.args.time c.args.verdict first.before c.args.plain a.containers.in_order (none_of _ c.requires.absent) first.name first.empty first.taken none

pub keep-requires-clause-accepted : goal.keep-requires-clause-accepted
keep-requires-clause-accepted g c =
    let a = c.args.self.now in
    let first = c.requires.taken in
    let some : (length c.deltas.result.now == 0) ≡ false = sym c.is_empty.ensures ∙ c.if-is_empty.false in
    accepted_first a c.args.name.now c.args.submission.now c.args.time c.args.verdict first.before c.args.plain a.containers.in_order (none_of _ c.requires.absent) first.name first.empty first.taken
    (λ none. true≢false (sym (ap (λ l. length l == 0) (c.deltas.ensures.value ∙ ap (λ (h : HistoryOf). h.deltas) c.history.ensures ∙ none)) ∙ some))

pub store-requires-clause-accepted : goal.store-requires-clause-accepted
store-requires-clause-accepted g c =
    let a = c.args.self.now in
    let first = c.requires.taken in
    let some : (length c.deltas.result.now == 0) ≡ false = sym c.is_empty.ensures ∙ c.if-is_empty.false in
    accepted_first a c.args.name.now c.args.submission.now c.args.time c.args.verdict first.before c.args.plain a.containers.in_order (none_of _ c.requires.absent) first.name first.empty first.taken
    (λ none. true≢false (sym (ap (λ l. length l == 0) (c.deltas.ensures.value ∙ ap (λ (h : HistoryOf). h.deltas) c.history.ensures ∙ none)) ∙ some))
