use Rattle.std.proofs.Common.{◌≡◌, ◌∙◌, true, false, sym, ap, subst, drop}
use Rattle.std.proofs.lemmas.List.{take_rest}
use Rattle.delta_history.specs.Histories.{HistoryOf}
use Rattle.delta_history.specs.Legal.{IsLegal}
use Rattle.wavelet_container.specs.Decisions.{has_room}
use Rattle.wavelet_container.proofs.Judging.{can_pass, no_room_full}
use Rattle.wavelet_container.proofs.cached.CachedHistory.decide_valid.Goals as goal

pub passed-requires : goal.passed-requires
passed-requires c =
    let legal = subst (λ (h : HistoryOf). IsLegal h.name h.deltas) c.history-3.ensures.value c.deltas.ensures.legal in
    let room : has_room c.args.self.now c.args.submission.now.ops ≡ true = ap (λ (h : HistoryOf). has_room h c.args.submission.now.ops) (sym c.history-2.ensures.value) ∙ sym c.if-not-has_room.ensures in
    let since = take_rest c.deltas.result.now c.args.place ∙ ap (drop c.args.place) (c.deltas.ensures.value ∙ ap (λ (h : HistoryOf). h.deltas) c.history-3.ensures.value) in
    can_pass c.args.self.now c.args.submission.now c.args.place _ legal c.requires.base c.requires.valid room since

pub returns-then-not-has_room-clause-full : goal.returns-then-not-has_room-clause-full
returns-then-not-has_room-clause-full c =
    let legal = subst (λ (h : HistoryOf). IsLegal h.name h.deltas) c.history.ensures.value c.deltas-deltas.ensures.legal in
    let room : has_room c.args.self.now c.args.submission.now.ops ≡ false = ap (λ (h : HistoryOf). has_room h c.args.submission.now.ops) (sym c.history-2.ensures.value) ∙ sym c.if-not-has_room.ensures in
    no_room_full c.args.self.now c.args.submission.now c.args.time c.args.place c.in_ok-verdict.verdict legal c.requires.base room c.in_ok-verdict.ensures.verdict
