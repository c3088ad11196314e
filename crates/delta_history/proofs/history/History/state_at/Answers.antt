use Rattle.std.proofs.Common.{ℕ, IsSome, sym, ap, subst, ◌∙◌, take, option_and_then}
use Rattle.wavelet_op.specs.States.{empty_state}
use Rattle.delta_history.specs.Histories.{HistoryOf}
use Rattle.delta_history.specs.Points.{run_all, point_at, state_of}
use Rattle.delta_history.proofs.Finding.{state_is, front_runs}
use Rattle.delta_history.proofs.history.History.state_at.Goals as goal

pub state_after-requires : goal.state_after-requires
state_after-requires c =
    let h = c.self.inside.log in
    subst (λ ds. IsSome (run_all empty_state (take c.in-Some.count ds))) (sym c.deltas-deltas.ensures.value) (front_runs h.name h.deltas c.in-Some.count c.deltas-deltas.ensures.legal)

pub returns-in_ok-state_after-in-Some : goal.returns-in_ok-state_after-in-Some
returns-in_ok-state_after-in-Some c =
    let h = c.self.inside.log in
    let found = state_is h.name h.deltas c.args.version c.deltas-deltas.ensures.legal in
    let counted = ap (option_and_then (λ (k : ℕ). run_all empty_state (take k h.deltas))) (sym c.in-Some.ensures.value) in
    let state = found ∙ counted ∙ ap (λ ds. run_all empty_state (take c.in-Some.count ds)) (sym c.deltas-deltas.ensures.value) ∙ c.in_ok-state_after-in-Some.ensures in
    sym state ∙ ap (λ (g : HistoryOf). state_of (point_at g.name g.deltas c.args.version)) c.self.view_is

pub returns-in-None : goal.returns-in-None
returns-in-None c =
    let h = c.self.inside.log in
    let none = state_is h.name h.deltas c.args.version c.deltas-deltas.ensures.legal ∙ ap (option_and_then (λ (k : ℕ). run_all empty_state (take k h.deltas))) (sym c.in-None.ensures.value) in
    sym none ∙ ap (λ (g : HistoryOf). state_of (point_at g.name g.deltas c.args.version)) c.self.view_is
