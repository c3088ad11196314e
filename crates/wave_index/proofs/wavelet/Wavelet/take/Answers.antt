use Rattle.std.proofs.Common.{◌≡◌, ℕ, List, [], ◌∷◌, ◌++◌, Some, cond, sym, ap, subst, ◌∙◌}
use Rattle.delta_history.specs.Histories.{head_of}
use Rattle.delta_history.proofs.Pushes.{same_head}
use Rattle.doc_items.specs.Maps.{Key, same_text}
use Rattle.wavelet_op.specs.Acts.{meanings}
use Rattle.wavelet_op.specs.Deltas.{DeltaOf}
use Rattle.wavelet_op.specs.States.{run}
use Rattle.wavelet_op.specs.declared.op.WaveletOp.{WaveletOp}
use Rattle.wave_index.specs.Changes.{is_changed}
use Rattle.wave_index.specs.Counts.{counted, CountsAs, IsOf}
use Rattle.wave_index.specs.Taken.{TakenOf, point_of}
use Rattle.wave_index.specs.Versions.{version_in}
use Rattle.wave_index.proofs.Keeping.{next_state, words_next, words_back}
use Rattle.wave_index.proofs.Taken.{kept_on}
use Rattle.wave_index.proofs.wavelet.Wavelet.take.Goals as goal

pub invariant_of-self-in-Ok : goal.invariant_of-self-in-Ok
invariant_of-self-in-Ok c =
    let v = c.end_of-end.result in
    let same = c.as_slice-ops.ensures.value ∙ ap (λ (z : DeltaOf). z.ops) c.delta.view_is in
    kept_on c.self.inside.changed.map c.reserve_all.new.self.map c.note_all.new.self.map c.self.inside.history.deltas c.push_applied.new.self.deltas c.args.delta.now v
    c.self.invariant c.in_ok-reserve_all.ensures.same c.end_of-end.ensures
    (λ d. c.note_all.ensures d ∙ ap (λ (ops : List WaveletOp). cond (is_changed d (meanings ops)) v (version_in c.reserve_all.new.self.map d)) same)
    (c.in-Ok.ensures.ok.deltas ∙ ap (λ (z : DeltaOf). c.self.inside.history.deltas ++ z ∷ []) c.in_ok-copy.ensures)

pub returns-in-Ok-clause-words_ok : goal.returns-in-Ok-clause-words_ok
returns-in-Ok-clause-words_ok c =
    let ops = c.as_slice-ops.result.now in
    let before = c.self.inside.history in
    let after = c.push_applied.new.self in
    let copied = c.as_slice-ops.ensures.value ∙ ap (λ (z : DeltaOf). z.ops) (c.delta.view_is ∙ sym c.in_ok-copy.ensures) in
    let goes : run (head_of before).state (meanings ops) ≡ Some (head_of after).state =
    ap (λ (os : List WaveletOp). run (head_of before).state (meanings os)) copied ∙ next_state before after c.in_ok-copy.copy c.deltas-deltas.ensures.legal c.in-Ok.ensures.ok in
    subst (λ (z : TakenOf). (f : Key → Key → Key → ℕ) → IsOf f z.name (point_of z).state → CountsAs c.args.words.now.places f
    → CountsAs c.shift-in-Ok.new.self.places (λ w n d. cond (same_text z.name n) (counted (head_of after).state w d) (f w n d))) c.self.view_is
    (words_next c.args.words.now.places c.shift.new.self.places c.shift-in-Ok.new.self.places ops before.name c.name.result.now c.name-in-Ok.result.now
    (head_of before).state c.state.result.now (head_of after).state c.state-in-Ok.result.now c.name.ensures (c.name-in-Ok.ensures ∙ c.in-Ok.ensures.ok.name) c.state.ensures c.state-in-Ok.ensures goes
    c.shift.ensures c.shift-in-Ok.ensures)

pub returns-in-Err-clause-words_err : goal.returns-in-Err-clause-words_err
returns-in-Err-clause-words_err c =
    let before = c.self.inside.history in
    let after = c.push_applied.new.self in
    let same = ap (λ p. p.state) (same_head before after c.in-Err.ensures.same) in
    subst (λ (z : TakenOf). (f : Key → Key → Key → ℕ) → IsOf f z.name (point_of z).state → CountsAs c.args.words.now.places f → CountsAs c.shift-in-Err.new.self.places f) c.self.view_is
    (words_back c.args.words.now.places c.shift.new.self.places c.shift-in-Err.new.self.places c.as_slice-ops.result.now before.name c.name.result.now c.name-in-Err.result.now
    (head_of before).state c.state.result.now c.state-in-Err.result.now c.name.ensures (c.name-in-Err.ensures ∙ c.in-Err.ensures.same.name) c.state.ensures (c.state-in-Err.ensures ∙ same)
    c.shift.ensures c.shift-in-Err.ensures)
