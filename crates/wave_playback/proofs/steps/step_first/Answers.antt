use Rattle.std.proofs.Common.{◌≡◌, ◌++◌, ◌∷◌, [], Some, rules, sym, ap, subst, IsSome}
use Rattle.wavelet_op.specs.Acts.{meanings}
use Rattle.wavelet_op.specs.Deltas.{DeltaOf}
use Rattle.wavelet_op.specs.States.{run}
use Rattle.wave_playback.specs.Places.{AreBacks}
use Rattle.wave_playback.proofs.Stands.{got_at, goes_on, next_at, is_back, kept_more, as_ops, not_none}
use Rattle.wave_playback.proofs.steps.step_first.Goals as goal

pub invert_valid-requires : goal.invert_valid-requires
invert_valid-requires c =
    let h = c.args.history.now in
    let d = c.index-deltas-place.result in
    let at = got_at c.deltas.result.now h.deltas c.args.place d c.deltas.ensures.value c.requires.inside c.index-deltas-place.is in
    not_none _ (subst (λ ops. IsSome (run c.args.state.now (meanings ops))) (sym (ap (λ (x : DeltaOf). x.ops) c.delta.view_is)) (goes_on h c.args.place c.args.state.now d c.deltas.ensures.legal c.requires.here at))

pub returns-clause-ok : goal.returns-clause-ok
returns-clause-ok c =
    let h = c.args.history.now in
    let d = c.index-deltas-place.result in
    let at = got_at c.deltas.result.now h.deltas c.args.place d c.deltas.ensures.value c.requires.inside c.index-deltas-place.is in
    next_at h.deltas c.args.place c.args.state.now c.invert_valid.new.state d c.requires.here at
    (subst (λ ops. run c.args.state.now (meanings ops) ≡ Some c.invert_valid.new.state) (ap (λ (x : DeltaOf). x.ops) c.delta.view_is) c.in_ok-back.ensures.ok)

pub returns-clause-backs : goal.returns-clause-backs
returns-clause-backs c =
    let h = c.args.history.now in
    let d = c.index-deltas-place.result in
    let at = got_at c.deltas.result.now h.deltas c.args.place d c.deltas.ensures.value c.requires.inside c.index-deltas-place.is in
    let goes = subst (λ ops. run c.args.state.now (meanings ops) ≡ Some c.invert_valid.new.state) (ap (λ (x : DeltaOf). x.ops) c.delta.view_is) c.in_ok-back.ensures.ok in
    let one = is_back h.deltas c.args.place d c.into_ops.result c.args.state.now c.invert_valid.new.state c.requires.here at goes (as_ops c.in_ok-back.back c.into_ops.result c.args.state.now c.invert_valid.new.state c.into_ops.ensures.value c.in_ok-back.ensures.back) in
    let more = kept_more h.deltas c.args.backs.now.items c.into_ops.result c.args.place c.requires.backs c.requires.next one in
    let same : c.args.backs.now.items ++ c.into_ops.result ∷ [] ≡ c.keep.new.backs.items = search rules in
    subst (AreBacks h.deltas) same more
