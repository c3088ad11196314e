use Rattle.std.proofs.Common.{◌≡◌, ◌-◌, ◌<◌, length, Some, sym, ◌∙◌, refl, arith, rules}
use Rattle.std.proofs.lemmas.Option.{slice_get_read}
use Rattle.wavelet_op.specs.Acts.{meanings}
use Rattle.wavelet_op.specs.States.{run}
use Rattle.wave_playback.proofs.Stands.{back_at, back_goes, not_none}
use Rattle.wave_playback.proofs.steps.step_back.Goals as goal

pub apply_valid-requires : goal.apply_valid-requires
apply_valid-requires c =
    let h = c.args.history.now in
    let held = c.args.backs.now.items in
    let k = c.args.place - 1 in
    let inside : k < length held = omega (arith, c.requires.some, c.requires.reached) in
    let is : c.index.result.now ≡ Some c.in-Some.ops = search rules in
    let got = slice_get_read held (length held) k c.index.result.now refl inside c.index.ensures ∙ (λ i. Some (is i)) in
    let at = back_at h held c.args.place c.in-Some.ops c.args.state.now c.deltas-deltas.ensures.legal c.requires.backs c.requires.some got c.requires.here in
    not_none _ (back_goes h k c.args.state.now (run c.args.state.now (meanings c.in-Some.ops)) c.deltas-deltas.ensures.legal at)

pub returns-in_ok-apply_valid-in-Some-clause-ok : goal.returns-in_ok-apply_valid-in-Some-clause-ok
returns-in_ok-apply_valid-in-Some-clause-ok c =
    let h = c.args.history.now in
    let held = c.args.backs.now.items in
    let k = c.args.place - 1 in
    let inside : k < length held = omega (arith, c.requires.some, c.requires.reached) in
    let is : c.index.result.now ≡ Some c.in-Some.ops = search rules in
    let got = slice_get_read held (length held) k c.index.result.now refl inside c.index.ensures ∙ (λ i. Some (is i)) in
    let at = back_at h held c.args.place c.in-Some.ops c.args.state.now c.deltas-deltas.ensures.legal c.requires.backs c.requires.some got c.requires.here in
    sym at ∙ c.in_ok-apply_valid-in-Some.ensures.ok
