use Rattle.std.proofs.Common.{◌≡◌, ◌-◌, ◌∙◌, sym, ap, length, drop, get_or, le_refl, arith}
use Rattle.std.proofs.lemmas.List.{drop_all}
use Rattle.wavelet_op.specs.Acts.{meanings}
use Rattle.robot_host.specs.Presence.{were_before}
use Rattle.robot_host.proofs.Participants.{step_before}
use Rattle.robot_host.proofs.presence.were_before.Goals as goal

pub loop-left-init : goal.loop-left-init
loop-left-init c =
    let long : length c.as_slice-list.result.now ≡ length c.args.ops.now = ap length c.as_slice-list.ensures.value in
    record {
      here = ap (λ z. were_before c.args.address.now (meanings (drop z c.args.ops.now)) c.args.now) long ∙ ap (λ z. were_before c.args.address.now (meanings z) c.args.now) (drop_all (length c.args.ops.now) c.args.ops.now (le_refl _));
      within = omega (arith, long);
      same = c.as_slice-list.ensures.value;
    }

pub loop-left-preserved : goal.loop-left-preserved
loop-left-preserved c = record {
  here = step_before c.args.address.now c.args.ops.now c.args.now c.loop-left.here c.was_before-here.result c.loop-left.left c.index-list-left.result c.loop-left-test.true c.loop-left.invariant.within (c.index-list-left.is ∙ ap (λ z. get_or z (c.loop-left.left - 1) c.index-list-left.result) c.loop-left.invariant.same) c.loop-left.invariant.here c.was_before-here.ensures;
  within = let w = c.loop-left.invariant.within in omega (arith, w);
  same = c.loop-left.invariant.same;
}

pub returns : goal.returns
returns c =
    let none : c.loop-left.left ≡ 0 = let w = c.loop-left-test.false in omega (arith, w) in
    sym c.loop-left.invariant.here ∙ ap (λ z. were_before c.args.address.now (meanings (drop z c.args.ops.now)) c.args.now) none
