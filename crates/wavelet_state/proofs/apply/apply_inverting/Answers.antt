use Rattle.std.proofs.Common.{ap, ◌∙◌}
use Rattle.wavelet_op.specs.Acts.{meanings}
use Rattle.wavelet_op.specs.States.{run}
use Rattle.wavelet_state.specs.Inverses.{inverse_acts}
use Rattle.wavelet_state.proofs.Inverses.{acts_back_law, gathered}
use Rattle.wavelet_state.proofs.apply.apply_inverting.Goals as goal

pub returns-clause-back : goal.returns-clause-back
returns-clause-back c =
    let s = c.args.state.now in
    let t = c.apply_list.new.state in
    let acts = meanings c.as_slice.result.now in
    ap (run t) (gathered (inverse_acts s acts) c.apply_list.new.back c.in-Some.back c.new.result c.in-Some.is c.new.ensures c.in_default.ensures.back) ∙ acts_back_law s t acts c.whole.ensures c.in_default.ensures.ok
