use Rattle.std.proofs.Common.{arith}
use Rattle.load_script.proofs.Screens.{shown_fits}
use Rattle.load_script.proofs.editing.count.Goals as goal

pub returns-in-Some-clause-bound : goal.returns-in-Some-clause-bound
returns-in-Some-clause-bound c =
    let k = shown_fits _ c.in-Some.screen.now c.args.document.now c.state-state.ensures.sound c.in-Some.ensures.value c.requires in
    omega (arith, c.length.ensures, k)

pub returns-in_ok-screen-in-None-clause-bound : goal.returns-in_ok-screen-in-None-clause-bound
returns-in_ok-screen-in-None-clause-bound c =
    let k = shown_fits _ c.in_ok-screen-in-None.screen c.args.document.now c.state-state.ensures.sound c.in_ok-screen-in-None.ensures c.requires in
    omega (arith, c.length-in-None.ensures, k)
