use Rattle.std.proofs.Common.{◌≡◌}
use Rattle.load_script.specs.Loads.{steps}
use Rattle.load_script.specs.Scripts.{load_of}
use Rattle.load_script.proofs.run.run.Given as goal

abbrev pub invariant-loop-before : goal.invariant-loop-before
invariant-loop-before l = load_of l.script ≡ steps l.before (load_of l.initial.script)
