use Rattle.load_script.specs.Loads.{settles}
use Rattle.load_script.specs.Scripts.{load_of}
use Rattle.load_script.proofs.Rounds.{rounds}
use Rattle.load_script.proofs.script.Script.settle.Goals as goal

pub returns : goal.returns
returns c = rounds c.settle_one-4.result (settles c.args.count) (load_of c.args.self.now) (load_of c.settle_one.new.self) (load_of c.settle_one-2.new.self) (load_of c.settle_one-3.new.self) (load_of c.settle_one-4.new.self)
    c.in_ok-settle_one.ensures c.in_ok-settle_one-2.ensures c.in_ok-settle_one-3.ensures c.settle_one-4.ensures
