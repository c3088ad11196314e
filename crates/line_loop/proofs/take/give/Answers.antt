use Rattle.std.proofs.Common.{◌≡◌, ◌<◌, ◌∷◌, [], take, length, arith, sym}
use Rattle.std.proofs.lemmas.Bool.{eqb-false}
use Rattle.line_loop.specs.Lines.{given}
use Rattle.line_loop.proofs.Answering.{line_taken, line_tried}
use Rattle.line_loop.proofs.Cutting.{given-front}
use Rattle.line_loop.proofs.take.give.Goals as goal

pub returns-clause-ok : goal.returns-clause-ok
returns-clause-ok g c =
    let some : 0 < length c.args.line.now = let none = eqb-false (length c.args.line.now) 0 (sym c.if-is_empty.ensures) in omega arith in
    let same : take c.min-count.result c.args.line.now ∷ [] ≡ given (c.args.line.now ∷ []) = given-front c.min-count.result c.args.line.now some c.min-count.ensures in
    line_taken g.M.LineMachine g.C.Clock c.turn.result c.args.machine.now c.turn.new.self c.args.clock.now c.now-time.new.self c.args.out.now.items c.turn.new.out.items
    c.now-time.result c.min-count.result c.args.line.now c.now-time.ensures.value c.now-time.ensures.rest same
    c.turn.ensures.answered c.turn.ensures.reached c.turn.ensures.since c.turn.ensures.calm

pub returns-clause-err : goal.returns-clause-err
returns-clause-err g c =
    let some : 0 < length c.args.line.now = let none = eqb-false (length c.args.line.now) 0 (sym c.if-is_empty.ensures) in omega arith in
    let same : take c.min-count.result c.args.line.now ∷ [] ≡ given (c.args.line.now ∷ []) = given-front c.min-count.result c.args.line.now some c.min-count.ensures in
    line_tried g.M.LineMachine c.turn.result c.args.machine.now c.turn.new.self c.now-time.result c.min-count.result c.args.line.now same c.turn.ensures.since c.turn.ensures.tried
