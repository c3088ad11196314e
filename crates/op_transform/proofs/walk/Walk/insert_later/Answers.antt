use Rattle.std.proofs.Common.{ap, ◌+◌, arith, rules}
use Rattle.op_transform.proofs.Arms.{later_inserted}
use Rattle.op_transform.proofs.Rooms.{inserted_within}
use Rattle.op_transform.proofs.walk.Walk.insert_later.Goals as goal

pub returns-clause-passed : goal.returns-clause-passed
returns-clause-passed c = later_inserted _ _ _ _ _ _ _ c.in_ok-insert.ensures

pub returns-clause-room : goal.returns-clause-room
returns-clause-room c =
    let w = inserted_within _ _ _ _ _ _ c.args.self.now.place c.args.self.now.length c.len.result c.in_ok-insert.ensures c.len.ensures c.requires.0.0 c.requires.0.1 in
    let room = c.requires.0.2 in
    ((w.0, w.1, omega (arith, room)), ap (λ n. c.args.self.now.length + n) c.len.ensures)

pub returns-clause-touched : goal.returns-clause-touched
returns-clause-touched c = search rules
