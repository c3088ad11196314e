use Rattle.std.proofs.Common.{ℕ, ◌≡◌, ◌≤◌, [], List, length, take, sym, ap, subst, arith, length-take}
use Rattle.std.specs.Io.KnownBytes.{Consumes, IsAtEnd}
use Rattle.line_loop.proofs.Telling.{Keeps-consumes}
use Rattle.client_session.specs.Machine.{machine_of}
use Rattle.client_terminal.specs.Going.{IsReading}
use Rattle.client_terminal.proofs.Ending.{pumped_fed, cut_fed, pumped_end, cut_unread, fed_room, end_room}
use Rattle.client_terminal.proofs.run.pump.Goals as goal

pub returns-in_default-clause-halts : goal.returns-in_default-clause-halts
returns-in_default-clause-halts g c = λ o read h.
    let a = g.S.Source.left c.args.source.now in
    let b = g.S.Source.left c.read.new.self in
    cut_unread g.L.Link.tells o (length c.args.buffer.now) (machine_of c.args.client.now) read c.args.line.now.items a b (g.L.Link.events c.args.link.now) (g.W.Sink.written c.args.sink.now) (Keeps-consumes a b c.in_default.ensures.bytes) h

pub returns-in-Ok-finish-clause-goes : goal.returns-in-Ok-finish-clause-goes
returns-in-Ok-finish-clause-goes g c = λ o read h.
    let a = g.S.Source.left c.args.source.now in
    let b = g.S.Source.left c.read.new.self in
    let m = machine_of c.args.client.now in
    let same = c.read.auto.into in
    let room = c.requires.room in
    let taken : Consumes a b [] = subst (Consumes a b) (ap (λ (n : ℕ). take n c.read.new.into) c.if-count-eq0.true) c.in-Ok.ensures.bytes.0 in
    let last : IsAtEnd b = c.in-Ok.ensures.bytes.1 c.if-count-eq0.true (omega (arith, room, same)) in
    pumped_end g.L.Link.tells o (length c.args.buffer.now) (machine_of c.finish.new.client) read c.args.line.now.items a b (g.L.Link.events c.finish.new.link) (g.W.Sink.written c.finish.new.sink) taken c.in-Ok-finish.mood c.ended.result c.ended.ensures last
    (c.in-Ok-finish.ensures.goes o read (subst (λ (z : List ℕ). IsReading g.L.Link.tells o m read z (g.L.Link.events c.args.link.now) (g.W.Sink.written c.args.sink.now)) (sym c.as_slice.ensures.value) h))

pub returns-in-Ok-feed-clause-goes : goal.returns-in-Ok-feed-clause-goes
returns-in-Ok-feed-clause-goes g c = λ o read h.
    let n = c.in-Ok.count in
    let same = c.read.auto.into in
    let most = c.in-Ok.ensures.bound in
    let len : length (take n c.read.new.into) ≡ n = omega (arith, most, length-take n c.read.new.into) in
    let small : n ≤ length c.args.buffer.now = omega (arith, most, same) in
    pumped_fed g.L.Link.tells o (length c.args.buffer.now) (machine_of c.feed.new.client) read c.feed.new.line.items (g.S.Source.left c.args.source.now) (g.S.Source.left c.read.new.self) (g.L.Link.events c.feed.new.link) (g.W.Sink.written c.feed.new.sink)
    (take n c.read.new.into) n c.in-Ok.ensures.bytes.0 len small c.in-Ok-feed.mood c.pumped.result c.pumped.ensures (c.in-Ok-feed.ensures.goes o read h)

pub returns-in-Err-feed-clause-halts : goal.returns-in-Err-feed-clause-halts
returns-in-Err-feed-clause-halts g c = λ o read h.
    let n = c.in-Ok.count in
    let same = c.read.auto.into in
    let most = c.in-Ok.ensures.bound in
    let len : length (take n c.read.new.into) ≡ n = omega (arith, most, length-take n c.read.new.into) in
    let small : n ≤ length c.args.buffer.now = omega (arith, most, same) in
    cut_fed g.L.Link.tells o (length c.args.buffer.now) (machine_of c.feed.new.client) read c.feed.new.line.items (g.S.Source.left c.args.source.now) (g.S.Source.left c.read.new.self) (g.L.Link.events c.feed.new.link) (g.W.Sink.written c.feed.new.sink)
    (take n c.read.new.into) n c.in-Ok.ensures.bytes.0 len small c.in-Err-feed.stop c.in-Err-feed.ensures.cause (c.in-Err-feed.ensures.halts o read h)

pub returns-in-Ok-finish-clause-bound : goal.returns-in-Ok-finish-clause-bound
returns-in-Ok-finish-clause-bound g c = end_room (length c.args.buffer.now) c.in-Ok-finish.mood c.ended.result c.ended.ensures

pub returns-in-Ok-feed-clause-bound : goal.returns-in-Ok-feed-clause-bound
returns-in-Ok-feed-clause-bound g c =
    let n = c.in-Ok.count in
    let same = c.read.auto.into in
    let most = c.in-Ok.ensures.bound in
    let apart = c.if-count-eq0.false in
    fed_room (length c.args.buffer.now) n (omega (arith, apart)) (omega (arith, most, same)) c.in-Ok-feed.mood c.pumped.result c.pumped.ensures
