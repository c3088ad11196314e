use Rattle.std.proofs.Common.{◌+◌, drop, subst, arith, get_or}
use Rattle.std.proofs.lemmas.Result.{err_from_is_err_and}
use Rattle.wave_terminal.specs.Runs.{course_of}
use Rattle.wave_terminal.proofs.Feeding.{IsFeeding, next_byte, none_left, fed_on, cut_here, cut_many, cut_rest, fed_all}
use Rattle.wave_terminal.proofs.feed.feed_bytes.Goals as goal

pub returns-in_err-take_byte-clause-err : goal.returns-in_err-take_byte-clause-err
returns-in_err-take_byte-clause-err g c =
    let p = err_from_is_err_and c.from_residual.result c.from_residual.ensures.1 in
    rw (p.1) (cut_here g.M.CommandMachine.machine _ _ _ _ _ _ c.args.bytes.now c.loop-byte.invariant.feeding p.0 p.2)

pub returns-in_err-write_many-clause-err : goal.returns-in_err-write_many-clause-err
returns-in_err-write_many-clause-err g c =
    let p = err_from_is_err_and c.from_residual-in_err-write_many.result c.from_residual-in_err-write_many.ensures.1 in
    let f = subst (λ r. IsFeeding g.M.CommandMachine.machine (course_of (g.M.CommandMachine.state c.args.machine.now) c.args.begun.now) (course_of (g.M.CommandMachine.state c.loop-byte.machine) c.loop-byte.begun) (g.W.Sink.written c.args.sink.now) (g.W.Sink.written c.loop-byte.sink) c.loop-byte.out.items r c.args.bytes.now)
    (next_byte c.args.bytes.now c.loop-byte.byte-index c.loop-byte-test.true) c.loop-byte.invariant.feeding in
    let w = c.in_err-write_many.ensures.err in
    rw (p.1) (cut_many g.M.CommandMachine.machine _ _ _ _ _ c.loop-byte.out.items c.take_byte.new.out.items c.args.bytes.now (get_or c.args.bytes.now c.loop-byte.byte-index 0) (drop (c.loop-byte.byte-index + 1) c.args.bytes.now) p.0 w.0 f p.2 c.in_ok-take_byte.ensures.text w.1 w.2)

pub loop-byte-preserved : goal.loop-byte-preserved
loop-byte-preserved g c =
    let f = subst (λ r. IsFeeding g.M.CommandMachine.machine (course_of (g.M.CommandMachine.state c.args.machine.now) c.args.begun.now) (course_of (g.M.CommandMachine.state c.loop-byte.machine) c.loop-byte.begun) (g.W.Sink.written c.args.sink.now) (g.W.Sink.written c.loop-byte.sink) c.loop-byte.out.items r c.args.bytes.now)
    (next_byte c.args.bytes.now c.loop-byte.byte-index c.loop-byte-test.true) c.loop-byte.invariant.feeding in
    record {
      feeding = fed_on g.M.CommandMachine.machine _ _ _ _ c.loop-byte.out.items c.args.bytes.now (get_or c.args.bytes.now c.loop-byte.byte-index 0) (drop (c.loop-byte.byte-index + 1) c.args.bytes.now) f _ _ c.take_byte.new.out.items c.write_many.new.out.items c.in_ok-take_byte.ensures.goes c.in_ok-take_byte.ensures.text c.in_ok-write_many.ensures.ok;
      later = omega (arith, c.loop-byte.invariant.later, c.in_ok-write_many.ensures.cause.later);
    }

pub returns-in_err-write_all-clause-err : goal.returns-in_err-write_all-clause-err
returns-in_err-write_all-clause-err g c =
    let p = err_from_is_err_and c.from_residual-in_err-write_all.result c.from_residual-in_err-write_all.ensures.1 in
    let w = rw (c.as_slice.ensures.value) at c.in_err-write_all.ensures.err in
    rw (p.1) (cut_rest g.M.CommandMachine.machine _ _ _ _ _ c.loop-byte.out.items _ c.args.bytes.now p.0 w.0 c.loop-byte.invariant.feeding p.2 w.1 w.2)

pub returns-clause-ok : goal.returns-clause-ok
returns-clause-ok g c =
    fed_all g.M.CommandMachine.machine _ _ _ _ _ c.loop-byte.out.items _ c.args.bytes.now (none_left c.args.bytes.now c.loop-byte.byte-index c.loop-byte-test.false) c.requires c.loop-byte.invariant.feeding (rw (c.as_slice.ensures.value) at c.in_ok-write_all.ensures.ok)
