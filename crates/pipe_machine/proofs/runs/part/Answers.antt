use Rattle.std.proofs.Common.{rules, ◌≡◌, ◌<◌, ◌+◌, ◌++◌, ◌∷◌, [], length, take, drop, get_or, arith}
use Rattle.std.proofs.lemmas.List.{take-append-drop}
use Rattle.pipe_machine.specs.declared.runs.Run.{Run}
use Rattle.pipe_machine.proofs.Running.{parted, unparted}
use Rattle.pipe_machine.proofs.runs.part.Goals as goal

pub returns-in_err-tail-clause-same : goal.returns-in_err-tail-clause-same
returns-in_err-tail-clause-same c =
    let rs = c.args.runs.now.items in
    let is = c.insert.new.self.items in
    let i = c.args.index in
    let e : Run = record { seats = c.new.result } in
    let a : Run = record { seats = c.split_off.new.self } in
    let d = c.index_mut.result.now in
    let inside : i < length rs = omega (arith, c.if-index-len.false, c.len.ensures) in
    let same : a.seats.items ≡ (get_or is i d).seats.items = search rules in
    unparted rs is i e a d inside c.new.ensures.items c.in_ok-insert.ensures.items same

pub returns-clause-same : goal.returns-clause-same
returns-clause-same c =
    let rs = c.args.runs.now.items in
    let is = c.insert.new.self.items in
    let i = c.args.index in
    let e : Run = record { seats = c.new.result } in
    let a : Run = record { seats = c.split_off.new.self } in
    let b : Run = record { seats = c.in_ok-tail.tail } in
    let d = c.index_mut.result.now in
    let inside : i < length rs = omega (arith, c.if-index-len.false, c.len.ensures) in
    let both : a.seats.items ++ b.seats.items ≡ (get_or is i d).seats.items = search (rules, take-append-drop 128 d.seats.items) in
    parted rs is i e a b d inside c.in_ok-insert.ensures.items both
