use Rattle.std.proofs.Common.{◌≡◌, ◌<◌, ◌+◌, ◌-◌, take, ◌++◌, ◌∷◌, [], length, drop, position, Some, sym, ap, ◌∙◌, arith, length-drop, append_assoc, le_refl}
use Rattle.std.proofs.lemmas.List.{take_all, take-append-drop}
use Rattle.line_loop.specs.Lines.{is_line_feed, has_line_feed}
use Rattle.line_loop.proofs.Slices.{slice_end, slice_until}
use Rattle.line_loop.proofs.Answering.{in_part_then, in_part_longer, nothing_in_part, taken_then, taken_open, on_err}
use Rattle.line_loop.proofs.Cutting.{first_line, next_front, no_line_ends}
use Rattle.line_loop.proofs.take.take.Goals as goal

pub end_line-requires : goal.end_line-requires
end_line-requires g c =
    let place : position is_line_feed (drop c.loop-len.from c.args.bytes.now) ≡ Some c.in-Some.len =
    ap (position is_line_feed) (sym (slice_end c.loop-len.from c.args.bytes.now)) ∙ sym c.line_feed.ensures.value ∙ c.in-Some.is in
    ap has_line_feed (slice_until c.loop-len.from c.in-Some.len (drop c.loop-len.from c.args.bytes.now))
    ∙ (first_line (drop c.loop-len.from c.args.bytes.now) c.in-Some.len place).0

pub returns-in_err-end_line-clause-err : goal.returns-in_err-end_line-clause-err
returns-in_err-end_line-clause-err g c =
    let from = c.loop-len.from in
    let bytes = c.args.bytes.now in
    let place : position is_line_feed (drop from bytes) ≡ Some c.in-Some.len = ap (position is_line_feed) (sym (slice_end from bytes)) ∙ sym c.line_feed.ensures.value ∙ c.in-Some.is in
    let front : take from bytes ++ (take (from + c.in-Some.len - from) (drop from bytes) ++ 10 ∷ []) ≡ take (from + (c.in-Some.len + 1)) bytes =
    ap (λ t. take from bytes ++ (t ++ 10 ∷ [])) (slice_until from c.in-Some.len (drop from bytes)) ∙ next_front bytes from c.in-Some.len place in
    let some = in_part_then g.M.LineMachine g.C.Clock c.args.machine.now c.loop-len.machine c.end_line.new.machine c.args.clock.now c.loop-len.clock c.args.out.now.items c.loop-len.out.items
    c.args.begun.now.bytes.items (take from bytes) c.loop-len.begun.bytes.items _ _ front c.loop-len.invariant.taken c.in_err-end_line.ensures.err in
    let all : (c.args.begun.now.bytes.items ++ take (from + (c.in-Some.len + 1)) bytes) ++ drop (from + (c.in-Some.len + 1)) bytes ≡ c.args.begun.now.bytes.items ++ bytes =
    append_assoc c.args.begun.now.bytes.items (take (from + (c.in-Some.len + 1)) bytes) (drop (from + (c.in-Some.len + 1)) bytes)
    ∙ ap (λ t. c.args.begun.now.bytes.items ++ t) (take-append-drop (from + (c.in-Some.len + 1)) bytes) in
    on_err c.from_residual.result
    (rw (← all) (in_part_longer g.M.LineMachine g.C.Clock c.args.machine.now c.end_line.new.machine c.args.clock.now c.args.out.now.items (c.args.begun.now.bytes.items ++ take (from + (c.in-Some.len + 1)) bytes) (drop (from + (c.in-Some.len + 1)) bytes) some))

pub returns-then-is_full-clause-ok : goal.returns-then-is_full-clause-ok
returns-then-is_full-clause-ok g c =
    let left = drop c.loop-len.from c.args.bytes.now in
    let place : position is_line_feed left ≡ Some c.in-Some.len =
    ap (position is_line_feed) (sym (slice_end c.loop-len.from c.args.bytes.now)) ∙ sym c.line_feed.ensures.value ∙ c.in-Some.is in
    taken_then g.M.LineMachine g.C.Clock c.args.machine.now c.loop-len.machine c.end_line.new.machine c.args.clock.now c.loop-len.clock c.end_line.new.clock
    c.args.out.now.items c.loop-len.out.items c.end_line.new.out.items c.args.begun.now.bytes.items (take c.loop-len.from c.args.bytes.now) c.loop-len.begun.bytes.items _ c.end_line.new.begun.bytes.items _
    (ap (λ t. take c.loop-len.from c.args.bytes.now ++ (t ++ 10 ∷ [])) (slice_until c.loop-len.from c.in-Some.len left) ∙ next_front c.args.bytes.now c.loop-len.from c.in-Some.len place)
    c.loop-len.invariant.taken c.in_ok-end_line.ensures.ok

pub loop-len-preserved : goal.loop-len-preserved
loop-len-preserved g c =
    let left = drop c.loop-len.from c.args.bytes.now in
    let place : position is_line_feed left ≡ Some c.in-Some.len =
    ap (position is_line_feed) (sym (slice_end c.loop-len.from c.args.bytes.now)) ∙ sym c.line_feed.ensures.value ∙ c.in-Some.is in
    let low : c.in-Some.len < length left = rw (slice_end) at c.in-Some.ensures.bound in
    record {
      within = omega (arith, low, length-drop c.loop-len.from c.args.bytes.now);
      taken = taken_then g.M.LineMachine g.C.Clock c.args.machine.now c.loop-len.machine c.end_line.new.machine c.args.clock.now c.loop-len.clock c.end_line.new.clock
          c.args.out.now.items c.loop-len.out.items c.end_line.new.out.items c.args.begun.now.bytes.items (take c.loop-len.from c.args.bytes.now) c.loop-len.begun.bytes.items _ c.end_line.new.begun.bytes.items _
          (ap (λ t. take c.loop-len.from c.args.bytes.now ++ (t ++ 10 ∷ [])) (slice_until c.loop-len.from c.in-Some.len left) ∙ next_front c.args.bytes.now c.loop-len.from c.in-Some.len place)
          c.loop-len.invariant.taken c.in_ok-end_line.ensures.ok;
      later = omega (arith, c.loop-len.invariant.later, c.in_ok-end_line.ensures.later);
    }

pub keep-requires : goal.keep-requires
keep-requires g c = no_line_ends (take (length c.args.bytes.now - c.loop-len.from) (drop c.loop-len.from c.args.bytes.now)) (sym c.line_feed.ensures.value ∙ c.in_default.is)

pub returns-in_err-keep-clause-err : goal.returns-in_err-keep-clause-err
returns-in_err-keep-clause-err g c =
    on_err _
    (in_part_then g.M.LineMachine g.C.Clock c.args.machine.now c.loop-len.machine c.loop-len.machine c.args.clock.now c.loop-len.clock c.args.out.now.items c.loop-len.out.items
    c.args.begun.now.bytes.items (take c.loop-len.from c.args.bytes.now) c.loop-len.begun.bytes.items (drop c.loop-len.from c.args.bytes.now) _ (take-append-drop c.loop-len.from c.args.bytes.now)
    c.loop-len.invariant.taken (nothing_in_part g.M.LineMachine g.C.Clock c.loop-len.machine c.loop-len.clock c.loop-len.out.items (c.loop-len.begun.bytes.items ++ drop c.loop-len.from c.args.bytes.now)))

pub returns-clause-ok : goal.returns-clause-ok
returns-clause-ok g c =
    rw (take_all (length c.args.bytes.now) c.args.bytes.now (le_refl _))
    (taken_then g.M.LineMachine g.C.Clock c.args.machine.now c.loop-len.machine c.loop-len.machine c.args.clock.now c.loop-len.clock c.loop-len.clock
    c.args.out.now.items c.loop-len.out.items c.loop-len.out.items c.args.begun.now.bytes.items (take c.loop-len.from c.args.bytes.now) c.loop-len.begun.bytes.items (drop c.loop-len.from c.args.bytes.now) c.keep.new.self.bytes.items _
    (take-append-drop c.loop-len.from c.args.bytes.now)
    c.loop-len.invariant.taken
    (taken_open g.M.LineMachine g.C.Clock c.loop-len.machine c.loop-len.clock c.loop-len.out.items c.loop-len.begun.bytes.items (drop c.loop-len.from c.args.bytes.now) c.keep.new.self.bytes.items
    (rw (← slice_end c.loop-len.from c.args.bytes.now) c.in_ok-keep.ensures)))
