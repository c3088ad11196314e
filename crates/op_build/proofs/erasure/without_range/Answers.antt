use Rattle.std.proofs.Common.{arith}
use Rattle.op_build.proofs.Counts.{input_retained, output_retained, input_erased, output_erased}
use Rattle.op_build.proofs.erasure.without_range.Goals as goal

pub erase_items-requires-clause-room : goal.erase_items-requires-clause-room
erase_items-requires-clause-room g c = omega (arith, input_retained _ _ c.in_ok-out.ensures, c.requires.inside, c.len-length.ensures.value, c.len-length.ensures.bound)

pub ended-requires-clause-input : goal.ended-requires-clause-input
ended-requires-clause-input g c =
    let erased = input_erased c.erase_items.new.out c.in_ok-out.out (g.D.Items.items c.args.document.now) c.args.from c.args.count c.requires.inside c.in_ok-erase_items.ensures in
    omega (arith, input_retained _ _ c.in_ok-out.ensures, erased, c.requires.inside, c.len-length.ensures.value, c.len-length.ensures.bound)

pub ended-requires-clause-output : goal.ended-requires-clause-output
ended-requires-clause-output g c =
    let erased = output_erased c.erase_items.new.out c.in_ok-out.out (g.D.Items.items c.args.document.now) c.args.from c.args.count c.in_ok-erase_items.ensures in
    omega (arith, output_retained _ _ c.in_ok-out.ensures, erased, c.requires.inside, c.len-length.ensures.value, c.len-length.ensures.bound)
