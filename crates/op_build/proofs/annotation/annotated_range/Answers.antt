use Rattle.std.proofs.Common.{arith}
use Rattle.std.specs.Option.{option_copied}
use Rattle.op_build.proofs.Counts.{input_retained, output_retained, input_annotated, output_annotated}
use Rattle.op_build.proofs.annotation.annotated_range.Goals as goal

pub annotate_items-requires-clause-input : goal.annotate_items-requires-clause-input
annotate_items-requires-clause-input g c = omega (arith, input_retained _ _ c.in_ok-out.ensures, c.requires.inside, c.len-length.ensures.value, c.len-length.ensures.bound)

pub annotate_items-requires-clause-output : goal.annotate_items-requires-clause-output
annotate_items-requires-clause-output g c = omega (arith, output_retained _ _ c.in_ok-out.ensures, c.requires.inside, c.len-length.ensures.value, c.len-length.ensures.bound)

pub ended-requires-clause-input : goal.ended-requires-clause-input
ended-requires-clause-input g c =
    let changed = input_annotated c.args.key.now (option_copied c.args.value) c.annotate_items.new.out c.in_ok-out.out (g.D.Items.items c.args.document.now) c.args.from c.args.count c.requires.inside c.in_ok-annotate_items.ensures in
    omega (arith, input_retained _ _ c.in_ok-out.ensures, changed, c.requires.inside, c.len-length.ensures.value, c.len-length.ensures.bound)

pub ended-requires-clause-output : goal.ended-requires-clause-output
ended-requires-clause-output g c =
    let changed = output_annotated c.args.key.now (option_copied c.args.value) c.annotate_items.new.out c.in_ok-out.out (g.D.Items.items c.args.document.now) c.args.from c.args.count c.requires.inside c.in_ok-annotate_items.ensures in
    omega (arith, output_retained _ _ c.in_ok-out.ensures, changed, c.requires.inside, c.len-length.ensures.value, c.len-length.ensures.bound)
