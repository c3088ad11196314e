use Rattle.std.proofs.Common.{map}
use Rattle.std.specs.Option.{option_copied}
use Rattle.op_build.specs.Edits.{range, noted}
use Rattle.op_build.specs.Plans.{annotate_one}
use Rattle.op_build.proofs.Made.{made}
use Rattle.op_build.proofs.Changed.{annotation_takes}
use Rattle.op_build.proofs.annotation.annotate.Goals as goal

pub returns-clause-edit : goal.returns-clause-edit
returns-clause-edit g c =
    let items = g.D.Items.items c.args.document.now in
    let key = c.args.key.now in
    let value = option_copied c.args.value in
    let here = range items c.args.from c.args.count in
    made items c.args.from c.args.count (map (annotate_one key value) here) (map (noted key value) here) c.in_ok-op.op c.in_ok-check_range.ensures.can.1 (annotation_takes key value here) c.in_ok-op.ensures.acts c.in_ok-op.ensures.normal
