use Rattle.std.proofs.Common.{[], map}
use Rattle.op_build.specs.Edits.{range}
use Rattle.op_build.specs.Plans.{erase_one}
use Rattle.op_build.proofs.Made.{made}
use Rattle.op_build.proofs.Erasures.{erasure_takes}
use Rattle.op_build.proofs.erasure.erase.Goals as goal

pub returns-clause-edit : goal.returns-clause-edit
returns-clause-edit g c =
    let items = g.D.Items.items c.args.document.now in
    let gone = range items c.args.from c.args.count in
    made items c.args.from c.args.count (map erase_one gone) [] c.in_ok-op.op c.in_ok-check_range.ensures.can.1 (erasure_takes gone (c.is_balanced.ensures.0 c.if-not-is_balanced.false)) c.in_ok-op.ensures.acts c.in_ok-op.ensures.normal
