use Rattle.op_codec.proofs.Found.{is_same, each_ok}
use Rattle.op_codec.proofs.reading.is_normal.Goals as goal

pub returns : goal.returns
returns c = each_ok c.spells.result _ _ _ (λ b same short. is_same c.args.op.now c.in_ok-normal.normal c.args.bytes.now b c.requires.read c.requires.spelled c.requires.built c.as_slice-components.ensures.built c.in_ok-normal.ensures.normal same short) c.spells.ensures.same c.spells.ensures.spelled
