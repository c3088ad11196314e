use Rattle.std.proofs.Common.{sym, ap, ◌∙◌}
use Rattle.doc_op.specs.Apply.{valid}
use Rattle.wavelet_state.proofs.Parts.{is_edit, back_none}
use Rattle.wavelet_state.proofs.documents.Documents.begin.Goals as goal

pub returns-clause-ok : goal.returns-clause-ok
returns-clause-ok c =
    is_edit c.args.op.now c.args.name.now c.args.self.now c.insert.new.self c.apply_rope.new.rope
    (ap (valid c.args.op.now) (back_none c.args.self.now c.args.name.now c.requires ∙ sym c.new-rope.ensures) ∙ c.in_ok-apply_rope.ensures.ok)
    c.in_ok-insert.ensures.ok
