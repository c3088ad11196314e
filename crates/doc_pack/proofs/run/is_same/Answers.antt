use Rattle.std.proofs.Common.{sym, ◌∙◌}
use Rattle.doc_pack.proofs.Rows.{same_item}
use Rattle.doc_pack.proofs.run.is_same.Goals as goal

pub returns-then-is_same_content : goal.returns-then-is_same_content
returns-then-is_same_content c h = same_item c.args.item.now c.args.other.now (c.is_same_content.ensures c.if-is_same_content.true) (sym c.same.ensures ∙ h)
