use Rattle.std.proofs.Common.{sym, ◌∙◌}
use Rattle.doc_pack.proofs.Rows.{same_start}
use Rattle.doc_pack.proofs.run.is_start.Goals as goal

pub returns-then-same : goal.returns-then-same
returns-then-same c h = same_start c.args.content.now _ c.args.kind.now _ c.args.attributes.now c.in-Start.is (sym c.same.ensures ∙ c.if-same.true) (sym c.same-then-same.ensures ∙ h)
