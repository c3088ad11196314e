use Rattle.std.proofs.Common.{sym, ◌∙◌}
use Rattle.delta_history.proofs.Indexes.{no_some}
use Rattle.delta_history.proofs.ids.Ids.put.Goals as goal

pub put_there-requires : goal.put_there-requires
put_there-requires c = sym c.contains_key.ensures ∙ c.if-contains_key.true

pub put_author-requires : goal.put_author-requires
put_author-requires c = no_some _ (sym c.contains_key.ensures ∙ c.if-contains_key.false)
