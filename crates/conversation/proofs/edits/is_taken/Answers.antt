use Rattle.std.proofs.Common.{◌∙◌}
use Rattle.conversation.specs.Search.{is_wanted}
use Rattle.conversation.specs.declared.search.Want.TheVariants.{OfAny}
use Rattle.conversation.proofs.Editing.{there_is}
use Rattle.conversation.proofs.edits.is_taken.Goals as goal

pub returns : goal.returns
returns g c = c.is_some.ensures ∙ there_is (g.D.Items.items c.args.manifest.now) (is_wanted OfAny c.args.id.now) c.find.result c.find.ensures
