use Rattle.std.proofs.lemmas.Result.{on_ok_weaker}
use Rattle.doc_items.specs.declared.item.Content.TheVariants.{Character, Start, End}
use Rattle.op_build.proofs.Erasures.{deleted_one}
use Rattle.op_build.proofs.erasure.erase_content.Goals as goal

pub returns-in-Character : goal.returns-in-Character
returns-in-Character c = on_ok_weaker c.delete.result (deleted_one c.delete.new.self c.args.out.now c.empty-none.result (Character c.in-Character.c) c.args.content.now c.empty-none.ensures c.in-Character.is) c.delete.ensures.added

pub returns-in-Start : goal.returns-in-Start
returns-in-Start c = on_ok_weaker c.delete-in-Start.result (deleted_one c.delete-in-Start.new.self c.args.out.now c.empty-none.result (Start c.in-Start.kind c.in-Start.attributes) c.args.content.now c.empty-none.ensures c.in-Start.is) c.delete-in-Start.ensures.added

pub returns : goal.returns
returns c = on_ok_weaker c.delete-in-End.result (deleted_one c.delete-in-End.new.self c.args.out.now c.empty-none.result End c.args.content.now c.empty-none.ensures c.in-End.is) c.delete-in-End.ensures.added
