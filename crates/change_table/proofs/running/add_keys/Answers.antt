use Rattle.std.proofs.Common.{◌∙◌}
use Rattle.std.proofs.lemmas.Result.{on_ok_weaker}
use Rattle.change_table.proofs.Others.{keys_of_others}
use Rattle.change_table.proofs.running.add_keys.Goals as goal

pub returns : goal.returns
returns c =
    on_ok_weaker c.extend.result
    (λ is. keys_of_others c.args.others.now c.in_ok-view.view c.args.touched.now c.extend.new.self c.into_vec.result.items c.in_ok-view.ensures c.as_slice-texts.ensures.texts (c.into_vec.ensures ∙ c.in_ok-keys.ensures) is)
    c.extend.ensures
