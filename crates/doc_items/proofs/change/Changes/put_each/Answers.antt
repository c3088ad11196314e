use Rattle.std.proofs.Common.{sym, ap, ◌∙◌}
use Rattle.std.specs.Option.{option_map}
use Rattle.std.specs.Str.{encode_utf8_all}
use Rattle.doc_items.specs.Maps.{set_key}
use Rattle.doc_items.specs.Changes.{key_change, change_set, none_running, put}
use Rattle.std.proofs.Common.{take}
use Rattle.doc_items.proofs.ChangeSets.{with_changes_next, put_next, put_none}
use Rattle.doc_items.proofs.change.Changes.put_each.Goals as goal

pub loop-change-init : goal.loop-change-init
loop-change-init c = sym (put_none c.args.map.now)

pub loop-change-preserved : goal.loop-change-preserved
loop-change-preserved c =
    let cs = c.as_slice-change-items.result.now in
    let i = c.loop-change.change-index in
    let d = c.change-item.result in
    c.in_ok-put_in.ensures
    ∙ ap (λ m. set_key m (encode_utf8_all d.key) (option_map encode_utf8_all d.new)) c.loop-change.invariant
    ∙ sym (put_next (change_set (take i cs)) (encode_utf8_all d.key) (key_change d) c.args.map.now)
    ∙ ap (λ u. put u c.args.map.now) (sym (with_changes_next none_running cs i d c.loop-change-test.true c.change-item.is))
