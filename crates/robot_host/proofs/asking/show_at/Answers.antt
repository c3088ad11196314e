use Rattle.std.proofs.Common.{rules, ◌≡◌, ◌∙◌, ◌++◌, ap, sym, slice_get, Some, length}
use Rattle.std.proofs.lemmas.Option.{slice_get_read}
use Rattle.robot_host.specs.Reactions.{edit_by}
use Rattle.robot_host.specs.Showing.{after_answer}
use Rattle.robot_host.proofs.Reacting.{reacted}
use Rattle.robot_host.proofs.asking.show_at.Goals as goal

pub returns-clause-shown : goal.returns-clause-shown
returns-clause-shown g c =
    let same = c.deltas.ensures.value in
    let at : slice_get c.args.history.now.deltas c.args.place ≡ Some c.index-deltas-place.result = ap (λ z. slice_get z c.args.place) (sym same) ∙ slice_get_read c.deltas.result.now (length c.args.history.now.deltas) c.args.place c.index-deltas-place.result (sym (ap length same)) c.requires.within c.index-deltas-place.is in
    reacted c.args.history.now c.args.robot c.args.place _ _ c.args.edits.now.items c.follow.new.edits.items c.index-deltas-place.result c.state-state.result.now c.end_of-at.result c.name.result.now c.in_ok-reaction.reaction c.deltas.ensures.legal at
    (search rules) (search rules) (search rules)
    (c.follow.ensures.robot ∙ ap (λ z. after_answer z c.in_ok-reaction.reaction) c.in_ok-reaction.ensures)
    (c.follow.ensures.edits ∙ ap (λ z. z ++ edit_by c.args.robot c.in_ok-id.id c.end_of-at.result c.in_ok-reaction.reaction) c.in_ok-reserve.ensures.items ∙ ap (λ z. c.args.edits.now.items ++ edit_by c.args.robot z c.end_of-at.result c.in_ok-reaction.reaction) c.in_ok-id.ensures)
