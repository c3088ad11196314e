use Rattle.std.proofs.Common.{◌≡◌, ◌≤◌, ◌++◌, true, false, ◌&&◌, sym, ap, subst, ◌∙◌, Option, Some}
use Rattle.doc_items.specs.Limits.{max_count}
use Rattle.change_view.specs.Sets.{same_changes}
use Rattle.change_view.proofs.Sets.{same_changes-is}
use Rattle.doc_op.specs.declared.component.Component.{Component}
use Rattle.doc_op.specs.Actions.{actions, component_actions}
use Rattle.doc_op.specs.Lengths.{input_len, output_len}
use Rattle.doc_op.specs.Outputs.{open_component, more_component, shown_changes, shut, joins, IsOpenNormal, IsSettled}
use Rattle.doc_op.proofs.Outputs.{room, grown_open, grown_value, opened, more_value, turn_test, turn_fits, neither}
use Rattle.doc_op.proofs.normal_builder.NormalBuilder.put.Goals as goal
use Rattle.doc_op.proofs.normal_builder.NormalBuilder.put.Goals.{else-is_none-via-then-is_none+else-is_joined_by, else-is_none-via-else-is_none}

pub joined-requires-clause-room : goal.joined-requires-clause-room
joined-requires-clause-room c =
    let w = shown_changes c.args.shown in
    let m = more_component c.args.more in
    room c.self.inside.done (open_component c.self.inside.last) m w (sym c.is_joined_by.ensures ∙ c.if-is_joined_by.true)
    (subst (λ acts. input_len (acts ++ component_actions w m) ≤ max_count) (sym c.self.view_is) c.requires.input)
    (subst (λ acts. output_len (acts ++ component_actions w m) ≤ max_count) (sym c.self.view_is) c.requires.output)

pub invariant_of-result : goal.invariant_of-result
invariant_of-result c =
    let o = open_component c.self.inside.last in
    let d = c.self.inside.done in
    let u = c.self.inside.written in
    let w = shown_changes c.args.shown in
    let m = more_component c.args.more in
    let same : same_changes u w ≡ true = sym (turn_test c.in_ok-turn.turn u w c.is_none.result c.is_none.ensures c.in_ok-turn.ensures) ∙ c.if-is_none.true in
    subst (λ (p : Option Component). IsOpenNormal (actions (d ++ shut p)) d p u) (sym c.in_ok-last.ensures)
    (grown_open d o u w m c.self.invariant c.requires.spelled (sym c.is_joined_by.ensures ∙ c.if-is_joined_by.true) same c.requires.some
    (subst (λ acts. input_len (acts ++ component_actions w m) ≤ max_count) (sym c.self.view_is) c.requires.input)
    (subst (λ acts. output_len (acts ++ component_actions w m) ≤ max_count) (sym c.self.view_is) c.requires.output))

pub returns-then-is_joined_by : goal.returns-then-is_joined_by
returns-then-is_joined_by c =
    let o = open_component c.self.inside.last in
    let d = c.self.inside.done in
    let u = c.self.inside.written in
    let w = shown_changes c.args.shown in
    let m = more_component c.args.more in
    let same : same_changes u w ≡ true = sym (turn_test c.in_ok-turn.turn u w c.is_none.result c.is_none.ensures c.in_ok-turn.ensures) ∙ c.if-is_none.true in
    ap (λ (p : Option Component). actions (d ++ shut p)) c.in_ok-last.ensures ∙ grown_value d o m u c.self.invariant.runs (sym c.is_joined_by.ensures ∙ c.if-is_joined_by.true)
    ∙ (λ k. c.self.view_is k ++ component_actions (same_changes-is u w same k) m)

pub settled-requires-clause-turn : goal.settled-requires-clause-turn
settled-requires-clause-turn c = turn_fits c.in_ok-turn.turn c.self.inside.written (shown_changes c.args.shown) c.in_ok-turn.ensures

pub invariant_of-result-2 : goal.invariant_of-result-2
invariant_of-result-2 c =
    let p = open_component c.self.inside.last in
    let u = c.self.inside.written in
    let w = shown_changes c.args.shown in
    let m = more_component c.args.more in
    let settled = c.in_ok-done.done in
    let turn = c.in_ok-turn.ensures in
    let test : c.is_none.result ≡ same_changes u w = turn_test c.in_ok-turn.turn u w c.is_none.result c.is_none.ensures turn in
    let apart : (joins p m && same_changes u w) ≡ false = elim c.else-is_none.branch [
      | else-is_none-via-then-is_none+else-is_joined_by b ↦ ap (λ j. j && same_changes u w) (sym b.is_joined_by.ensures ∙ b.if-is_joined_by.false)
      | else-is_none-via-else-is_none b ↦ neither (joins p m) (same_changes u w) (sym test ∙ b.if-is_none.false)
    ] in
    subst (λ (o : Option Component). IsOpenNormal (actions (settled ++ shut o)) settled o c.in_ok-done.written) (sym c.in_ok-last-2.ensures)
    (subst (λ v. IsOpenNormal (actions (settled ++ shut (Some m))) settled (Some m) v) (sym (c.in_ok-done.ensures.written w turn))
    (opened c.self.inside.done p u w m settled c.self.invariant (c.in_ok-done.ensures.settled w turn) c.requires.spelled apart c.requires.some
    (subst (λ acts. input_len (acts ++ component_actions w m) ≤ max_count) (sym c.self.view_is) c.requires.input)
    (subst (λ acts. output_len (acts ++ component_actions w m) ≤ max_count) (sym c.self.view_is) c.requires.output)))

pub returns : goal.returns
returns c =
    let w = shown_changes c.args.shown in
    let m = more_component c.args.more in
    let settled = c.in_ok-done.done in
    let kept : IsSettled c.self.inside.done (open_component c.self.inside.last) c.self.inside.written w settled = c.in_ok-done.ensures.settled w c.in_ok-turn.ensures in
    ap (λ (o : Option Component). actions (settled ++ shut o)) c.in_ok-last-2.ensures ∙ more_value settled m w kept.runs
    ∙ ap (λ acts. acts ++ component_actions w m) (kept.acts ∙ c.self.view_is)
