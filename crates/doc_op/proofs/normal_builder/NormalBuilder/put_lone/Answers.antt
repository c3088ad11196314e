use Rattle.std.proofs.Common.{◌≡◌, ◌≤◌, ◌++◌, ◌∷◌, [], sym, ap, subst, ◌∙◌, append-nil, None}
use Rattle.doc_items.specs.Limits.{max_count}
use Rattle.doc_op.specs.Actions.{actions, component_actions, running}
use Rattle.doc_op.specs.Cursors.{IsFitAt}
use Rattle.doc_op.specs.Lengths.{input_len, output_len}
use Rattle.doc_op.specs.Outputs.{open_component, shown_changes, IsOpenNormal, IsSettled}
use Rattle.doc_op.proofs.Outputs.{more_value, set_down, lone_running, turn_fits}
use Rattle.doc_op.proofs.normal_builder.NormalBuilder.put_lone.Goals as goal

pub settled-requires-clause-turn : goal.settled-requires-clause-turn
settled-requires-clause-turn c = turn_fits c.in_ok-turn.turn c.self.inside.written (shown_changes c.args.shown) c.in_ok-turn.ensures

-- the components that are done and the last one are settled
done_settled : (c : goal.In_ok-done) → IsSettled c.self.inside.done (open_component c.self.inside.last) c.self.inside.written (shown_changes c.args.shown) c.in_ok-done.done
done_settled c = c.in_ok-done.ensures.settled (shown_changes c.args.shown) c.in_ok-turn.ensures

-- what the components then stand for
now : (c : goal.In_ok-done) → actions (c.in_ok-done.done ++ c.args.component ∷ []) ≡ c.args.self ++ component_actions (shown_changes c.args.shown) c.args.component
now c =
    let w = shown_changes c.args.shown in
    more_value c.in_ok-done.done c.args.component w (done_settled c).runs
    ∙ ap (λ acts. acts ++ component_actions w c.args.component) ((done_settled c).acts ∙ c.self.view_is)

pub pushed-requires-clause-fit : goal.pushed-requires-clause-fit
pushed-requires-clause-fit c = subst (λ u. IsFitAt u c.args.component) (sym (done_settled c).runs) c.requires.lone.fit

pub pushed-requires-clause-input : goal.pushed-requires-clause-input
pushed-requires-clause-input c = subst (λ acts. input_len acts ≤ max_count) (sym (now c)) c.requires.input

pub pushed-requires-clause-output : goal.pushed-requires-clause-output
pushed-requires-clause-output c = subst (λ acts. output_len acts ≤ max_count) (sym (now c)) c.requires.output

pub invariant_of-result : goal.invariant_of-result
invariant_of-result c =
    let w = shown_changes c.args.shown in
    let d = c.args.component in
    let settled = c.in_ok-done.done in
    let all = c.in_ok-done-2.done in
    let turn = c.in_ok-turn.ensures in
    let kept : IsSettled c.self.inside.done (open_component c.self.inside.last) c.self.inside.written w settled = c.in_ok-done.ensures.settled w turn in
    subst (λ v. IsOpenNormal (actions (all ++ [])) all None v) (sym (c.in_ok-done.ensures.written w turn))
    (set_down c.self.inside.done (open_component c.self.inside.last) c.self.inside.written w d settled all c.self.invariant kept c.requires.lone
    c.in_ok-done-2.ensures.value (c.in_ok-done-2.ensures.runs ∙ lone_running (running settled) d c.requires.lone.lone ∙ kept.runs)
    (subst (λ acts. input_len (acts ++ component_actions w d) ≤ max_count) (sym c.self.view_is) c.requires.input)
    (subst (λ acts. output_len (acts ++ component_actions w d) ≤ max_count) (sym c.self.view_is) c.requires.output))

pub returns : goal.returns
returns c =
    let w = shown_changes c.args.shown in
    let kept : IsSettled c.self.inside.done (open_component c.self.inside.last) c.self.inside.written w c.in_ok-done.done = c.in_ok-done.ensures.settled w c.in_ok-turn.ensures in
    ap actions (append-nil c.in_ok-done-2.done ∙ c.in_ok-done-2.ensures.value) ∙ more_value c.in_ok-done.done c.args.component w kept.runs
    ∙ ap (λ acts. acts ++ component_actions w c.args.component) (kept.acts ∙ c.self.view_is)
