use Rattle.std.proofs.Common.{◌≡◌, ◌∷◌, List, Some, sym, ap, subst, ◌∙◌, IfSome, IsSome}
use Rattle.std.specs.FinMap.{get}
use Rattle.std.specs.Option.{option_map}
use Rattle.doc_items.specs.Maps.{Map}
use Rattle.doc_items.specs.declared.item.Item.{Item}
use Rattle.doc_op.specs.Actions.{actions}
use Rattle.wavelet_op.specs.Acts.{Act, Mutates, meaning, meanings}
use Rattle.wavelet_op.specs.States.{run}
use Rattle.wavelet_state.specs.Drafts.{seen, whole, IsRefusedFrom}
use Rattle.wavelet_state.specs.Inverses.{inverse_act, inverse_acts, acts_back, led}
use Rattle.wavelet_state.specs.Parts.{document, trimmed}
use Rattle.wavelet_state.proofs.Drafts.{on_roles_of, role_law, step_refused, edit_refused, edit_act, runs, refused_now, refused_then, if_err_to, trimmed-trim, trim_through, taken_back, back_there}
use Rattle.wavelet_state.proofs.Inverses.{led_on}
use Rattle.wavelet_state.proofs.Parts.{ok_to, not_mutated}
use Rattle.wavelet_state.proofs.draft.Draft.+run.Goals as goal

pub returns-in-Err-clause-refused : goal.returns-in-Err-clause-refused
returns-in-Err-clause-refused t c =
    let s = seen c.args.self.now.roles c.args.self.now.documents in
    let a = meaning c.in-Some.op.now in
    subst (λ (acts : List Act). IsRefusedFrom c.args.index s acts c.in-Err.invalid) (sym (ap meanings c.in-Some.ensures.cases.0))
    (refused_now c.args.index s a (meanings c.in-Some.rest.now) c.in-Err.invalid c.in-Err.ensures.refused)

pub returns-in-Err-step-clause-refused : goal.returns-in-Err-step-clause-refused
returns-in-Err-step-clause-refused t c =
    let r = c.args.self.now.roles in
    let m = c.args.self.now.documents in
    let a = meaning c.in-Some.op.now in
    subst (λ (acts : List Act). IsRefusedFrom c.args.index (seen r m) acts c.in-Err-step.refusal) (sym (ap meanings c.in-Some.ensures.cases.0))
    (refused_now c.args.index (seen r m) a (meanings c.in-Some.rest.now) c.in-Err-step.refusal (step_refused c.args.index a r m c.in-Err-step.refusal (on_roles_of c.in-Some.op.now (λ d x e. c.in_default-op.not-Mutate d x e)) c.in-Err-step.ensures.refused))

pub returns-in_default-op : goal.returns-in_default-op
returns-in_default-op t c =
    let r = c.args.self.now.roles in
    let m = c.args.self.now.documents in
    let a = meaning c.in-Some.op.now in
    let w = ap meanings c.in-Some.ensures.cases.0 in
    let step = role_law a r (trimmed m) (on_roles_of c.in-Some.op.now (λ d x e. c.in_default-op.not-Mutate d x e)) ∙ ap (option_map (λ x. whole x (trimmed m))) c.in_default-step.ensures.ok in
    record {
      ok = ok_to c.run.result (λ e. ap (run (seen r m)) w ∙ runs (seen r m) (seen c.step.new.self m) a (meanings c.in-Some.rest.now) step ∙ e) c.run.ensures.ok;
      back = ok_to c.run.result (λ e. led_on (seen r m) (seen c.step.new.self m) a (meanings c.in-Some.rest.now) (acts_back c.args.back.now) (acts_back c.keep_inverse.new.kept) (acts_back c.run.new.back) step c.in_default-keep_inverse.ensures.ok e
          ∙ ap (λ acts. led (inverse_acts (seen r m) acts) (acts_back c.args.back.now)) (sym w)) c.run.ensures.back;
      trim = c.run.ensures.trim;
      refused = if_err_to c.run.result _ _
          (λ f h. subst (λ (acts : List Act). IsRefusedFrom c.args.index (seen r m) acts f) (sym w) (refused_then c.args.index (seen r m) (seen c.step.new.self m) a (meanings c.in-Some.rest.now) f step h)) c.run.ensures.refused;
      kept = c.run.ensures.kept;
    }

pub take_back-requires-clause-there : goal.take_back-requires-clause-there
take_back-requires-clause-there t c =
    subst (λ (m : Map (List Item)). IfSome c.in-Ok.before (λ r. IsSome (get m c.in-Mutate.document))) (sym c.in-Err-run.ensures.kept)
    (back_there c.in-Ok.before c.try_edit.new.self c.in-Mutate.document (document c.try_edit.new.self c.in-Mutate.document) c.args.self.now.documents c.in-Ok.ensures.ok.is)

pub returns-in-Ok-run-clause-ok : goal.returns-in-Ok-run-clause-ok
returns-in-Ok-run-clause-ok t c =
    let r = c.args.self.now.roles in
    let m = c.args.self.now.documents in
    let d = c.in-Mutate.document in
    let a = Mutates d (actions c.in-Mutate.change) in
    let w = ap meanings c.in-Some.ensures.cases.0 ∙ ap (λ o. meaning o ∷ meanings c.in-Some.rest.now) c.in-Mutate.is in
    ap (run (seen r m)) w ∙ runs (seen r m) (seen r c.try_edit.new.self) a (meanings c.in-Some.rest.now) (edit_act c.in-Mutate.change d r m c.try_edit.new.self c.in-Ok.ensures.ok)
    ∙ c.in-Ok-run.ensures.ok ∙ ap (λ x. Some (whole c.run-2.new.self.roles x)) (sym (trimmed-trim c.run-2.new.self.documents c.trim.new.self d c.trim.ensures))

pub returns-in-Ok-run-clause-trim : goal.returns-in-Ok-run-clause-trim
returns-in-Ok-run-clause-trim t c =
    trim_through c.args.self.now.documents c.try_edit.new.self c.run-2.new.self.documents c.trim.new.self c.in-Mutate.document (document c.try_edit.new.self c.in-Mutate.document) c.in-Ok.ensures.ok.is
    c.in-Ok-run.ensures.trim c.trim.ensures

pub returns-in-Err-run-clause-refused : goal.returns-in-Err-run-clause-refused
returns-in-Err-run-clause-refused t c =
    let r = c.args.self.now.roles in
    let m = c.args.self.now.documents in
    let d = c.in-Mutate.document in
    let a = Mutates d (actions c.in-Mutate.change) in
    let w = ap meanings c.in-Some.ensures.cases.0 ∙ ap (λ o. meaning o ∷ meanings c.in-Some.rest.now) c.in-Mutate.is in
    subst (λ (acts : List Act). IsRefusedFrom c.args.index (seen r m) acts c.in-Err-run.fault) (sym w)
    (refused_then c.args.index (seen r m) (seen r c.try_edit.new.self) a (meanings c.in-Some.rest.now) c.in-Err-run.fault (edit_act c.in-Mutate.change d r m c.try_edit.new.self c.in-Ok.ensures.ok) c.in-Err-run.ensures.refused)

pub returns-in-Err-run-clause-kept : goal.returns-in-Err-run-clause-kept
returns-in-Err-run-clause-kept t c =
    taken_back c.args.self.now.documents c.try_edit.new.self c.run-2.new.self.documents c.take_back.new.self c.in-Mutate.document (document c.try_edit.new.self c.in-Mutate.document) c.in-Ok.before c.in-Ok.ensures.ok.is
    c.in-Ok.ensures.back.is c.in-Err-run.ensures.kept c.take_back.ensures

pub returns-in-Err-try_edit-clause-refused : goal.returns-in-Err-try_edit-clause-refused
returns-in-Err-try_edit-clause-refused t c =
    let r = c.args.self.now.roles in
    let m = c.args.self.now.documents in
    let d = c.in-Mutate.document in
    let a = Mutates d (actions c.in-Mutate.change) in
    let w = ap meanings c.in-Some.ensures.cases.0 ∙ ap (λ o. meaning o ∷ meanings c.in-Some.rest.now) c.in-Mutate.is in
    subst (λ (acts : List Act). IsRefusedFrom c.args.index (seen r m) acts c.fault_at.result) (sym w)
    (refused_now c.args.index (seen r m) a (meanings c.in-Some.rest.now) c.fault_at.result
    (edit_refused c.args.index c.in-Mutate.change d r m c.fault_at.result (not_mutated c.in-Mutate.change d m c.in-Err-try_edit.fault c.args.index c.fault_at.result c.fault_at.ensures c.in-Err-try_edit.ensures.invalid)))

pub returns-in-Ok-run-clause-back : goal.returns-in-Ok-run-clause-back
returns-in-Ok-run-clause-back t c =
    let r = c.args.self.now.roles in
    let m = c.args.self.now.documents in
    let d = c.in-Mutate.document in
    let a = Mutates d (actions c.in-Mutate.change) in
    let kept : meaning c.in-Some.op.now ≡ a = ap meaning c.in-Mutate.is in
    let w = ap meanings c.in-Some.ensures.cases.0 ∙ ap (λ z. z ∷ meanings c.in-Some.rest.now) kept in
    let noted = c.in_default-keep_inverse.ensures.ok ∙ ap (λ z. led (inverse_act (seen r m) z) (acts_back c.args.back.now)) kept in
    led_on (seen r m) (seen r c.try_edit.new.self) a (meanings c.in-Some.rest.now) (acts_back c.args.back.now) (acts_back c.keep_inverse.new.kept) (acts_back c.run-2.new.back)
    (edit_act c.in-Mutate.change d r m c.try_edit.new.self c.in-Ok.ensures.ok) noted c.in-Ok-run.ensures.back
    ∙ ap (λ acts. led (inverse_acts (seen r m) acts) (acts_back c.args.back.now)) (sym w)
