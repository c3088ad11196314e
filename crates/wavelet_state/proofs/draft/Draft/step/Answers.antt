use Rattle.std.proofs.Common.{sym, ap, subst, ◌∙◌}
use Rattle.std.specs.Option.{option_map}
use Rattle.doc_op.specs.Actions.{actions}
use Rattle.wavelet_op.specs.Acts.{Act, meaning}
use Rattle.wavelet_op.specs.States.{apply_act}
use Rattle.wavelet_state.specs.Drafts.{whole}
use Rattle.wavelet_state.proofs.Drafts.{IsOnRoles, role_law, document_law, fault_to, if_err_to}
use Rattle.wavelet_state.proofs.Parts.{ok_to}
use Rattle.wavelet_state.proofs.draft.Draft.step.Goals as goal

pub returns-in-NoOp-clause-ok : goal.returns-in-NoOp-clause-ok
returns-in-NoOp-clause-ok c = ap (λ o. apply_act (whole c.args.self.now.roles c.args.self.now.documents) (meaning o)) c.in-NoOp.is ∙ role_law _ c.args.self.now.roles c.args.self.now.documents tt

pub returns-in-Add-clause-ok : goal.returns-in-Add-clause-ok
returns-in-Add-clause-ok c =
    let on = subst (λ (a : Act). IsOnRoles a) (sym (ap meaning c.in-Add.is)) tt in
    ok_to c.step.result (λ e. role_law (meaning c.args.op.now) c.args.self.now.roles c.args.self.now.documents on ∙ ap (option_map (λ x. whole x c.args.self.now.documents)) e) c.step.ensures.ok

pub returns-in-Add-clause-refused : goal.returns-in-Add-clause-refused
returns-in-Add-clause-refused c =
    let on = subst (λ (a : Act). IsOnRoles a) (sym (ap meaning c.in-Add.is)) tt in
    if_err_to c.step.result _ _ (λ f. fault_to c.args.index _ _ f (λ e. role_law (meaning c.args.op.now) c.args.self.now.roles c.args.self.now.documents on ∙ ap (option_map (λ x. whole x c.args.self.now.documents)) e)) c.step.ensures.refused

pub returns-in-Remove-clause-ok : goal.returns-in-Remove-clause-ok
returns-in-Remove-clause-ok c =
    let on = subst (λ (a : Act). IsOnRoles a) (sym (ap meaning c.in-Remove.is)) tt in
    ok_to c.step-in-Remove.result (λ e. role_law (meaning c.args.op.now) c.args.self.now.roles c.args.self.now.documents on ∙ ap (option_map (λ x. whole x c.args.self.now.documents)) e) c.step-in-Remove.ensures.ok

pub returns-in-Remove-clause-refused : goal.returns-in-Remove-clause-refused
returns-in-Remove-clause-refused c =
    let on = subst (λ (a : Act). IsOnRoles a) (sym (ap meaning c.in-Remove.is)) tt in
    if_err_to c.step-in-Remove.result _ _ (λ f. fault_to c.args.index _ _ f (λ e. role_law (meaning c.args.op.now) c.args.self.now.roles c.args.self.now.documents on ∙ ap (option_map (λ x. whole x c.args.self.now.documents)) e)) c.step-in-Remove.ensures.refused

pub returns-in-SetRole-clause-ok : goal.returns-in-SetRole-clause-ok
returns-in-SetRole-clause-ok c =
    let on = subst (λ (a : Act). IsOnRoles a) (sym (ap meaning c.in-SetRole.is)) tt in
    ok_to c.step-in-SetRole.result (λ e. role_law (meaning c.args.op.now) c.args.self.now.roles c.args.self.now.documents on ∙ ap (option_map (λ x. whole x c.args.self.now.documents)) e) c.step-in-SetRole.ensures.ok

pub returns-in-SetRole-clause-refused : goal.returns-in-SetRole-clause-refused
returns-in-SetRole-clause-refused c =
    let on = subst (λ (a : Act). IsOnRoles a) (sym (ap meaning c.in-SetRole.is)) tt in
    if_err_to c.step-in-SetRole.result _ _ (λ f. fault_to c.args.index _ _ f (λ e. role_law (meaning c.args.op.now) c.args.self.now.roles c.args.self.now.documents on ∙ ap (option_map (λ x. whole x c.args.self.now.documents)) e)) c.step-in-SetRole.ensures.refused

pub returns-in-Mutate-clause-ok : goal.returns-in-Mutate-clause-ok
returns-in-Mutate-clause-ok c =
    ok_to c.mutate.result
    (λ e. ap (λ o. apply_act (whole c.args.self.now.roles c.args.self.now.documents) (meaning o)) c.in-Mutate.is
    ∙ document_law c.args.self.now.roles c.args.self.now.documents c.in-Mutate.document (actions c.in-Mutate.op) ∙ ap (option_map (λ x. whole c.args.self.now.roles x)) e)
    c.mutate.ensures.ok

pub returns-in-Mutate-clause-refused : goal.returns-in-Mutate-clause-refused
returns-in-Mutate-clause-refused c =
    if_err_to c.mutate.result _ _
    (λ f. fault_to c.args.index _ _ f (λ e. ap (λ o. apply_act (whole c.args.self.now.roles c.args.self.now.documents) (meaning o)) c.in-Mutate.is
    ∙ document_law c.args.self.now.roles c.args.self.now.documents c.in-Mutate.document (actions c.in-Mutate.op) ∙ ap (option_map (λ x. whole c.args.self.now.roles x)) e))
    c.mutate.ensures.refused
