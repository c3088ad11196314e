use Rattle.std.proofs.Common.{◌≡◌, ℕ, sym, ◌∙◌, Some, None, rules}
use Rattle.doc_op.proofs.Structures.{unbroken_is_structured, structured_is_unbroken}
use Rattle.doc_op.proofs.op.DocOp.is_structured.Goals as goal

some_is_none : (n : ℕ) → Some n ≡ None → ⊥
some_is_none n e = cc

pub returns-in-Some : goal.returns-in-Some
returns-in-Some c = (λ t. absurd (search rules), λ h. absurd (some_is_none c.in-Some.field-0 (c.in-Some.ensures ∙ structured_is_unbroken c.args.self.now h)))

pub returns-in-None : goal.returns-in-None
returns-in-None c = (λ t. unbroken_is_structured c.args.self.now (sym c.in-None.ensures), λ h. search rules)
