use Rattle.std.proofs.Common.{◌≡◌, false, ap, sym, subst, ◌∙◌, is_some, string_bytes}
use Rattle.std.specs.FinMap as finite
use Rattle.doc_items.specs.Maps.{strings}
use Rattle.doc_items.proofs.Views.{get-strings, put-strings}
use Rattle.doc_op.specs.Running.{IsThere, SameSwitches, KeepsThere}
use Rattle.doc_op.proofs.Switches.{same-insert, kept-insert, there-insert}
use Rattle.doc_op.proofs.running.RunningKeys.reserve.Goals as goal

found : (c : goal.In_ok-insert) → finite.contains_key c.args.self.now c.args.key.now ≡ c.contains_key.result
found c = ap (λ m. finite.contains_key m c.args.key.now) (sym c.self.view_is) ∙ ap is_some (get-strings c.self.inside.switches c.args.key.now) ∙ sym c.contains_key.ensures

made : (c : goal.In_ok-insert) → strings c.insert.new.self.entries ≡ finite.insert c.args.self.now c.args.key.now false
made c =
    put-strings (string_bytes c.in_ok-stored.stored) c.self.inside.switches c.insert.new.self false c.in_ok-insert.ensures.updates
    ∙ (λ i. finite.insert (c.self.view_is i) (c.in_ok-stored.ensures.ok i) false)

pub returns-then-contains_key-clause-there : goal.returns-then-contains_key-clause-there
returns-then-contains_key-clause-there c =
    ap (λ m. finite.contains_key m c.args.key.now) (sym c.self.view_is) ∙ ap is_some (get-strings c.self.inside.switches c.args.key.now) ∙ sym c.contains_key.ensures ∙ c.if-contains_key.true

pub returns-clause-there : goal.returns-clause-there
returns-clause-there c = subst (λ m. IsThere m c.args.key.now) (sym (made c)) (there-insert c.args.self.now c.args.key.now false)

pub returns-clause-same : goal.returns-clause-same
returns-clause-same c = subst (λ m. SameSwitches c.args.self.now m) (sym (made c)) (same-insert c.args.self.now c.args.key.now (found c ∙ c.if-contains_key.false))

pub returns-clause-kept : goal.returns-clause-kept
returns-clause-kept c = subst (λ m. KeepsThere c.args.self.now m) (sym (made c)) (kept-insert c.args.self.now c.args.key.now false)
